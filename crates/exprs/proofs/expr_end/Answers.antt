-- What the check leaves of `exprs::expr_end`.
use borrow.Author.Rules.{rules}
use Rattle.exprs.proofs.Ends.{bytes_missing, number_ends, number_wrong, number_goes_on, no_instruction, last_instruction, operand_begins, bytes_passed, operand_missing, operand_passed}
use Rattle.exprs.proofs.expr_end.Goals as goal

pub returns-in_err-get : goal.returns-in_err-get
returns-in_err-get c = search (bytes_missing, c.in_err-get.ensures.lookup.3)

pub returns-in_err-opcode : goal.returns-in_err-opcode
returns-in_err-opcode c = let x = c.in_ok-get.ensures.lookup.3 in search (no_instruction, x.0, x.1 0, c.in_err-opcode.was)

pub instructions-preserved-in-Bytes : goal.instructions-preserved-in-Bytes
instructions-preserved-in-Bytes c = let x = c.in_ok-get.ensures.lookup.3 in search (bytes_passed, operand_begins, x.0, x.1 0, c.in_ok-opcode.was, rules)

pub returns-in_err-i-in-Heap : goal.returns-in_err-i-in-Heap
returns-in_err-i-in-Heap c = let x = c.in_ok-get.ensures.lookup.3 in search (operand_missing, operand_begins, x.0, x.1 0, c.in_ok-opcode.was, c.in_err-i-in-Heap.was, rules)

pub instructions-preserved-in-Heap : goal.instructions-preserved-in-Heap
instructions-preserved-in-Heap c = let x = c.in_ok-get.ensures.lookup.3 in search (operand_passed, operand_begins, x.0, x.1 0, c.in_ok-opcode.was, c.in_ok-i-in-Heap.was, rules)

pub loop-left-init : goal.loop-left-init
loop-left-init c = let x = c.in_ok-get.ensures.lookup.3 in search (operand_begins, x.0, x.1 0, c.in_ok-opcode.was, rules)

pub instructions-preserved : goal.instructions-preserved
instructions-preserved c = search number_ends

pub returns-in_err-b-in-Number : goal.returns-in_err-b-in-Number
returns-in_err-b-in-Number c = search (bytes_missing, c.in_err-b-in-Number.ensures.lookup.3)

pub returns-in_err-left-in-Number : goal.returns-in_err-left-in-Number
returns-in_err-left-in-Number c = let x = c.in_ok-b-in-Number.ensures.lookup.3 in search (number_wrong, x.0, x.1 0, c.in_err-left-in-Number.was)

pub loop-left-preserved : goal.loop-left-preserved
loop-left-preserved c = let x = c.in_ok-b-in-Number.ensures.lookup.3 in search (number_goes_on, x.0, x.1 0, rules)

pub returns : goal.returns
returns c = let x = c.in_ok-get.ensures.lookup.3 in search (last_instruction, x.0, x.1 0, c.in_ok-opcode.was, rules)
