-- `hexlines::main` lends a line, a store, a buffer and an output of the lengths that document 01 fixes. Assumes nothing.
use borrow.Author.Rules.{rules}
use Rattle.hexlines.proofs.main.Goals as goal

pub answer_all-t-requires : goal.answer_all-t-requires
answer_all-t-requires c = (search rules, search rules, search rules, search rules)
