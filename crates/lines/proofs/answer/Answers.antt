-- `lines::answer` meets its contract. Assumes nothing.
use borrow.Author.Rules.{rules}
use Rattle.std.proofs.Common.{◌≤◌, length, sym, length-take-le}
use Rattle.lines.proofs.Answering.{short_told, module_within, line_told}
use Rattle.lines.proofs.answer.Goals as goal

pub returns-then-out-buffer : goal.returns-then-out-buffer
returns-then-out-buffer c = search short_told

pub slice_bounds-put_answer-end : goal.slice_bounds-put_answer-end
slice_bounds-put_answer-end c = search (module_within, rules)

pub slice_bounds-put_answer-end-2 : goal.slice_bounds-put_answer-end-2
slice_bounds-put_answer-end-2 c = let h : c.numbers-number.result.1 ≤ length c.tell_line-t.new.buffer = search module_within in sym (length-take-le _ _ h)

pub returns : goal.returns
returns c = search line_told
