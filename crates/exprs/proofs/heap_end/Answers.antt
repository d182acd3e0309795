-- `exprs::heap_end` meets its contract. Assumes nothing.
use Rattle.exprs.proofs.Ends.{none_left, heap_passed, heap_wrong}
use Rattle.exprs.proofs.heap_end.Goals as goal

pub returns-in_err-get : goal.returns-in_err-get
returns-in_err-get c = search (none_left, c.in_err-get.ensures.lookup.3)

pub returns-then-is_heap : goal.returns-then-is_heap
returns-then-is_heap c = let x = c.in_ok-get.ensures.lookup.3 in search (heap_passed, x.0, x.1 0)

pub returns-else-is_heap : goal.returns-else-is_heap
returns-else-is_heap c = let x = c.in_ok-get.ensures.lookup.3 in search (heap_wrong, x.0, x.1 0)
