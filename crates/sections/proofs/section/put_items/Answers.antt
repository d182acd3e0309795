-- What the check leaves of `sections::section::put_items`.
use Rattle.sections.proofs.Copying.{copied_none, copied_goes, copied_less, copied_other, copied_fits, copied_item, copied_done}
use Rattle.sections.proofs.section.put_items.Goals as goal

pub loop-n-init : goal.loop-n-init
loop-n-init c = search copied_none

pub unwrap-i-requires : goal.unwrap-i-requires
unwrap-i-requires c = search (copied_goes, c.next.ensures.steps)

pub overflow_add-n : goal.overflow_add-n
overflow_add-n c = search (copied_fits, c.next.ensures.steps)

pub loop-n-smaller-then-i-id : goal.loop-n-smaller-then-i-id
loop-n-smaller-then-i-id c = search (copied_less, c.next.ensures.steps)

pub loop-n-preserved-then-i-id : goal.loop-n-preserved-then-i-id
loop-n-preserved-then-i-id c = search (copied_item, c.next.ensures.steps)

pub loop-n-smaller : goal.loop-n-smaller
loop-n-smaller c = search (copied_less, c.next.ensures.steps)

pub loop-n-preserved : goal.loop-n-preserved
loop-n-preserved c = search (copied_other, c.next.ensures.steps)

pub returns : goal.returns
returns c = search copied_done
