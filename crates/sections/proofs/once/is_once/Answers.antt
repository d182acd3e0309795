-- What the check leaves of `sections::once::is_once`.
use Rattle.sections.proofs.Listed.{next_below}
use Rattle.sections.proofs.Seen.{seen_more, seen_twice}
use Rattle.sections.proofs.once.is_once.Goals as goal

pub bounds-seen-id : goal.bounds-seen-id
bounds-seen-id c = search next_below

pub returns-then-seen-id : goal.returns-then-seen-id
returns-then-seen-id c = search seen_twice

pub bounds-seen-id-in-loop-id : goal.bounds-seen-id-in-loop-id
bounds-seen-id-in-loop-id c = search next_below

pub loop-id-preserved : goal.loop-id-preserved
loop-id-preserved c = search seen_more
