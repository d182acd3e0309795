-- What the check leaves of `sections::Sections::put_once`.
use Rattle.frames.specs.Tally.{framed}
use Rattle.sections.proofs.Filling.{heads_room, filled_none, filled_other, filled_item, filled_starts, filled_fits, filled_done}
use Rattle.sections.proofs.Sections.put_once.Goals as goal

pub put_heads-n-requires-clause-room : goal.put_heads-n-requires-clause-room
put_heads-n-requires-clause-room c = search heads_room

pub loop-id-init : goal.loop-id-init
loop-id-init c = rw c.into_iter-id-iterator.ensures.into_iter_gives (search (filled_none, framed))

pub slice_bounds-copy-count : goal.slice_bounds-copy-count
slice_bounds-copy-count c = search (filled_starts, c.in-Some.ensures.steps)

pub slice_bounds-copy-start : goal.slice_bounds-copy-start
slice_bounds-copy-start c = search (filled_starts, c.in-Some.ensures.steps)

pub overflow_add-places : goal.overflow_add-places
overflow_add-places c = search (filled_fits, c.in-Some.ensures.steps)

pub loop-id-preserved-then-to-gt0 : goal.loop-id-preserved-then-to-gt0
loop-id-preserved-then-to-gt0 c = search (filled_item, c.in-Some.ensures.steps)

pub loop-id-preserved : goal.loop-id-preserved
loop-id-preserved c = search (filled_other, c.in-Some.ensures.steps)

pub returns : goal.returns
returns c = search (filled_done, c.in-None.ensures.steps)
