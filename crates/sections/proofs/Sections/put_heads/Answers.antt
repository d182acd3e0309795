-- What the check leaves of `sections::Sections::put_heads`.
use Rattle.sections.proofs.Behind.{behind_starts, behind_fits}
use Rattle.sections.proofs.Listed.{next_below, total_few}
use Rattle.sections.proofs.Heading.{heading_none, heading_room, heading_more, heading_fits}
use Rattle.sections.proofs.Sections.put_heads.Goals as goal

pub loop-id-init : goal.loop-id-init
loop-id-init c = search heading_none

pub bounds-self-id : goal.bounds-self-id
bounds-self-id c = search next_below

pub slice_bounds-put_head-count : goal.slice_bounds-put_head-count
slice_bounds-put_head-count c = search behind_starts

pub slice_bounds-put_head-start : goal.slice_bounds-put_head-start
slice_bounds-put_head-start c = search behind_starts

pub put_head-n-requires-clause-total_within : goal.put_head-n-requires-clause-total_within
put_head-n-requires-clause-total_within c = search (total_few, next_below)

pub put_head-n-requires-clause-room : goal.put_head-n-requires-clause-room
put_head-n-requires-clause-room c = search heading_room

pub overflow_add-n : goal.overflow_add-n
overflow_add-n c = search behind_fits

pub bounds-places-id : goal.bounds-places-id
bounds-places-id c = search next_below

pub overflow_add-n-in-loop-id : goal.overflow_add-n-in-loop-id
overflow_add-n-in-loop-id c = search heading_fits

pub loop-id-preserved : goal.loop-id-preserved
loop-id-preserved c = search heading_more
