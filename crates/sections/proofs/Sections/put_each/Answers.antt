-- What the check leaves of `sections::Sections::put_each`.
use Rattle.frames.specs.Tally.{framed}
use Rattle.sections.proofs.Behind.{behind_starts, behind_fits}
use Rattle.sections.proofs.Listed.{next_below, total_told, total_few, put_none, put_room, put_more}
use Rattle.sections.proofs.Sections.put_each.Goals as goal

pub loop-id-init : goal.loop-id-init
loop-id-init c = search put_none

pub bounds-self-id : goal.bounds-self-id
bounds-self-id c = search next_below

pub slice_bounds-put_section-count : goal.slice_bounds-put_section-count
slice_bounds-put_section-count c = search behind_starts

pub slice_bounds-put_section-start : goal.slice_bounds-put_section-start
slice_bounds-put_section-start c = search behind_starts

pub put_section-n-requires-clause-framed : goal.put_section-n-requires-clause-framed
put_section-n-requires-clause-framed c = search framed

pub put_section-n-requires-clause-totalled : goal.put_section-n-requires-clause-totalled
put_section-n-requires-clause-totalled c = (search (total_told, next_below), search (total_few, next_below))

pub put_section-n-requires-clause-room : goal.put_section-n-requires-clause-room
put_section-n-requires-clause-room c = search put_room

pub overflow_add-n : goal.overflow_add-n
overflow_add-n c = search behind_fits

pub loop-id-preserved : goal.loop-id-preserved
loop-id-preserved c = search put_more
