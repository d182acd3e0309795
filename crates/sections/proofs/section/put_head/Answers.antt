-- `sections::section::put_head` meets its contract: an id, a size and a count. Assumes nothing.
use Rattle.sections.proofs.OneSection.{size_fits, count_starts, count_room, head_written, head_fits}
use Rattle.sections.proofs.section.put_head.Goals as goal

pub overflow_add-a : goal.overflow_add-a
overflow_add-a c = search size_fits

pub slice_bounds-put_number-count-2 : goal.slice_bounds-put_number-count-2
slice_bounds-put_number-count-2 c = search count_starts

pub slice_bounds-put_number-start-2 : goal.slice_bounds-put_number-start-2
slice_bounds-put_number-start-2 c = search count_starts

pub put_number-requires : goal.put_number-requires
put_number-requires c = search count_room

pub overflow_add-result : goal.overflow_add-result
overflow_add-result c = search head_fits

pub returns : goal.returns
returns c = search head_written
