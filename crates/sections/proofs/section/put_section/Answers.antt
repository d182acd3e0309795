-- `sections::section::put_section` meets its contract: its head, and its items behind it. Assumes nothing.
use Rattle.sections.proofs.Behind.{behind_starts, behind_fits}
use Rattle.sections.proofs.OneSection.{items_room, section_written}
use Rattle.sections.proofs.section.put_section.Goals as goal

pub slice_bounds-put_items-count : goal.slice_bounds-put_items-count
slice_bounds-put_items-count c = search behind_starts

pub slice_bounds-put_items-start : goal.slice_bounds-put_items-start
slice_bounds-put_items-start c = search behind_starts

pub put_items-requires-clause-room : goal.put_items-requires-clause-room
put_items-requires-clause-room c = search items_room

pub overflow_add-result : goal.overflow_add-result
overflow_add-result c = search behind_fits

pub returns : goal.returns
returns c = search section_written
