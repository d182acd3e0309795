-- `sections::section::section_len` meets its contract: id, size, count and items. Assumes nothing.
use Rattle.sections.proofs.OneSection.{contents_fit, id_size_fit, section_fits, section_few, section_measured}
use Rattle.sections.proofs.section.section_len.Goals as goal

pub overflow_add-size : goal.overflow_add-size
overflow_add-size c = search contents_fit

pub overflow_add-result : goal.overflow_add-result
overflow_add-result c = search id_size_fit

pub overflow_add-result-2 : goal.overflow_add-result-2
overflow_add-result-2 c = search section_fits

pub returns : goal.returns
returns c = (search section_measured, search section_few)
