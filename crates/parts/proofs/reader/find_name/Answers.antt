-- `parts::reader::find_name` meets its contract: data that was found, where it is UTF-8. Assumes nothing.
use Rattle.format.proofs.Handing.{took}
use Rattle.parts.proofs.Texts.{data_within, name_there, no_name}
use Rattle.parts.proofs.reader.find_name.Goals as goal

pub slice_bounds-is_name-end : goal.slice_bounds-is_name-end
slice_bounds-is_name-end c = search (took, data_within)

pub returns-then-is_name : goal.returns-then-is_name
returns-then-is_name c = search (took, name_there)

pub returns : goal.returns
returns c = search (took, no_name)
