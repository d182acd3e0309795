-- `leb128::reader::last` meets its contract: the bits of the group that the width has no room for must be empty. Assumes nothing.
use Rattle.leb128.proofs.Reading.{over_width, top_fits, part_topped, part_value}
use Rattle.leb128.proofs.reader.last.Goals as goal

pub returns-then-top-value_bits-ne0 : goal.returns-then-top-value_bits-ne0
returns-then-top-value_bits-ne0 c = search over_width

pub overflow_cast-magnitude : goal.overflow_cast-magnitude
overflow_cast-magnitude c = search top_fits

pub shortest-requires : goal.shortest-requires
shortest-requires c = search part_topped

pub returns : goal.returns
returns c = search part_value
