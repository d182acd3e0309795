-- `leb128::reader::whole` meets its contract: all that was read is turned over at once. Assumes nothing.
use Rattle.leb128.proofs.Reading.{whole_topped, whole_value}
use Rattle.leb128.proofs.reader.whole.Goals as goal

pub shortest-requires : goal.shortest-requires
shortest-requires c = search whole_topped

pub returns : goal.returns
returns c = search whole_value
