-- `words::reader::read_list` meets its contract: the count, and then so many members. Assumes nothing.
use Rattle.format.specs.Repeats.{overcounted_list, counted_list}
use Rattle.leb128.proofs.Formats.{u32}
use Rattle.numbers.specs.Decoded.{number_found, number_place}
use Rattle.words.proofs.reader.read_list.Goals as goal

pub returns-then-left-n : goal.returns-then-left-n
returns-then-left-n g c = search (overcounted_list, number_found u32, number_place u32)

pub returns : goal.returns
returns g c = search (counted_list, number_found u32, number_place u32)
