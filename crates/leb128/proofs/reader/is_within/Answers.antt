-- `leb128::reader::is_within` meets its contract: the bits that the width has no room for must be empty. Assumes nothing.
use Rattle.leb128.proofs.Reading.{all_within, within_is}
use Rattle.leb128.proofs.reader.is_within.Goals as goal

pub returns-then-bits-ge7 : goal.returns-then-bits-ge7
returns-then-bits-ge7 c = search all_within

pub returns : goal.returns
returns c = search within_is
