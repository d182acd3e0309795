-- `leb128::reader::shorter` meets its contract: a shift tests the bits above those that so many groups hold. Assumes nothing.
use Rattle.leb128.proofs.Reading.{shorter_none, shorter_signed, shorter_plain}
use Rattle.leb128.proofs.reader.shorter.Goals as goal

pub returns-then-shift-eq0 : goal.returns-then-shift-eq0
returns-then-shift-eq0 c = search shorter_none

pub returns-then-signed : goal.returns-then-signed
returns-then-signed c = search shorter_signed

pub returns : goal.returns
returns c = search shorter_plain
