-- `leb128::reader::sign` meets its contract. Assumes nothing.
use Rattle.leb128.proofs.reader.sign.Goals as goal

pub returns-then-signed : goal.returns-then-signed
returns-then-signed c = rw c.if-signed.true
