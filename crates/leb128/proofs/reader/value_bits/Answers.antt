-- `leb128::reader::value_bits` meets its contract. Assumes nothing.
use native.Mathlib.Omega.{arith}
use Rattle.leb128.proofs.reader.value_bits.Goals as goal

pub returns-then-signed : goal.returns-then-signed
returns-then-signed c = rw c.if-signed.true

pub returns-else-signed : goal.returns-else-signed
returns-else-signed c = rw c.if-signed.false (omega arith)
