-- `vals::reader::read_val` meets its contract. Assumes nothing.
use Rattle.vals.proofs.Bytes.{ref_reads}
use Rattle.vals.proofs.reader.read_val.Goals as goal

pub returns-then-x-lt123 : goal.returns-then-x-lt123
returns-then-x-lt123 c = let x = c.in_ok-x.ensures.lookup.3 in search (ref_reads, x.0, x.1 0)
