-- `subtypes::reader::read_described` meets its contract: what it describes, its descriptor, and what it defines. Assumes nothing.
use Rattle.format.specs.Sequence.{first_missing, second_follows}
use Rattle.subtypes.proofs.Parts.{describes_read, descriptor_read}
use Rattle.subtypes.proofs.reader.read_described.Goals as goal

pub returns-in_err-q : goal.returns-in_err-q
returns-in_err-q c = rw c.from_residual-in_err-q.ensures (search (c.in_ok-p.was, c.in_err-q.was, second_follows describes_read, first_missing descriptor_read))

pub returns : goal.returns
returns c = search (c.in_ok-p.was, c.in_ok-q.was, second_follows describes_read, second_follows descriptor_read)
