-- `modes::reader::read_nowhere` meets its contract. Assumes nothing.
use Rattle.modes.proofs.Places.{nowhere_reads}
use Rattle.modes.proofs.reader.read_nowhere.Goals as goal

pub returns : goal.returns
returns c = search nowhere_reads
