-- `data::reader::read_memory` meets its contract: what follows 02. Assumes nothing.
use Rattle.data.proofs.Targets.{other_there}
use Rattle.data.proofs.reader.read_memory.Goals as goal

pub returns-else-m-eq0 : goal.returns-else-m-eq0
returns-else-m-eq0 c = let x = c.in_ok-get.ensures.lookup.3 in search (other_there, x.0, x.1 0)
