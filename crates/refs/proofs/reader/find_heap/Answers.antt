-- `refs::reader::find_heap` meets its contract. Assumes nothing.
use Rattle.refs.proofs.Bytes.{abstract_found}
use Rattle.refs.proofs.reader.find_heap.Goals as goal

pub returns-then-x-eq1 : goal.returns-then-x-eq1
returns-then-x-eq1 c = let x = c.in_ok-x.ensures.lookup.3 in search (abstract_found, x.0, x.1 0)
