-- `refs::reader::find_ref` meets its contract. Assumes nothing.
use Rattle.refs.proofs.Bytes.{non_null_found, alone_found}
use Rattle.refs.proofs.reader.find_ref.Goals as goal

pub returns-in-100 : goal.returns-in-100
returns-in-100 c = let x = c.in_ok-get.ensures.lookup.3 in search (non_null_found, x.0, x.1 0)

pub returns-in_default : goal.returns-in_default
returns-in_default c = let x = c.in_ok-get.ensures.lookup.3 in search (alone_found, x.0, x.1 0)
