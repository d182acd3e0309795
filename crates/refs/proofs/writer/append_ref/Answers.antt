-- `refs::writer::append_ref` meets its contract. Assumes nothing.
use Rattle.refs.proofs.Heaps.{alone_added, null_added, non_null_added}
use Rattle.refs.proofs.writer.append_ref.Goals as goal

pub returns-then-is_abstract : goal.returns-then-is_abstract
returns-then-is_abstract c = search alone_added

pub returns-then-r : goal.returns-then-r
returns-then-r c = search null_added

pub returns : goal.returns
returns c = search non_null_added
