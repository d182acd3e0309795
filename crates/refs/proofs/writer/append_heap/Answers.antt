-- `refs::writer::append_heap` meets its contract. Assumes nothing.
use Rattle.refs.proofs.Heaps.{shared_added, exact_added}
use Rattle.refs.proofs.writer.append_heap.Goals as goal

pub returns-then-shared : goal.returns-then-shared
returns-then-shared c = search shared_added

pub returns-in-Exact : goal.returns-in-Exact
returns-in-Exact c = search exact_added
