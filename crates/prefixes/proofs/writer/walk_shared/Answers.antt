-- `prefixes::writer::walk_shared` meets its contract. Assumes nothing.
use Rattle.prefixes.proofs.Words.{shared_not}
use Rattle.prefixes.proofs.writer.walk_shared.Goals as goal

pub returns-in-0 : goal.returns-in-0
returns-in-0 c = let x = c.in_ok-get.ensures.lookup.3 in search (shared_not, x.0, x.1 0)
