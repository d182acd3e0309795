-- `modes::writer::walk_nowhere` meets its contract. Assumes nothing.
use Rattle.modes.proofs.Places.{nowhere_there}
use Rattle.modes.proofs.writer.walk_nowhere.Goals as goal

pub returns-in-0 : goal.returns-in-0
returns-in-0 c = let (_, _, from, long) = c.in_ok-get.ensures.lookup.0 in search (nowhere_there, from, long)
