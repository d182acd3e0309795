-- `data::writer::walk_target` meets its contract: the words of an active segment. Assumes nothing.
use Rattle.data.proofs.Targets.{active_there}
use Rattle.data.proofs.writer.walk_target.Goals as goal

pub returns-in-1 : goal.returns-in-1
returns-in-1 c = let (_, _, from, long) = c.in_ok-get.ensures.lookup.0 in search (active_there, from, long)
