-- `words::writer::walk_list` meets its contract: the count, and then so many members. Assumes nothing.
use Rattle.words.proofs.Numbers.{counted_as}
use Rattle.words.proofs.writer.walk_list.Goals as goal

pub returns : goal.returns
returns g c = let x = c.in_ok-n.ensures.lookup.3 in search (counted_as, x.0, x.1 0)
