-- `vals::writer::walk_val` meets its contract. Assumes nothing.
use Rattle.vals.proofs.Words.{ref_walks, num_walks}
use Rattle.vals.proofs.writer.walk_val.Goals as goal

pub returns-then-k-eq5 : goal.returns-then-k-eq5
returns-then-k-eq5 c = let x = c.in_ok-k.ensures.lookup.3 in search (ref_walks, x.0, x.1 0)

pub returns : goal.returns
returns c = let x = c.in_ok-k.ensures.lookup.3 in search (num_walks, x.0, x.1 0, c.in_ok-num_byte.was)
