-- `subtypes::writer::walk_sub` meets its contract: supertypes, shared or not, and the rest. Assumes nothing.
use Rattle.format.specs.Sequence.{first_missing, second_follows}
use Rattle.subtypes.proofs.Parts.{supers_walk, shared_walk}
use Rattle.subtypes.proofs.writer.walk_sub.Goals as goal

pub returns-in_err-q : goal.returns-in_err-q
returns-in_err-q c = rw c.from_residual-in_err-q.ensures (search (c.in_ok-p.was, c.in_err-q.was, second_follows supers_walk, first_missing shared_walk))

pub returns : goal.returns
returns c = search (c.in_ok-p.was, c.in_ok-q.was, second_follows supers_walk, second_follows shared_walk)
