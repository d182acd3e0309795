-- `frames::tally` meets its contract: a walk, frame by frame. Assumes nothing.
use Prim.Native.Nat.{◌-◌}
use lib.ListN.{length}
use Rattle.frames.proofs.Walking.{Tallied}
use Rattle.frames.proofs.tally.Given as goal

abbrev pub invariant-loop-id : goal.invariant-loop-id
invariant-loop-id l = Tallied l.frames l.tallies l.walk

abbrev pub decreases-loop-id : goal.decreases-loop-id
decreases-loop-id l = length l.walk.bytes.now - l.walk.at
