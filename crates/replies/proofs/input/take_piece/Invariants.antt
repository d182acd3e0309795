-- `replies::input::take_piece` meets its contract: what is kept from line to line stands in its buffers. Assumes nothing.
use Prim.Native.Nat.{◌-◌}
use lib.ListN.{length}
use Rattle.replies.proofs.Taking.{Taking}
use Rattle.replies.proofs.input.take_piece.Given as goal

abbrev pub invariant-loop-i : goal.invariant-loop-i
invariant-loop-i l = Taking l.piece l.initial.run l.initial.line l.initial.store l.initial.buffer l.initial.out l.run l.line l.store l.buffer l.out l.i

abbrev pub decreases-loop-i : goal.decreases-loop-i
decreases-loop-i l = length l.piece - l.i
