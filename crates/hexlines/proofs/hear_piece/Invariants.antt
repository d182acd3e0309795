-- `hexlines::hear_piece` meets its contract: what was said to each part is written before the next is heard. Assumes nothing.
use Prim.Native.Nat.{◌-◌}
use lib.ListN.{length}
use Rattle.hexlines.proofs.Hearing.{Hearing}
use Rattle.hexlines.proofs.hear_piece.Given as goal

abbrev pub invariant-loop-i : goal.invariant-loop-i
invariant-loop-i g l =
    Hearing l.piece l.initial.run l.initial.line l.initial.store l.initial.buffer l.initial.out l.run l.line l.store l.buffer l.out l.i

abbrev pub decreases-loop-i : goal.decreases-loop-i
decreases-loop-i g l = length l.piece - l.i
