-- `leb128::writer::size` meets its contract: what is counted and what is left to count make one more than the whole, since the last byte is counted at the start. Assumes nothing.
use Rattle.leb128.proofs.Writing.{Counted}
use Rattle.leb128.proofs.writer.size.Given as goal

abbrev pub invariant-loop-w : goal.invariant-loop-w
invariant-loop-w l = Counted l.signed l.a l.w l.n

abbrev pub decreases-loop-w : goal.decreases-loop-w
decreases-loop-w l = l.w
