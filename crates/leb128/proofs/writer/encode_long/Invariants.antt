-- `leb128::writer::encode_long` meets its contract: what the buffer will be, once the rest w is written from place i on, stays what it is to be. Assumes nothing.
use Rattle.leb128.proofs.Writing.{PutTo}
use Rattle.leb128.proofs.writer.encode_long.Given as goal

abbrev pub invariant-loop-w : goal.invariant-loop-w
invariant-loop-w l = PutTo l.signed l.fn.v.neg l.fn.v.magnitude l.initial.out l.w l.i l.out

abbrev pub decreases-loop-w : goal.decreases-loop-w
decreases-loop-w l = l.w
