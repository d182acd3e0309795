-- What the check leaves of `names::eights_end`.
use Rattle.std.proofs.Common.{arith}
use Rattle.names.proofs.Naming.{eight_passed}
use Rattle.names.proofs.eights_end.Goals as goal

pub loop-k-preserved : goal.loop-k-preserved
loop-k-preserved c = eight_passed c.loop-k.invariant (omega arith) c.bits_of.ensures c.if-bits_of-gt127.false (omega arith)
