-- `leb128::reader::decode` meets its contract: the whole answer stays what was read so far in front of what is left to read. Assumes nothing.
use Prim.Native.Nat.{◌-◌}
use Rattle.leb128.proofs.Loop.{Reads}
use Rattle.leb128.proofs.reader.decode.Given as goal

abbrev pub invariant-loop-shift : goal.invariant-loop-shift
invariant-loop-shift l = Reads l.signed l.bits l.s l.at l.v l.shift l.i

abbrev pub decreases-loop-shift : goal.decreases-loop-shift
decreases-loop-shift l = l.bits - l.shift
