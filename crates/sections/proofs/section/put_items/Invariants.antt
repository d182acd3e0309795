-- `sections::section::put_items` meets its contract: a walk that copies, up to the last byte of the section. Assumes nothing.
use Prim.Native.Nat.{◌-◌}
use lib.ListN.{length}
use Rattle.sections.proofs.Copying.{Copied}
use Rattle.sections.proofs.section.put_items.Given as goal

abbrev pub invariant-loop-n : goal.invariant-loop-n
invariant-loop-n l = Copied l.frames l.id l.total l.initial.out l.out l.n l.walk

abbrev pub decreases-loop-n : goal.decreases-loop-n
decreases-loop-n l = length l.walk.bytes.now - l.walk.at
