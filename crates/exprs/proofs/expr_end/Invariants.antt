-- `exprs::expr_end` meets its contract. Both loops keep that the whole scan is the scan from here on, so many bytes later. Assumes nothing.
use Prim.Native.Nat.{◌-◌, ◌≤◌}
use lib.ListN.{length}
use Rattle.exprs.specs.Scan.{nothing}
use Rattle.exprs.specs.declared.Operand.TheVariants.{Number}
use Rattle.exprs.proofs.Ends.{Scanned}
use Rattle.exprs.proofs.expr_end.Given as goal

abbrev pub invariant-loop-left : goal.invariant-loop-left
invariant-loop-left l = (l.i ≤ length l.s) × (l.initial.i ≤ l.i) × Scanned l.s (Number l.signed l.left) l.i

abbrev pub decreases-loop-left : goal.decreases-loop-left
decreases-loop-left l = length l.s - l.i

abbrev pub invariant-instructions : goal.invariant-instructions
invariant-instructions l = Scanned l.s nothing l.i

abbrev pub decreases-instructions : goal.decreases-instructions
decreases-instructions l = length l.s - l.i
