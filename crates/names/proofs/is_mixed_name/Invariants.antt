-- `names::is_mixed_name` meets its contract: one character after the other, plain ones eight at a time. Assumes nothing.
use Rattle.std.proofs.Common.{◌-◌, length}
use Rattle.names.specs.Name.{NamedTo}
use Rattle.names.proofs.is_mixed_name.Given as goal

abbrev pub invariant-loop-at : goal.invariant-loop-at
invariant-loop-at l = NamedTo l.s 0 l.at

abbrev pub decreases-loop-at : goal.decreases-loop-at
decreases-loop-at l = length l.s - l.at
