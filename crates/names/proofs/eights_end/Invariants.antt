-- `names::eights_end` meets its contract. Assumes nothing.
use Rattle.std.proofs.Common.{◌+◌, ◌*◌}
use Rattle.names.specs.Name.{NamedTo}
use Rattle.names.proofs.eights_end.Given as goal

abbrev pub invariant-loop-k : goal.invariant-loop-k
invariant-loop-k l = NamedTo l.s l.at (l.at + 8 * l.k)
