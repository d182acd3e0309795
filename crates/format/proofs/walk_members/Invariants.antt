-- `format::walk_members` meets its contract: some walks are done, and the others are left. Assumes nothing.
use Rattle.format.specs.Repeats.{Calls}
use Rattle.format.proofs.Repeating.{Onto}
use Rattle.format.proofs.walk_members.Given as goal

abbrev pub invariant-loop : goal.invariant-loop
invariant-loop g l = Onto (Calls g.F.Fn l.walk) l.n l.at l.initial.out l.initial.t l.counter l.p l.out l.t
