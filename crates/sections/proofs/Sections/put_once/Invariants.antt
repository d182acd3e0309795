-- `sections::Sections::put_once` meets its contract: heads, and then a walk that copies each item to its section. Assumes nothing.
use Rattle.sections.proofs.Filling.{Filled}
use Rattle.sections.proofs.Sections.put_once.Given as goal

abbrev pub invariant-loop-id : goal.invariant-loop-id
invariant-loop-id l = Filled l.self.frames.now l.self.order.now l.n l.initial.out l.initial.places l.out l.places l.id-iterator
