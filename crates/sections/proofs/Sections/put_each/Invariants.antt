-- `sections::Sections::put_each` meets its contract: one section behind the other. Assumes nothing.
use Rattle.sections.proofs.Listed.{Put}
use Rattle.sections.proofs.Sections.put_each.Given as goal

abbrev pub invariant-loop-id : goal.invariant-loop-id
invariant-loop-id l = Put l.self.order.now l.self.given l.self.frames.now l.initial.out l.out l.n l.id-index
