-- `sections::Sections::put_heads` meets its contract: one head behind the other, with room for the items between them. Assumes nothing.
use Rattle.sections.proofs.Heading.{Heading}
use Rattle.sections.proofs.Sections.put_heads.Given as goal

abbrev pub invariant-loop-id : goal.invariant-loop-id
invariant-loop-id l = Heading l.self.order.now l.self.given l.self.tallies l.initial.out l.out l.places l.n l.id-index
