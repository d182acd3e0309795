-- `sections::sections_len` meets its contract: one section's length after the other. Assumes nothing.
use Rattle.sections.proofs.Listed.{Measured}
use Rattle.sections.proofs.sections_len.Given as goal

abbrev pub invariant-loop-id : goal.invariant-loop-id
invariant-loop-id l = Measured l.order l.given l.tallies l.n l.id-index
