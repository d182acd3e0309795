-- `sections::once::is_once` meets its contract: each id is noted until one has been noted before. Assumes nothing.
use Rattle.sections.proofs.Seen.{Seen}
use Rattle.sections.proofs.once.is_once.Given as goal

abbrev pub invariant-loop-id : goal.invariant-loop-id
invariant-loop-id l = Seen l.order l.seen l.id-index
