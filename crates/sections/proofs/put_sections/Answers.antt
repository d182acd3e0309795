-- `sections::put_sections` meets its contract: one walk for all where no id is there twice, and one for each otherwise. Assumes nothing.
use Rattle.sections.proofs.Seen.{once_told}
use Rattle.sections.proofs.put_sections.Goals as goal

pub put_once-requires-clause-once : goal.put_once-requires-clause-once
put_once-requires-clause-once c = search once_told
