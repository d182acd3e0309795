-- `sections::section::put_number` meets its contract: it is never short. Assumes nothing.
use Rattle.sections.proofs.Behind.{room_ok}
use Rattle.sections.proofs.section.put_number.Goals as goal

pub unwrap-requires : goal.unwrap-requires
unwrap-requires c = search room_ok
