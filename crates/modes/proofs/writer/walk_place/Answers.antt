-- `modes::writer::walk_place` meets its contract: each mode by its own walk. Assumes nothing.
use Rattle.modes.specs.declared.Mode.TheVariants.{Active, ActiveTable}
use Rattle.modes.proofs.Places.{writes_in, nowhere_writes_in}
use Rattle.modes.proofs.writer.walk_place.Goals as goal

pub returns-in-Active : goal.returns-in-Active
returns-in-Active c = search (writes_in Active)

pub returns-in-Passive : goal.returns-in-Passive
returns-in-Passive c = nowhere_writes_in c.in-Passive.is c.walk_nowhere.ensures

pub returns-in-ActiveTable : goal.returns-in-ActiveTable
returns-in-ActiveTable c = search (writes_in ActiveTable)
