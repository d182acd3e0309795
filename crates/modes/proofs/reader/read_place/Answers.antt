-- `modes::reader::read_place` meets its contract: each mode by its own walk. Assumes nothing.
use Rattle.modes.specs.declared.Mode.TheVariants.{ActiveTable}
use Rattle.modes.proofs.Places.{active_reads, reads_in, nowhere_reads_in}
use Rattle.modes.proofs.reader.read_place.Goals as goal

pub returns-in-Active : goal.returns-in-Active
returns-in-Active c = search active_reads

pub returns-in-Passive : goal.returns-in-Passive
returns-in-Passive c = nowhere_reads_in c.in-Passive.is c.read_nowhere.ensures

pub returns-in-ActiveTable : goal.returns-in-ActiveTable
returns-in-ActiveTable c = search (reads_in ActiveTable)
