-- `tables::writer::walk_global_type` meets its contract: a value type, and whether it is mutable. Assumes nothing.
use Rattle.format.proofs.Handing.{took}
use Rattle.format.specs.Sequence.{second_follows}
use Rattle.tables.proofs.Tables.{global_walk}
use Rattle.tables.proofs.writer.walk_global_type.Goals as goal

pub returns : goal.returns
returns c = search (took, second_follows global_walk)
