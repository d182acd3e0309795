-- `tables::writer::walk_table_type` meets its contract: a reference type and limits. Assumes nothing.
use Rattle.format.proofs.Handing.{took}
use Rattle.format.specs.Sequence.{second_follows}
use Rattle.tables.proofs.Tables.{table_walk}
use Rattle.tables.proofs.writer.walk_table_type.Goals as goal

pub returns : goal.returns
returns c = search (took, second_follows table_walk)
