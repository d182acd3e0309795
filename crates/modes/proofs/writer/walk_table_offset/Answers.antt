-- `modes::writer::walk_table_offset` meets its contract: the table, and the offset. Assumes nothing.
use Rattle.format.proofs.Handing.{took}
use Rattle.modes.proofs.Places.{table_offset_writes}
use Rattle.modes.proofs.writer.walk_table_offset.Goals as goal

pub returns : goal.returns
returns c = search (took, table_offset_writes)
