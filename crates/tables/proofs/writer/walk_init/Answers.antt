-- `tables::writer::walk_init` meets its contract: two bytes, a table type, and the span of an expression. Assumes nothing.
use Rattle.format.proofs.Handing.{took, left}
use Rattle.tables.proofs.Tables.{init_missing, init_there}
use Rattle.tables.proofs.writer.walk_init.Goals as goal

pub returns-in_err-p : goal.returns-in_err-p
returns-in_err-p c = rw c.from_residual.ensures (search (left, init_missing))

pub returns : goal.returns
returns c = search (took, init_there)
