-- `tables::reader::read_bare` meets its contract: a table type, and two unused words. Assumes nothing.
use Rattle.format.proofs.Handing.{took, left}
use Rattle.tables.proofs.Tables.{bare_missing, bare_there}
use Rattle.tables.proofs.reader.read_bare.Goals as goal

pub returns-in_err-p : goal.returns-in_err-p
returns-in_err-p c = rw c.from_residual.ensures (search (left, bare_missing))

pub returns : goal.returns
returns c = search (took, bare_there)
