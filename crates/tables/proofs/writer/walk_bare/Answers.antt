-- `tables::writer::walk_bare` meets its contract: a table type, and two unused words. Assumes nothing.
use Rattle.format.proofs.Handing.{left}
use Rattle.format.specs.Sequence.{first_missing}
use Rattle.tables.proofs.Tables.{bare_walk, unused_follows}
use Rattle.tables.proofs.writer.walk_bare.Goals as goal

pub returns-in_err-p : goal.returns-in_err-p
returns-in_err-p c = rw c.from_residual.ensures (search (left, first_missing bare_walk))

pub returns : goal.returns
returns c = search (c.in_ok-p.was, unused_follows)
