-- `tables::reader::read_init` meets its contract: a table type, and an expression. Assumes nothing.
use Rattle.format.proofs.Handing.{took, left}
use Rattle.parts.specs.Text.{expression}
use Rattle.parts.specs.Reading.{textless_missing, follows_textless}
use Rattle.tables.specs.TableType.{table_words, table_bytes, table_agree}
use Rattle.tables.proofs.reader.read_init.Goals as goal

pub returns-in_err-p : goal.returns-in_err-p
returns-in_err-p c = rw c.from_residual.ensures (search (left, textless_missing table_words table_bytes table_agree expression))

pub returns : goal.returns
returns c = search (took, follows_textless table_words table_bytes table_agree expression)
