-- `tables::writer::walk_words` meets its contract: by the init flag. Assumes nothing.
use Rattle.tables.proofs.Tables.{bare_writes, init_writes}
use Rattle.tables.proofs.writer.walk_words.Goals as goal

pub returns-in-0 : goal.returns-in-0
returns-in-0 c = let x = c.in_ok-get.ensures.lookup.3 in search (bare_writes, x.0, x.1 0)

pub returns-in-1 : goal.returns-in-1
returns-in-1 c = let x = c.in_ok-get.ensures.lookup.3 in search (init_writes, x.0, x.1 0)
