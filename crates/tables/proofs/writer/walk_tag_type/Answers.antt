-- `tables::writer::walk_tag_type` meets its contract. Assumes nothing.
use Rattle.tables.proofs.Tables.{tag_word}
use Rattle.tables.proofs.writer.walk_tag_type.Goals as goal

pub returns : goal.returns
returns c = let x = c.in_ok-x.ensures.lookup.3 in search (tag_word, x.0, x.1 0)
