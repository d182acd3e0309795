-- `imports::writer::walk_import` meets its contract: a name, and then an entity. Assumes nothing.
use Rattle.parts.specs.Text.{name}
use Rattle.parts.specs.Writing.{part_follows, textless_writes}
use Rattle.imports.specs.Entity.{entity_words, entity_bytes, entity_agree, entity}
use Rattle.imports.proofs.writer.walk_import.Goals as goal

pub returns : goal.returns
returns c = search (c.in_ok-p.was, part_follows name entity, textless_writes entity_words entity_bytes entity_agree)
