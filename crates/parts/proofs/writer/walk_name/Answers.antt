-- `parts::writer::walk_name` meets its contract: a span, and what is written of it. Assumes nothing.
use Rattle.texts.specs.Text.{named}
use Rattle.texts.specs.Place.{sized_at}
use Rattle.parts.specs.Text.{name_bytes, name_holds}
use Rattle.parts.specs.Writing.{text_writes}
use Rattle.parts.proofs.writer.walk_name.Goals as goal

pub returns : goal.returns
returns c = search (c.in_ok-v.was, text_writes named name_bytes sized_at name_holds) depth 2
