-- `parts::writer::walk_data` meets its contract: a span, and what is written of it. Assumes nothing.
use Rattle.format.specs.Sized.{sized}
use Rattle.leb128.proofs.Formats.{u32}
use Rattle.texts.specs.Text.{plain}
use Rattle.texts.specs.Place.{sized_at}
use Rattle.parts.specs.Text.{plain_holds}
use Rattle.parts.specs.Writing.{text_writes}
use Rattle.parts.proofs.writer.walk_data.Goals as goal

pub returns : goal.returns
returns c = search (c.in_ok-v.was, text_writes plain (sized u32) sized_at plain_holds)
