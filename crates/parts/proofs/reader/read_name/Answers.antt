-- `parts::reader::read_name` meets its contract: it was found, or not. Assumes nothing.
use Rattle.texts.specs.Text.{named}
use Rattle.texts.specs.Place.{sized_at}
use Rattle.parts.specs.Text.{name_bytes, name_holds}
use Rattle.parts.specs.Reading.{text_reads}
use Rattle.parts.proofs.Texts.{sized_ends}
use Rattle.parts.proofs.reader.read_name.Goals as goal

pub returns : goal.returns
returns c = search (text_reads named name_bytes sized_at name_holds sized_ends)
