-- `parts::reader::read_data` meets its contract: it was found, or not. Assumes nothing.
use Rattle.format.specs.Sized.{sized}
use Rattle.leb128.proofs.Formats.{u32}
use Rattle.texts.specs.Text.{plain}
use Rattle.texts.specs.Place.{sized_at}
use Rattle.parts.specs.Text.{plain_holds}
use Rattle.parts.specs.Reading.{text_reads}
use Rattle.parts.proofs.Texts.{sized_ends}
use Rattle.parts.proofs.reader.read_data.Goals as goal

pub returns : goal.returns
returns c = search (text_reads plain (sized u32) sized_at plain_holds sized_ends)
