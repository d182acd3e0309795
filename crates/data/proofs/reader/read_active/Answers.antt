-- `data::reader::read_active` meets its contract: a memory and an expression. Assumes nothing.
use Rattle.format.proofs.Handing.{took}
use Rattle.words.specs.Words.{word}
use Rattle.parts.specs.Text.{expression}
use Rattle.parts.specs.Reading.{follows_textless}
use Rattle.data.specs.Target.{memory_index_bytes, index_agree}
use Rattle.data.proofs.reader.read_active.Goals as goal

pub returns : goal.returns
returns c = search (took, follows_textless word memory_index_bytes index_agree expression)
