-- `data::writer::walk_words` meets its contract: where the data goes, and the data. Assumes nothing.
use Rattle.format.proofs.Handing.{took}
use Rattle.parts.specs.Text.{content}
use Rattle.parts.specs.Writing.{part_follows}
use Rattle.data.specs.Target.{target}
use Rattle.data.proofs.writer.walk_words.Goals as goal

pub returns : goal.returns
returns c = search (took, part_follows target content)
