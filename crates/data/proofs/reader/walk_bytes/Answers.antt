-- `data::reader::walk_bytes` meets its contract: where the data goes, and the data. Assumes nothing.
use Rattle.format.proofs.Handing.{took}
use Rattle.parts.specs.Text.{content}
use Rattle.parts.specs.Reading.{part_follows}
use Rattle.data.specs.Target.{target}
use Rattle.data.proofs.reader.walk_bytes.Goals as goal

pub returns : goal.returns
returns c = search (took, part_follows target content)
