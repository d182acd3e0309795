-- `imports::reader::read_import` meets its contract: a name, and then an entity. Assumes nothing.
use Rattle.format.proofs.Handing.{took}
use Rattle.parts.specs.Text.{name}
use Rattle.parts.specs.Reading.{part_follows}
use Rattle.imports.specs.Entity.{entity}
use Rattle.imports.proofs.reader.read_import.Goals as goal

pub returns : goal.returns
returns c = search (took, part_follows name entity)
