-- `imports::reader::read_compact2` meets its contract: an entity, and a list. Assumes nothing.
use Rattle.format.proofs.Handing.{took, left}
use Rattle.parts.specs.Listed.{listed}
use Rattle.parts.specs.Reading.{part_missing, part_follows}
use Rattle.imports.specs.Entity.{entity}
use Rattle.imports.specs.Forms.{member, Name}
use Rattle.imports.proofs.reader.read_compact2.Goals as goal

pub returns-in_err-p : goal.returns-in_err-p
returns-in_err-p c = rw c.from_residual.ensures (search (left, part_missing entity (listed (member Name))))

pub returns : goal.returns
returns c = search (took, part_follows entity (listed (member Name)))
