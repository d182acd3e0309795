-- `imports::writer::walk_compact2` meets its contract: two bytes, an entity, and a list. Assumes nothing.
use Rattle.format.proofs.Handing.{took, left}
use Rattle.parts.specs.Both.{both}
use Rattle.parts.specs.Listed.{listed}
use Rattle.parts.specs.Writing.{textless_missing, follows_textless, behind_two}
use Rattle.imports.specs.Entity.{entity_words, entity_bytes, entity_agree, entity}
use Rattle.imports.specs.Forms.{member, Name}
use Rattle.imports.proofs.writer.walk_compact2.Goals as goal

pub returns-in_err-p : goal.returns-in_err-p
returns-in_err-p c = rw c.from_residual.ensures (search (left, behind_two 0x00 0x7E (both entity (listed (member Name))), textless_missing entity_words entity_bytes entity_agree (listed (member Name))))

pub returns : goal.returns
returns c = search (took, behind_two 0x00 0x7E (both entity (listed (member Name))), follows_textless entity_words entity_bytes entity_agree (listed (member Name)))
