-- `imports::writer::walk_compact1` meets its contract: two bytes, and a list. Assumes nothing.
use Rattle.parts.specs.Listed.{listed}
use Rattle.parts.specs.Writing.{behind_two}
use Rattle.imports.specs.Forms.{member, Import}
use Rattle.imports.proofs.writer.walk_compact1.Goals as goal

pub returns : goal.returns
returns c = search (behind_two 0x00 0x7F (listed (member Import))) depth 2
