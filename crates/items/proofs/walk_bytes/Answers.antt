-- `items::walk_bytes` meets its contract: by the section's id. Assumes nothing.
use Rattle.frames.specs.declared.SectionId.TheVariants.{Types, Imports, Tables, Elements, Data}
use Rattle.items.proofs.Sections.{byte_section, byte_other}
use Rattle.items.proofs.walk_bytes.Goals as goal

pub returns-in-1 : goal.returns-in-1
returns-in-1 c = search (byte_section Types)

pub returns-in-2 : goal.returns-in-2
returns-in-2 c = search (byte_section Imports)

pub returns-in-4 : goal.returns-in-4
returns-in-4 c = search (byte_section Tables)

pub returns-in-9 : goal.returns-in-9
returns-in-9 c = search (byte_section Elements)

pub returns-in-11 : goal.returns-in-11
returns-in-11 c = search (byte_section Data)

pub returns-in_default : goal.returns-in_default
returns-in_default c = search byte_other depth 12
