-- `items::walk_words` meets its contract: by the first word. Assumes nothing.
use Rattle.frames.specs.declared.SectionId.TheVariants.{Types, Imports, Tables, Elements, Data}
use Rattle.items.proofs.Sections.{word_missing, word_section, word_textless, word_other}
use Rattle.items.proofs.walk_words.Goals as goal

pub returns-in-1 : goal.returns-in-1
returns-in-1 c = search (word_textless Types)

pub returns-in-2 : goal.returns-in-2
returns-in-2 c = search (word_section Imports)

pub returns-in-4 : goal.returns-in-4
returns-in-4 c = search (word_section Tables)

pub returns-in-9 : goal.returns-in-9
returns-in-9 c = search (word_section Elements)

pub returns-in-11 : goal.returns-in-11
returns-in-11 c = search (word_section Data)

pub returns-in_default : goal.returns-in_default
returns-in_default c = search word_missing

pub returns-in_default-2 : goal.returns-in_default-2
returns-in_default-2 c = search word_other depth 12
