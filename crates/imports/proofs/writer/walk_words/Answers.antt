-- `imports::writer::walk_words` meets its contract: the form by the first word, a name, and what follows it. Assumes nothing.
use Rattle.format.proofs.Handing.{took}
use Rattle.imports.specs.declared.Form.TheVariants.{Single, Compact1, Compact2}
use Rattle.imports.proofs.Imports.{form_writes}
use Rattle.imports.proofs.writer.walk_words.Goals as goal

pub returns-in-0 : goal.returns-in-0
returns-in-0 c = let x = c.in_ok-form.ensures.lookup.3 in search (took, form_writes Single, x.0, x.1 0)

pub returns-in-1 : goal.returns-in-1
returns-in-1 c = let x = c.in_ok-form.ensures.lookup.3 in search (took, form_writes Compact1, x.0, x.1 0)

pub returns-in-2 : goal.returns-in-2
returns-in-2 c = let x = c.in_ok-form.ensures.lookup.3 in search (took, form_writes Compact2, x.0, x.1 0)
