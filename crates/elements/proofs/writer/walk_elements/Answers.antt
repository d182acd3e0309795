-- `elements::writer::walk_elements` meets its contract: by the kind. Assumes nothing.
use Rattle.elements.proofs.Elements.{functions_kind, expressions_kind}
use Rattle.elements.proofs.writer.walk_elements.Goals as goal

pub returns-in-0 : goal.returns-in-0
returns-in-0 c = let x = c.in_ok-get.ensures.lookup.3 in search (functions_kind, x.0, x.1 0)

pub returns-in-1 : goal.returns-in-1
returns-in-1 c = let x = c.in_ok-get.ensures.lookup.3 in search (expressions_kind, x.0, x.1 0)
