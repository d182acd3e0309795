-- `elements::writer::walk_functions` meets its contract: two unused words, and the list. Assumes nothing.
use Rattle.elements.proofs.Elements.{unused_missing, then_said_functions, then_bare_functions}
use Rattle.elements.proofs.writer.walk_functions.Goals as goal

pub returns-in_err-p : goal.returns-in_err-p
returns-in_err-p c = rw c.from_residual.ensures (search (c.in_err-p.was, unused_missing))

pub returns-then-said : goal.returns-then-said
returns-then-said c = search (c.in_ok-p.was, then_said_functions)

pub returns : goal.returns
returns c = search (c.in_ok-p.was, then_bare_functions)
