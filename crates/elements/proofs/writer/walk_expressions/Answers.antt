-- `elements::writer::walk_expressions` meets its contract: the reference type, and the list of expressions. Assumes nothing.
use Rattle.format.proofs.Handing.{took}
use Rattle.elements.proofs.Elements.{type_then_list}
use Rattle.elements.proofs.writer.walk_expressions.Goals as goal

pub returns : goal.returns
returns c = search (took, type_then_list)
