-- `parts::writer::walk_expr` meets its contract: a span, and what is written of it. Assumes nothing.
use Rattle.exprs.specs.Laws.{expr}
use Rattle.texts.specs.Text.{constant}
use Rattle.texts.specs.Place.{span_at}
use Rattle.parts.specs.Text.{expr_holds}
use Rattle.parts.specs.Writing.{text_writes}
use Rattle.parts.proofs.writer.walk_expr.Goals as goal

pub returns : goal.returns
returns c = search (c.in_ok-v.was, text_writes constant expr span_at expr_holds)
