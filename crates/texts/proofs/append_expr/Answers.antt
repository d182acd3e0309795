-- `texts::append_expr` meets its contract. Assumes nothing.
use mathlib.Core.Bool.{false}
use Rattle.texts.specs.Text.{slice_of, is_kind}
use Rattle.texts.proofs.Checks.{adds_checked}
use Rattle.texts.proofs.append_expr.Goals as goal

pub returns : goal.returns
returns c = let a = c.args in adds_checked c.append_slice-t.ensures (is_kind false (slice_of a.text.now a.at)) 5 c.check.ensures
