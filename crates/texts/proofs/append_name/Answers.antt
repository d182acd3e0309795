-- `texts::append_name` meets its contract. Assumes nothing.
use mathlib.Core.Bool.{true}
use Rattle.texts.specs.Text.{slice_of, is_kind}
use Rattle.texts.proofs.Checks.{adds_checked}
use Rattle.texts.proofs.append_name.Goals as goal

pub returns : goal.returns
returns c = let a = c.args in adds_checked c.append_data-t.ensures (is_kind true (slice_of a.text.now a.at)) 4 c.check.ensures
