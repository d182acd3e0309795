-- `texts::is_kind` meets its contract: no bytes are a name, and no expression. Assumes nothing.
use mathlib.Core.Bool.{Bool, true, false}
use mathlib.Core.List.{[]}
use mathlib.Core.Path.{◌≡◌, refl, sym, ap, ◌∙◌}
use Rattle.format.specs.Runs.{run_none}
use Rattle.names.specs.Char.{char, char_some}
use Rattle.names.specs.Name.{is_name, found}
use Rattle.exprs.specs.Scan.{scan}
use Rattle.texts.specs.Text.{is_kind, slice_past}
use Rattle.texts.proofs.is_kind.Goals as goal

no_bytes : (name : Bool) → is_kind name [] ≡ name
unfolding is_name scan
no_bytes true = ap found (run_none char char_some)
no_bytes false = refl

pub returns-in-None : goal.returns-in-None
returns-in-None c = let a = c.args in sym (ap (is_kind a.name) (slice_past a.text.now a.at c.in-None.ensures) ∙ no_bytes a.name)
