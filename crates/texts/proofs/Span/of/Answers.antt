-- `texts::Span::of` meets its contract: what `get` hands out are the bytes of the span. Assumes nothing.
use Rattle.std.specs.Prelude.{List, ℕ, ◌+◌, ◌<◌, ◌≤◌, ◌≡◌, length, Option, None, Some, MatchOption, slice_range}
use Rattle.std.proofs.Common.{◌∙◌, ◌⊎◌, arith, Bor}
use Rattle.texts.specs.Text.{slice_of, cut_is}
use Rattle.texts.specs.declared.Span.{Span}
use Rattle.texts.proofs.Span.of.Goals as goal

of_is : (t : List ℕ) (a : Span) (r : Option (Bor (List ℕ))) → MatchOption r ((a.start + a.len < a.start) ⊎ (length t < a.start + a.len))
    (λ x. (a.start ≤ a.start + a.len) × (a.start + a.len ≤ length t) × (x.now ≡ slice_range t a.start (a.start + a.len)) × (length x.now + a.start ≡ a.start + a.len))
    → MatchOption r (length t < a.start + a.len) (λ x. (a.start + a.len ≤ length t) × (x.now ≡ slice_of t a))
of_is t a None h = omega arith
of_is t a (Some x) h = let (_, k, e, _) = h in (k, e ∙ cut_is t a k)

pub returns : goal.returns
returns c = of_is c.args.text.now c.args.self c.get.result c.get.ensures.lookup.0
