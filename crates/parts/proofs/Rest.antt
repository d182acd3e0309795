-- What `words.get(at..)` hands out: the words from a place on. Assumes nothing.
use Rattle.std.specs.Prelude.{◌≡◌, List, ℕ, ◌+◌, ◌-◌, length, drop, slice_range}
use Rattle.std.proofs.Common.{◌∙◌, arith, get_or, length-drop}
use Rattle.std.proofs.lemmas.List.{take_all, get_or-drop}

module _ (w : List ℕ) (at : ℕ) {v : List ℕ} (from : v ≡ slice_range w at (length w)) where
  pub is_rest : v ≡ drop at w
  is_rest = from ∙ take_all (length w - at) (drop at w) (omega (arith, length-drop at w))

  pub at_rest : (i : ℕ) → get_or v i 0 ≡ get_or w (at + i) 0
  at_rest i = rw is_rest (get_or-drop at w i 0)
