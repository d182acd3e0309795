-- What a part v of the words w, from a place on, tells of them. Assumes nothing.
use mathlib.Core.Path.{◌≡◌, sym, ap, ◌∙◌}
use mathlib.Core.List.{List, ◌∷◌}
use Prim.Native.Nat.{ℕ, ◌+◌, ◌≤◌}
use native.Mathlib.Omega.{arith}
use lib.ListN.{length, get_or, drop}
use Rattle.std.proofs.Common.{append-nil}
use Rattle.std.proofs.Math.Seq.{drop-length}
use Rattle.std.proofs.lemmas.List.Folds.{drop_split}
use Rattle.std.specs.List.{slice_range}
use Rattle.format.specs.Read.{drop_two}

-- the first two of them
pub record Two (w : List ℕ) (at : ℕ) (v : List ℕ) : Type 0 where
  pub place : at + 2 ≤ length w
  pub first : get_or v 0 0 ≡ get_or w at 0
  pub second : get_or v 1 0 ≡ get_or w (at + 1) 0

pub two_of : {w v : List ℕ} {at : ℕ} → at ≤ length w → v ≡ slice_range w at (length w) → length v + at ≡ length w → 2 ≤ length v → Two w at v
two_of {w} {v} {at} h e l k =
    let p : at + 2 ≤ length w = omega arith in
    let s : drop at w ≡ slice_range w at (length w) = drop_split w at (length w) h ∙ rw (drop-length w, append-nil) in
    let q : v ≡ get_or w at 0 ∷ get_or w (at + 1) 0 ∷ drop (at + 2) w = e ∙ sym s ∙ drop_two w at p in
    record { place = p; first = ap (λ (l : List ℕ). get_or l 0 0) q; second = ap (λ (l : List ℕ). get_or l 1 0) q }
