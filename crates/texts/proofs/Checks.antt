-- A check of what was appended: c says whether it passes, and k is drawn where it does not. Assumes nothing.
use mathlib.Core.Path.{◌≡◌, refl, ap}
use mathlib.Core.Bool.{Bool, true, false, cond}
use mathlib.Core.List.{List, [], ◌++◌}
use Prim.Native.Nat.{ℕ, ◌+◌, ◌*◌, ◌≤◌, min}
use native.Mathlib.Omega.{arith}
use Rattle.format.specs.Count.{no_refusal, low_room, count_in, low_in, lowered, Has, Adds, adds_nil, adds_low, adds_eq}
use Rattle.format.specs.declared.Done.{Done}

-- a refusal alone
pub adds_refusal : (k : ℕ) (a : List ℕ) (s : Done) → k ≤ no_refusal → {r : Done} → r ≡ lowered s k → Adds [] k a s a r
adds_refusal k a s h e = rw e (adds_eq refl (omega arith) (adds_low k (adds_nil a s)))

-- where the refusal so far is lower anyhow, the check need not be made
pub skipped : (c : Bool) (t : Done) (k : ℕ) → low_in t ≤ k → t ≡ cond c t (lowered t k)
skipped true t k h = refl
skipped false t k h = let e : t.v ≡ low_room * count_in t + min (low_in t) k = omega (arith, h) in ap (λ (v : ℕ). record { v = v }) e

module _ {q : List ℕ} {m : ℕ} {a b : List ℕ} {s t : Done} (x : Adds q m a s b t) where
  none : Adds q (min m no_refusal) a s b t
  none = record { more = go }
    where
      go : (p : List ℕ) (l : ℕ) (old : List ℕ) → Has p l old a s → Has (p ++ q) (min l (min m no_refusal)) old b t
      go p l old i =
          let g = x.more p l old i in
          record { holds = omega (arith, g.holds, g.small); small = omega (arith, g.small); kept = g.kept; bytes = g.bytes }

  checked : (c : Bool) (k : ℕ) → Adds q (min m (cond c no_refusal k)) a s b (cond c t (lowered t k))
  checked true k = none
  checked false k = adds_low k x

  pub adds_checked : (c : Bool) (k : ℕ) {r : Done} → r ≡ cond c t (lowered t k) → Adds q (min m (cond c no_refusal k)) a s b r
  adds_checked c k e = rw e (checked c k)
