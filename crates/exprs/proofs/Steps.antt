-- The scan from a place of a list on. Assumes nothing.
use mathlib.Core.Path.{◌≡◌, sym, ap, ◌∙◌}
use mathlib.Core.Logic.{⊎_elim}
use mathlib.Core.Bool.{true}
use mathlib.Core.List.{List, ◌∷◌}
use Prim.Native.Nat.{ℕ, zero, suc, ◌+◌, ◌-◌, ◌≤◌, ◌<◌}
use native.Mathlib.Omega.{arith}
use native.Mathlib.Numerals.{add-one}
use lib.ListN.{length, get_or, drop, drop_of_length-le}
use lib.Seq.{drop-cons}
use Rattle.std.specs.Prelude.{Option, None, Some}
use Rattle.format.specs.Write.{fits_or}
use Rattle.exprs.specs.Scan.{is_over, nothing, plus, next, onward, scan}
use Rattle.exprs.specs.Laws.{go_on, go_wrong, no_kind, byte_next, plus_plus}
use Rattle.exprs.specs.declared.Next.{Next}
use Rattle.exprs.specs.declared.Next.TheVariants.{End, Takes}
use Rattle.exprs.specs.declared.Operand.{Operand}
use Rattle.exprs.specs.declared.Operand.TheVariants.{Bytes}

pub at-end : (s : List ℕ) (o : Operand) (i : ℕ) → length s ≤ i → plus i (scan o (drop i s)) ≡ None
unfolding scan
at-end s o i h = rw (drop_of_length-le s h)

scan-end : (o : Operand) (b : ℕ) (s : List ℕ) → next o b ≡ Some End → scan o (b ∷ s) ≡ Some 1
unfolding scan
scan-end o b s e = ap (λ (x : Option Next). onward x (λ o. scan o s)) e

module _ (s : List ℕ) (o : Operand) (i : ℕ) (h : i < length s) where
  pub at_go : (p : Operand) → next o (get_or s i 0) ≡ Some (Takes p) → plus i (scan o (drop i s)) ≡ plus (i + 1) (scan p (drop (i + 1) s))
  at_go p e =
      rw (drop-cons s i 0 h, add-one)
      (ap (plus i) (go_on o (get_or s i 0) p (drop (suc i) s) e) ∙ plus_plus i 1 (scan p (drop (suc i) s)) ∙ rw add-one)

  pub at_bad : next o (get_or s i 0) ≡ None → plus i (scan o (drop i s)) ≡ None
  at_bad e = rw (drop-cons s i 0 h, go_wrong o (get_or s i 0) (drop (suc i) s) e)

  pub at_stop : next o (get_or s i 0) ≡ Some End → plus i (scan o (drop i s)) ≡ Some (i + 1)
  at_stop e = rw (drop-cons s i 0 h, scan-end o (get_or s i 0) (drop (suc i) s) e)

-- with nothing to come, what it was is of no account
pub at_none : (s : List ℕ) (o : Operand) (i : ℕ) → is_over o ≡ true → plus i (scan o (drop i s)) ≡ plus i (scan nothing (drop i s))
at_none s o i e = ap (plus i) (no_kind o (drop i s) e)

-- any bytes, passed at once, be there so many or not
pub bytes_on : (s : List ℕ) → ((j : ℕ) → get_or s j 0 < 256) → (n i : ℕ) → plus i (scan (Bytes n) (drop i s)) ≡ plus (i + n) (scan nothing (drop (i + n) s))
bytes_on s each zero i = let e : i + 0 ≡ i = omega arith in rw e
bytes_on s each (suc n) i =
    ⊎_elim (λ (k : length s ≤ i). at-end s (Bytes (suc n)) i k ∙ sym (at-end s nothing (i + suc n) (omega arith))) (λ (k : i < length s). on k (bytes_on s each n (i + 1))) (fits_or (length s) i)
  where
    on : i < length s → plus (i + 1) (scan (Bytes n) (drop (i + 1) s)) ≡ plus (i + 1 + n) (scan nothing (drop (i + 1 + n) s))
        → plus i (scan (Bytes (suc n)) (drop i s)) ≡ plus (i + suc n) (scan nothing (drop (i + suc n) s))
    on k more =
        let q : suc n - 1 ≡ n = omega arith in
        let e : i + 1 + n ≡ i + suc n = omega arith in
        at_go s (Bytes (suc n)) i k (Bytes n) (byte_next (suc n) (get_or s i 0) (omega arith) (each i) ∙ ap (λ (m : ℕ). Some (Takes (Bytes m))) q) ∙ more ∙ ap (λ (j : ℕ). plus j (scan nothing (drop j s))) e
