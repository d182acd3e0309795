-- What all bits of several bytes together tell of each of them. Assumes nothing.
use mathlib.Core.Path.{◌≡◌, sym, subst}
use mathlib.Core.Logic.{⊎_elim}
use mathlib.Core.List.{List, [], ◌∷◌}
use Prim.Native.Nat.{ℕ, zero, suc, ◌+◌, ◌-◌, ◌≤◌, ◌<◌}
use native.Mathlib.Omega.{arith}
use lib.Bits.{bit_or, or_lt, or_add_and, and_le_l, and_le_r}
use lib.ListN.{length, get_or, take, drop}
use Rattle.std.proofs.Common.{fold, ◌∙◌, length-take, length-drop, get_or-take, get_or-drop}
use Rattle.format.specs.Write.{fits_or}
use Rattle.plain.specs.Plain.{Bits}

pub or_left : (a b : ℕ) → a ≤ bit_or a b
or_left a b = omega (arith, or_add_and a b, and_le_r a b)

pub or_right : (a b : ℕ) → b ≤ bit_or a b
or_right a b = omega (arith, or_add_and a b, and_le_l a b)

-- the or of many is below 80 exactly if each is
or_told : (a : ℕ) (xs : List ℕ) → fold bit_or a xs < 0x80 → (a < 0x80) × ((k : ℕ) → k < length xs → get_or xs k 0 < 0x80)
or_told a [] h = (h, λ k l. absurd (omega arith))
or_told a (x ∷ xs) h = let (p, q) = or_told (bit_or a x) xs h in (omega (arith, or_left a x), each p q)
  where
    each : bit_or a x < 0x80 → ((k : ℕ) → k < length xs → get_or xs k 0 < 0x80) → (k : ℕ) → k < length (x ∷ xs) → get_or (x ∷ xs) k 0 < 0x80
    each p q zero l = omega (arith, or_right a x)
    each p q (suc k) l = q k (omega arith)

or_back : (a : ℕ) (xs : List ℕ) → a < 0x80 → ((k : ℕ) → k < length xs → get_or xs k 0 < 0x80) → fold bit_or a xs < 0x80
or_back a [] h f = h
or_back a (x ∷ xs) h f = or_back (bit_or a x) xs (or_lt 7 a x h (f 0 (omega arith))) (λ k l. f (suc k) (omega arith))

-- n bytes from place i on, by the or of them
pub bits_folded : (s : List ℕ) (i n : ℕ) → i + n ≤ length s → {b : ℕ} → b ≡ fold bit_or 0 (take (i + n - i) (drop i s)) → Bits s i (i + n) b
bits_folded s i n h {b} e =
    record {
      told = λ l k m o. let j : i + (k - i) ≡ k = omega arith in subst (λ (x : ℕ). get_or s x 0 < 0x80) j (rw (sym (at (k - i) (omega arith))) ((or_told 0 part (rw (sym e) l)).1 (k - i) (omega (arith, long))));
      back = λ p. rw e (or_back 0 part (omega arith) (λ k l. rw (at k (omega (arith, long))) (p (i + k) (omega arith) (omega (arith, long)))));
    }
  where
    part : List ℕ
    part = take (i + n - i) (drop i s)

    long : length part ≡ n
    long = omega (arith, length-take (i + n - i) (drop i s), length-drop i s)

    at : (k : ℕ) → k < n → get_or part k 0 ≡ get_or s (i + k) 0
    at k l = get_or-take (i + n - i) (drop i s) k 0 (omega arith) ∙ get_or-drop i s k 0

-- k at the end, and as many at the front
pub bits_ends : {s : List ℕ} {k a b : ℕ} → (k ≤ length s) × (length s < k + k) → Bits s (length s - k) (length s - k + k) a → Bits s 0 (0 + k) b → Bits s 0 (length s) (bit_or a b)
bits_ends {s} {k} {a} {b} (h, l) f g =
    record {
      told = λ t i m o. ⊎_elim (λ (u : k ≤ i). f.told (omega (arith, or_left a b)) i (omega arith) (omega arith)) (λ (u : i < k). g.told (omega (arith, or_right a b)) i m (omega arith)) (fits_or k i);
      back = λ p. or_lt 7 a b (f.back (λ i m o. p i (omega arith) (omega arith))) (g.back (λ i m o. p i m (omega arith)));
    }
