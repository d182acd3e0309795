-- A piece of the input, line by line: each goes to the next line feed. Assumes nothing.
use mathlib.Core.Path.{◌≡◌, refl, sym, ap, subst, ◌∙◌}
use mathlib.Core.Bool.{Bool, true, false, cond, not}
use mathlib.Core.List.{List, [], ◌∷◌}
use Prim.Native.Nat.{ℕ, suc, ◌+◌, ◌-◌, ◌<◌, ◌≤◌}
use native.Mathlib.Numerals.{add-one}
use native.Mathlib.Omega.{arith}
use lib.Dec.{eqb}
use lib.ListN.{length, take, drop, get_or, length-drop}
use lib.Seq.{take-add, take-suc, get_or-drop}
use borrow.Author.Tests.{eqb-true}
use Rattle.std.proofs.lemmas.List.Sums.{passes_at_first, position_or_len_is}
use Rattle.replies.specs.Input.{Kept, ended, more, heard, hears, feed_at, hears_more, heard_end, heard_other, more_none, more_more}

-- before the first line feed there is none
to_feed : (k : Kept) (xs : List ℕ) → hears k (take (feed_at xs) xs) ≡ more k (take (feed_at xs) xs)
unfolding feed_at
to_feed k [] = more_none k
to_feed k (x ∷ xs) = go (eqb x 0x0A) refl (to_feed (more k (x ∷ [])) xs)
  where
    go : (t : Bool) → eqb x 0x0A ≡ t → hears (more k (x ∷ [])) (take (feed_at xs) xs) ≡ more (more k (x ∷ [])) (take (feed_at xs) xs)
        → hears k (take (cond (not t) (1 + feed_at xs) 0) (x ∷ xs)) ≡ more k (take (cond (not t) (1 + feed_at xs) 0) (x ∷ xs))
    go true e f = more_none k
    go false e f =
        let n : 1 + feed_at xs ≡ suc (feed_at xs) = omega arith in
        rw n (ap (λ (m : Kept). hears m (take (feed_at xs) xs)) (heard_other k x e) ∙ f ∙ more_more k (x ∷ []) (take (feed_at xs) xs))

-- and there it is
at_feed : (xs : List ℕ) → feed_at xs < length xs → get_or xs (feed_at xs) 0 ≡ 0x0A
unfolding feed_at
at_feed xs h = eqb-true (get_or xs (feed_at xs) 0) 0x0A (passes_at_first (λ c. eqb c 0x0A) xs 0 h)

-- a place is the first one where there is none before it
pub feed_is : (xs : List ℕ) (n : ℕ) → n ≤ length xs → ((k : ℕ) → k < n → eqb (get_or xs k 0) 0x0A ≡ false) → (n < length xs → eqb (get_or xs n 0) 0x0A ≡ true)
    → feed_at xs ≡ n
unfolding feed_at
feed_is xs n h before at = position_or_len_is (λ c. eqb c 0x0A) xs n 0 h before at

not_true : (b : Bool) → (b ≡ true → ⊥) → b ≡ false
not_true true h = absurd (h refl)
not_true false h = refl

-- so a search that found one, or none, found the place
pub feed_found : {xs : List ℕ} (ys : List ℕ) {n : ℕ} → xs ≡ ys → n < length xs → ((k : ℕ) → k < n → eqb (get_or xs k 0) 0x0A ≡ true → ⊥)
    → eqb (get_or xs n 0) 0x0A ≡ true → feed_at ys ≡ n
feed_found {xs} ys {n} e l before at =
    subst (λ (zs : List ℕ). feed_at zs ≡ n) e (feed_is xs n (omega arith) (λ k h. not_true (eqb (get_or xs k 0) 0x0A) (before k h)) (λ h. at))

pub feed_missing : {xs : List ℕ} (ys : List ℕ) → xs ≡ ys → ((k : ℕ) → k < length xs → eqb (get_or xs k 0) 0x0A ≡ true → ⊥) → feed_at ys ≡ length ys
feed_missing {xs} ys e none =
    subst (λ (zs : List ℕ). feed_at zs ≡ length zs) e (feed_is xs (length xs) (omega arith) (λ k h. not_true (eqb (get_or xs k 0) 0x0A) (none k h)) (λ h. absurd (omega arith)))

module _ (k : Kept) (piece : List ℕ) (i end : ℕ) (place : end ≡ i + feed_at (drop i piece)) where
  pub part_heard : hears k (take end piece) ≡ more (hears k (take i piece)) (take (end - i) (drop i piece))
  part_heard =
      let xs = drop i piece in
      let j : end - i ≡ feed_at xs = omega (arith, place) in
      ap (λ (n : ℕ). hears k (take n piece)) place
      ∙ ap (hears k) (take-add i (feed_at xs) piece)
      ∙ hears_more k (take i piece) (take (feed_at xs) xs)
      ∙ to_feed (hears k (take i piece)) xs
      ∙ ap (λ (n : ℕ). more (hears k (take i piece)) (take n xs)) (sym j)

  pub line_heard : end < length piece → hears k (take (end + 1) piece) ≡ ended (more (hears k (take i piece)) (take (end - i) (drop i piece)))
  line_heard h =
      let xs = drop i piece in
      let f : get_or piece end 0 ≡ 0x0A =
      ap (λ (n : ℕ). get_or piece n 0) place ∙ sym (get_or-drop i piece (feed_at xs) 0) ∙ at_feed xs (omega (arith, place, length-drop i piece)) in
      ap (λ (n : ℕ). hears k (take n piece)) (add-one end)
      ∙ ap (hears k) (take-suc piece end 0 h)
      ∙ hears_more k (take end piece) (get_or piece end 0 ∷ [])
      ∙ ap (λ (c : ℕ). heard (hears k (take end piece)) c) f
      ∙ heard_end (hears k (take end piece))
      ∙ ap ended part_heard
