-- Words of 32 bits, each in four bytes, low first, at the front of some bytes (document 01, Hex lines). Assumes nothing.
use Rattle.std.specs.Prelude.{◌≡◌, ℕ, ◌*◌, ◌≤◌, Bool, true, false, cond, List, [], ◌∷◌, length, nat_le}
use Rattle.std.proofs.Math.Path.{refl, ap}
use Rattle.std.proofs.Common.{sym, ◌∙◌, arith, length-append, le-leb}
use Rattle.std.proofs.Math.Bool.{true≢false}
use Rattle.format.specs.Parsed.{Parsed, fail, got}
use Rattle.format.specs.Lists.{times, times_only, prints}
use Rattle.format.specs.Write.{over}
use Rattle.frames.specs.Frames.{word32}

-- n words, and what is behind them
abbrev pub words_in : ℕ → List ℕ → Parsed (List ℕ)
words_in = times word32.parse

pub words_long : (ws : List ℕ) → length (prints word32.print ws) ≡ 4 * length ws
words_long [] = refl
words_long (w ∷ ws) = omega (arith, words_long ws)

-- whether the words are there and have room, and the memory that was lent for them, as it is left
pub record Outcome : Type 0 where
  pub are : Bool
  pub memory : List ℕ

abbrev pub outcome : Bool → List ℕ → Outcome
outcome r ys = record { are = r; memory = ys }

-- n words take four bytes each
pub words_taken : (n : ℕ) (s ws r : List ℕ) → words_in n s ≡ got ws r → (length ws ≡ n) × (4 * n ≤ length s)
words_taken n s ws r e =
    let (k, _, p) = times_only word32 n s ws r e in
    (k, omega (arith, ap length p, length-append (prints word32.print ws) r, words_long ws))

-- what is right where words are to be read into xs: a refusal changes nothing
unfoldable pub reading : Parsed (List ℕ) → List ℕ → Outcome
reading fail xs = outcome false xs
reading (got ws rest) xs = cond (nat_le (length ws) (length xs)) (outcome true (over ws xs)) (outcome false xs)

-- the contract: n words of s were to be read into xs; it answered r and left ys
pub record Reads (n : ℕ) (s xs ys : List ℕ) (r : Bool) : Type 0 where
  pub right : outcome r ys ≡ reading (words_in n s) xs

-- what its answer tells
module _ {n : ℕ} {s xs ys : List ℕ} {r : Bool} (d : Reads n s xs ys r) where
  pub told_words : r ≡ true → (ws : List ℕ) × (rest : List ℕ) × (words_in n s ≡ got ws rest) × (ys ≡ over ws xs)
  unfolding reading
  told_words e = go (words_in n s) refl d.right
    where
      never : outcome r ys ≡ outcome false xs → ⊥
      never q = true≢false (sym e ∙ ap (λ (o : Outcome). o.are) q)

      room : (ws : List ℕ) (t : Bool) → outcome r ys ≡ cond t (outcome true (over ws xs)) (outcome false xs) → ys ≡ over ws xs
      room ws true q = ap (λ (o : Outcome). o.memory) q
      room ws false q = absurd (never q)

      go : (m : Parsed (List ℕ)) → words_in n s ≡ m → outcome r ys ≡ reading m xs
          → (ws : List ℕ) × (rest : List ℕ) × (words_in n s ≡ got ws rest) × (ys ≡ over ws xs)
      go fail p q = absurd (never q)
      go (got ws rest) p q = (ws, rest, p, room ws (nat_le (length ws) (length xs)) q)

  -- where there is room for n words, false is that one is missing
  pub told_missing : r ≡ false → n ≤ length xs → words_in n s ≡ fail
  unfolding reading
  told_missing e h = go (words_in n s) refl d.right
    where
      go : (m : Parsed (List ℕ)) → words_in n s ≡ m → outcome r ys ≡ reading m xs → m ≡ fail
      go fail p q = refl
      go (got ws rest) p q =
          let k : length ws ≤ length xs = omega (arith, (times_only word32 n s ws rest p).0) in
          let t : outcome r ys ≡ outcome true (over ws xs) = q ∙ rw (le-leb (length ws) (length xs) k) in
          absurd (true≢false (sym (ap (λ (o : Outcome). o.are) t) ∙ e))
