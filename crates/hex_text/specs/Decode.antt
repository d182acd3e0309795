-- What decoding a line answers and leaves. Assumes nothing.
use Rattle.std.specs.Prelude.{◌≡◌, ℕ, ◌/◌, ◌≤◌, cond, List, length, nat_le, Some, None}
use Rattle.std.specs.Prelude as code
use Rattle.std.proofs.Math.Path.{refl}
use Rattle.std.proofs.Common.{sym, ◌∙◌, arith, le-leb}
use Rattle.std.proofs.Math.Logic.{⊎_elim}
use Rattle.std.proofs.Math.Option.{Option, none, some}
use Rattle.std.proofs.lemmas.Bool.{lt-leb}
use Rattle.format.specs.Write.{over, fits_or}
use Rattle.hex_text.specs.Hex.{line_bytes, line_long}

-- how many bytes there are, where there is room for them
unfoldable pub decoded_of : Option (List ℕ) → ℕ → code.Option ℕ
decoded_of none room = None
decoded_of (some b) room = cond (nat_le (length b) room) (Some (length b)) None

-- the decoder's contract: it was lent xs, answered r and left ys. Where that is None, its buffer is scratch, of the same length
pub record Decodes (line xs ys : List ℕ) (r : code.Option ℕ) : Type 0 where
  pub right : r ≡ decoded_of (line_bytes line) (length xs)
  pub bytes : (b : List ℕ) → line_bytes line ≡ some b → length b ≤ length xs → ys ≡ over b xs
  pub long : length ys ≡ length xs

-- what its answer tells
module _ {line xs ys : List ℕ} {r : code.Option ℕ} (d : Decodes line xs ys r) where
  pub told_bytes : {n : ℕ} → r ≡ Some n → (b : List ℕ) × (line_bytes line ≡ some b) × (n ≡ length b) × (length b ≤ length xs) × (ys ≡ over b xs)
  unfolding decoded_of
  told_bytes {n} e = go (line_bytes line) refl (sym e ∙ d.right)
    where
      go : (o : Option (List ℕ)) → line_bytes line ≡ o → Some n ≡ decoded_of o (length xs)
          → (b : List ℕ) × (line_bytes line ≡ some b) × (n ≡ length b) × (length b ≤ length xs) × (ys ≡ over b xs)
      go none p q = let z : ◌≡◌ {A = ℕ} 0 1 = cc in absurd (omega arith)
      go (some b) p q = ⊎_elim
          (λ h. let k : Some n ≡ Some (length b) = q ∙ rw (le-leb (length b) (length xs) h) in (b, p, (cc), h, d.bytes b p h))
          (λ h. let k : Some n ≡ None = q ∙ rw (lt-leb (length b) (length xs) h) in let z : ◌≡◌ {A = ℕ} 0 1 = cc in absurd (omega arith))
          (fits_or (length b) (length xs))

  -- where there is room for half as many bytes as the line has characters, None is that they are no pairs of digits
  pub told_no : r ≡ None → length line / 2 ≤ length xs → line_bytes line ≡ none
  unfolding decoded_of
  told_no e h = go (line_bytes line) refl (sym e ∙ d.right)
    where
      go : (o : Option (List ℕ)) → line_bytes line ≡ o → None ≡ decoded_of o (length xs) → o ≡ none
      go none p q = refl
      go (some b) p q =
          let k : length b ≤ length xs = omega (arith, line_long line b p) in
          let m : None ≡ Some (length b) = q ∙ rw (le-leb (length b) (length xs) k) in
          let z : ◌≡◌ {A = ℕ} 0 1 = cc in
          absurd (omega arith)
