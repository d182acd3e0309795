-- The frame that a line holds, as it is found: the bytes but the last, where that is their check byte. Assumes nothing.
use Rattle.std.specs.Prelude.{◌≡◌, ℕ, ◌-◌, ◌<◌, ◌≤◌, List, [], ◌∷◌, length, take, ◌≢◌, slice_index, slice_index_or, Some, None}
use Rattle.std.specs.Prelude as code
use Rattle.std.proofs.Math.Path.{refl, ap}
use Rattle.std.proofs.Common.{sym, ◌∙◌, arith}
use Rattle.std.proofs.Math.Option.{Option, none, some}
use Rattle.std.proofs.lemmas.Option.{none-some}
use borrow.Author.Tests.{le-leb, lt-leb, eq-eqb, ne_eqb}
use Rattle.hex_text.specs.Hex.{line_bytes}
use Rattle.hex_text.specs.Sum.{sum_of, check_of, check_exactly}
use Rattle.hex_text.specs.Frame.{Frame, frame_of}
use Rattle.hex_text.specs.Line.{digits_most, summed, line_of, split_last}

-- the frame that the first bytes of ys are, as many as are told; none where none are
abbrev pub frame_in : List ℕ → code.Option ℕ → Option Frame
frame_in ys None = none
frame_in ys (Some n) = frame_of (take n ys)

-- the contract: as many of the first bytes of the memory ys as are told are the line's frame; none are where the line holds none
pub record Holds (line ys : List ℕ) (r : code.Option ℕ) : Type 0 where
  pub within : (n : ℕ) → r ≡ Some n → n ≤ length ys
  pub frame : line_of line ≡ frame_in ys r

pub holds_none : {line : List ℕ} (ys : List ℕ) → line_of line ≡ none → Holds line ys None
holds_none ys e = record { within = λ n q. absurd (none-some n q); frame = e }

pub holds_some : {line : List ℕ} (ys : List ℕ) (n : ℕ) → n ≤ length ys → line_of line ≡ frame_of (take n ys) → Holds line ys (Some n)
holds_some ys n h e = record { within = λ m q. let k : n ≡ m = cc in omega arith; frame = e }

module _ (line : List ℕ) where
  pub too_long : digits_most < length line → line_of line ≡ none
  unfolding line_of
  too_long h = rw (lt-leb (length line) digits_most h)

  module _ (h : length line ≤ digits_most) where
    pub no_bytes : line_bytes line ≡ none → line_of line ≡ none
    unfolding line_of summed
    no_bytes e = rw (le-leb (length line) digits_most h, e)

    module _ (b : List ℕ) (e : line_bytes line ≡ some b) where
      pub empty : length b ≡ 0 → line_of line ≡ none
      unfolding line_of summed frame_of
      empty k = rw (le-leb (length line) digits_most h, e) (go b k)
        where
          go : (b : List ℕ) → length b ≡ 0 → summed (some b) ≡ none
          go [] k = refl
          go (x ∷ b) k = absurd (omega arith)

      module _ (k : 0 < length b) (c : slice_index_or b (length b - 1) 0 < 256) where
        pub right_sum : slice_index_or b (length b - 1) 0 ≡ check_of (take (length b - 1) b) → line_of line ≡ frame_of (take (length b - 1) b)
        unfolding line_of summed
        right_sum q =
            let z : sum_of b ≡ 0 = ap sum_of (split_last b k) ∙ (check_exactly (take (length b - 1) b) (slice_index b (length b - 1)) c).1 q in
            rw (le-leb (length line) digits_most h, e, eq-eqb (sum_of b) 0 z)

        pub wrong_sum : (slice_index b (length b - 1) ≢ check_of (take (length b - 1) b)) → line_of line ≡ none
        unfolding line_of summed
        wrong_sum q =
            let z : sum_of b ≡ 0 → ⊥ = λ s. q ((check_exactly (take (length b - 1) b) (slice_index b (length b - 1)) c).0 (sym (ap sum_of (split_last b k)) ∙ s)) in
            rw (le-leb (length line) digits_most h, e, ne_eqb (sum_of b) 0 z)
