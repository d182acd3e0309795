-- What the program says to its input, character by character (document 01, Hex lines: "Each line is answered by one line"). Assumes nothing.
use Rattle.std.specs.Prelude.{◌≡◌, refl, false, cond, List, [], ◌∷◌, ◌++◌, ℕ, zero, suc, ◌<◌, ◌≤◌, eqb, length, take}
use Rattle.std.specs.List.{position_or_len}
use Rattle.std.proofs.Common.{sym, ap, ◌∙◌, ⊎_elim, append-nil, append_assoc, arith, length-take, take_all, eq-eqb, ne_eqb}
use Rattle.std.proofs.Math.Option.{Option}
use Rattle.format.specs.Write.{fits_or}
use Rattle.format.specs.Runs.{run_back}
use Rattle.hex_text.specs.Hex.{char_of, hex_byte, hex_some}
use Rattle.hex_text.specs.Frame.{Frame}
use Rattle.hex_text.specs.Line.{line_of}
use Rattle.hex_text.specs.Held.{too_long, empty}
use Rattle.frames.specs.Builder as builder
use Rattle.frames.specs.declared.State.{State}
use Rattle.lines.specs.Done.{Done, doing}
use Rattle.lines.specs.Answer.{answer_line}

-- the state, the store and the module's buffer; the line that is not at its end; and all that was said
pub record Kept : Type 0 where
  pub state : State
  pub store : List ℕ
  pub buffer : List ℕ
  pub line : List ℕ
  pub said : List ℕ

abbrev pub answer_of : Kept → Done
answer_of k = doing k.state k.store k.buffer (line_of k.line)

-- a line that is at its end is answered, by one line
abbrev pub ended : Kept → Kept
ended k =
    record {
      state = (answer_of k).state;
      store = (answer_of k).store;
      buffer = (answer_of k).buffer;
      line = [];
      said = k.said ++ (answer_line (answer_of k) ++ (0x0A ∷ []));
    }

-- a part of a line
abbrev pub more : Kept → List ℕ → Kept
more k part = record { state = k.state; store = k.store; buffer = k.buffer; line = k.line ++ part; said = k.said }

-- a character, and some
unfoldable pub heard : Kept → ℕ → Kept
heard k c = cond (eqb c 0x0A) (ended k) (more k (c ∷ []))

-- where the first line feed of some characters stands, or how many they are
unfoldable pub feed_at : List ℕ → ℕ
feed_at xs = position_or_len (λ c. eqb c 0x0A) xs

abbrev pub hears : Kept → List ℕ → Kept
hears k [] = k
hears k (c ∷ cs) = hears (heard k c) cs

-- "A last line may lack its line feed"
unfoldable pub closed : Kept → Kept
closed k = cond (eqb (length k.line) 0) k (ended k)

-- where the input is cut does not matter
pub hears_more : (k : Kept) (a b : List ℕ) → hears k (a ++ b) ≡ hears (hears k a) b
hears_more k [] b = refl
hears_more k (c ∷ a) b = hears_more (heard k c) a b

pub heard_end : (k : Kept) → heard k 0x0A ≡ ended k
unfolding heard
heard_end k = refl

pub heard_other : (k : Kept) (c : ℕ) → eqb c 0x0A ≡ false → heard k c ≡ more k (c ∷ [])
unfolding heard
heard_other k c e = rw e

pub closed_none : (k : Kept) → length k.line ≡ 0 → closed k ≡ k
unfolding closed
closed_none k e = rw (eq-eqb (length k.line) 0 e)

pub closed_line : (k : Kept) → (length k.line ≡ 0 → ⊥) → closed k ≡ ended k
unfolding closed
closed_line k h = rw (ne_eqb (length k.line) 0 h)

pub more_none : (k : Kept) → k ≡ more k []
more_none k = λ i. record { state = k.state; store = k.store; buffer = k.buffer; line = sym (append-nil k.line) i; said = k.said }

pub more_more : (k : Kept) (a b : List ℕ) → more (more k a) b ≡ more k (a ++ b)
more_more k a b = λ i. record { state = k.state; store = k.store; buffer = k.buffer; line = append_assoc k.line a b i; said = k.said }

-- ---- a line that is too long is known by its first 8,193 characters

abbrev pub kept_most : ℕ
kept_most = 8193

pub front_tells : (l : List ℕ) → line_of (take kept_most l) ≡ line_of l
front_tells l =
    ⊎_elim (λ (h : length l ≤ kept_most). ap line_of (take_all kept_most l h))
    (λ (h : kept_most < length l). too_long (take kept_most l) (omega (arith, length-take kept_most l)) ∙ sym (too_long l (omega arith)))
    (fits_or (length l) kept_most)

pub front_more : (n : ℕ) (l p : List ℕ) → take n (take n l ++ p) ≡ take n (l ++ p)
front_more zero l p = refl
front_more (suc n) [] p = refl
front_more (suc n) (x ∷ l) p = ap (λ (r : List ℕ). x ∷ r) (front_more n l p)

-- ---- all that is said to an input

-- the store is fresh
abbrev pub fresh : List ℕ → List ℕ → Kept
fresh store buffer = record { state = builder.fresh; store = store; buffer = buffer; line = []; said = [] }

abbrev pub says : List ℕ → List ℕ → List ℕ → List ℕ
says store buffer input = (closed (hears (fresh store buffer) input)).said

-- no line has no answer, and an empty one is answered by 0C
pub no_line : (store buffer : List ℕ) → says store buffer [] ≡ []
unfolding closed
no_line store buffer = refl

pub empty_line : (store buffer : List ℕ) → says store buffer (0x0A ∷ []) ≡ 0x30 ∷ 0x43 ∷ 0x0A ∷ []
unfolding closed heard char_of
empty_line store buffer =
    ap (λ (f : Option Frame). answer_line (doing builder.fresh store buffer f) ++ (0x0A ∷ [])) (empty [] (omega arith) [] (run_back hex_byte hex_some [] tt) refl)
