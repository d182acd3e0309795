-- How far a line is decoded. Assumes nothing.
use Rattle.std.proofs.Common.{◌≡◌, ℕ, ◌+◌, ◌*◌, ◌/◌, ◌%◌, ◌<◌, ◌≤◌, List, ◌∷◌, length, get_or, drop, set, sym, refl, ap, ◌∙◌, arith, length-drop, length-set, w8, Fits, lt-ltb, le-leb}
use mathlib.Core.Option.{Option, none, some, map, none-ne-some}
use borrow.Author.Tests.{lt-leb}
use Rattle.format.specs.Parsed.{fail, got}
use Rattle.format.specs.Read.{drop_more, drop_end}
use Rattle.format.specs.Runs.{run_more_lem, run_stop, run_none}
use Rattle.format.specs.Write.{over, todo, todo_end, todo_byte}
use Rattle.hex_text.specs.Hex.{digit_of, hex_byte, hex_some, line_bytes, line_long}
use Rattle.hex_text.specs.Decode.{Decodes, decoded_of}
use Rattle.std.specs.Prelude.{Some, None}

-- ---- what the decoder answers

pub decodes_not : {line xs ys : List ℕ} → line_bytes line ≡ none → length ys ≡ length xs → Decodes line xs ys None
unfolding decoded_of
decodes_not {xs = xs} e l =
    record { right = sym (ap (λ (o : Option (List ℕ)). decoded_of o (length xs)) e); bytes = λ b f h. absurd (none-ne-some b (sym e ∙ f)); long = l }

pub decodes_odd : {line xs : List ℕ} → length line % 2 ≡ 1 → Decodes line xs xs None
decodes_odd {line} {xs} odd = go (line_bytes line) refl
  where
    go : (o : Option (List ℕ)) → line_bytes line ≡ o → Decodes line xs xs None
    go none e = decodes_not e refl
    go (some b) e = absurd (omega (arith, odd, line_long line b e))

pub decodes_short : {line xs : List ℕ} → length xs < length line / 2 → Decodes line xs xs None
unfolding decoded_of
decodes_short {line} {xs} h = go (line_bytes line) refl
  where
    go : (o : Option (List ℕ)) → line_bytes line ≡ o → Decodes line xs xs None
    go none e = decodes_not e refl
    go (some b) e =
        let k : length xs < length b = omega (arith, line_long line b e) in
        record {
          right = sym (rw (e, lt-leb (length b) (length xs) k));
          bytes = λ a f l. absurd (omega (arith, line_long line b e, line_long line a f));
          long = refl;
        }

-- ---- how far it has come: the bytes that the rest of the line is are still to be written

pub record Decoding (line xs ys : List ℕ) (i : ℕ) : Type 0 where
  pub rest : map (λ (b : List ℕ). todo i b ys) (line_bytes (drop (2 * i) line)) ≡ map (λ (b : List ℕ). over b xs) (line_bytes line)
  pub long : length ys ≡ length xs

module _ {line xs ys : List ℕ} {i : ℕ} (d : Decoding line xs ys i) (h : 2 * i + 1 < length line) (chars : (k : ℕ) → get_or line k 0 < 256) where
  two : drop (2 * i) line ≡ get_or line (2 * i) 0 ∷ get_or line (2 * i + 1) 0 ∷ drop (2 * (i + 1)) line
  two =
      let e : 2 * i + 1 + 1 ≡ 2 * (i + 1) = omega arith in
      drop_more line (2 * i) (omega arith) ∙ ap (λ (r : List ℕ). get_or line (2 * i) 0 ∷ r) (drop_more line (2 * i + 1) h ∙ ap (λ (k : ℕ). get_or line (2 * i + 1) 0 ∷ drop k line) e)

  some_left : 0 < length (drop (2 * i) line)
  some_left = omega (arith, length-drop (2 * i) line)

  stopped : hex_byte.parse (drop (2 * i) line) ≡ fail → Decodes line xs ys None
  stopped e = decodes_not (go (line_bytes line) (sym d.rest ∙ ap (map (λ (b : List ℕ). todo i b ys)) (run_stop hex_byte hex_some (drop (2 * i) line) some_left e))) d.long
    where
      go : (o : Option (List ℕ)) → map (λ (b : List ℕ). over b xs) o ≡ none → o ≡ none
      go none q = refl
      go (some b) q = absurd (none-ne-some (over b xs) (sym q))

  decoding_first : digit_of (get_or line (2 * i) 0) ≡ none → Decodes line xs ys None
  decoding_first e = stopped (ap hex_byte.parse two ∙ rw (lt-ltb (get_or line (2 * i) 0) 256 (chars (2 * i)), e))

  decoding_second : {a : ℕ} → digit_of (get_or line (2 * i) 0) ≡ some a → digit_of (get_or line (2 * i + 1) 0) ≡ none → Decodes line xs ys None
  decoding_second e f =
      stopped (ap hex_byte.parse two ∙ rw (lt-ltb (get_or line (2 * i) 0) 256 (chars (2 * i)), e, lt-ltb (get_or line (2 * i + 1) 0) 256 (chars (2 * i + 1)), f))

  decoding_more : {a b : ℕ} → digit_of (get_or line (2 * i) 0) ≡ some a → digit_of (get_or line (2 * i + 1) 0) ≡ some b → i < length ys
      → Decoding line xs (set ys i (16 * a + b)) (i + 1)
  decoding_more {a} {b} e f k =
      let p : hex_byte.parse (drop (2 * i) line) ≡ got (16 * a + b) (drop (2 * (i + 1)) line) =
      ap hex_byte.parse two ∙ rw (lt-ltb (get_or line (2 * i) 0) 256 (chars (2 * i)), e, lt-ltb (get_or line (2 * i + 1) 0) 256 (chars (2 * i + 1)), f) in
      record {
        rest = go (line_bytes (drop (2 * (i + 1)) line))
            ∙ ap (map (λ (b : List ℕ). todo i b ys)) (sym (run_more_lem hex_byte hex_some (drop (2 * i) line) (16 * a + b) (drop (2 * (i + 1)) line) some_left p))
            ∙ d.rest;
        long = length-set ys i (16 * a + b) ∙ d.long;
      }
    where
      go : (o : Option (List ℕ)) → map (λ (r : List ℕ). todo (i + 1) r (set ys i (16 * a + b))) o ≡ map (λ (r : List ℕ). todo i r ys) (map (λ (r : List ℕ). (16 * a + b) ∷ r) o)
      go none = refl
      go (some r) = ap some (todo_byte i (16 * a + b) r ys k)

-- ---- by the digits that the two characters are

module _ {line xs ys : List ℕ} {i : ℕ} (d : Decoding line xs ys i) (h : i < length line / 2) (each : (k : ℕ) → Fits w8 (get_or line k 0)) where
  chars : (k : ℕ) → get_or line k 0 < 256
  chars k = let w = each k in omega arith

  pub high_wrong : digit_of (get_or line (2 * i) 0) ≡ none → Decodes line xs ys None
  high_wrong = decoding_first d (omega arith) chars

  module _ {a : ℕ} (e : digit_of (get_or line (2 * i) 0) ≡ some a) where
    pub low_wrong : digit_of (get_or line (2 * i + 1) 0) ≡ none → Decodes line xs ys None
    low_wrong = decoding_second d (omega arith) chars e

    pub both_right : {b : ℕ} → digit_of (get_or line (2 * i + 1) 0) ≡ some b → length line / 2 ≤ length xs → Decoding line xs (set ys i (16 * a + b)) (i + 1)
    both_right f l = decoding_more d (omega arith) chars e f (omega (arith, d.long))

pub decoding_done : {line xs ys : List ℕ} {i : ℕ} → Decoding line xs ys i → (length line % 2 ≡ 1 → ⊥) → length line / 2 ≤ i → length line / 2 ≤ length xs → Decodes line xs ys (Some (length line / 2))
unfolding decoded_of
decoding_done {line} {xs} {ys} {i} d even h k = go (line_bytes line) refl (sym done ∙ d.rest)
  where
    done : map (λ (b : List ℕ). todo i b ys) (line_bytes (drop (2 * i) line)) ≡ some ys
    done = ap (λ (r : List ℕ). map (λ (b : List ℕ). todo i b ys) (line_bytes r)) (drop_end line (2 * i) (omega (arith, even))) ∙ rw (run_none hex_byte hex_some) (ap some (todo_end i ys))

    go : (o : Option (List ℕ)) → line_bytes line ≡ o → some ys ≡ map (λ (b : List ℕ). over b xs) o → Decodes line xs ys (Some (length line / 2))
    go none e q = absurd (none-ne-some ys (sym q))
    go (some b) e q =
        let l : length b ≤ length xs = omega (arith, line_long line b e) in
        let n : length line / 2 ≡ length b = omega (arith, line_long line b e) in
        let y : ys ≡ over b xs = cc in
        record {
          right = ap Some n ∙ sym (rw (e, le-leb (length b) (length xs) l));
          bytes = λ a f m. let s : b ≡ a = cc in y ∙ ap (λ (r : List ℕ). over r xs) s;
          long = d.long;
        }
