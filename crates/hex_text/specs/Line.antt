-- A hex line (document 01, Hex lines): the frame that it holds, and that 12 is given exactly where it holds none. Assumes nothing.
use Rattle.std.specs.Prelude.{◌≡◌, ℕ, suc, ◌-◌, ◌<◌, ◌≤◌, Bool, true, false, cond, ◌↔◌, List, [], ◌∷◌, ◌++◌, length, take, ◌==◌, nat_le, slice_index, slice_index_or, refl}
use Rattle.std.proofs.Common.{sym, ap, subst, ◌∙◌, arith, length-append, take-suc, take_all, take_at, eqb-true, eq-eqb, leb-true, le-leb}
use Rattle.std.proofs.Math.Option.{Option, none, some, none-ne-some}
use Rattle.format.specs.Lists.{All, all_more}
use Rattle.format.specs.Runs.{run_only, run_back}
use Rattle.frames.specs.Frames.{byte}
use Rattle.hex_text.specs.Hex.{char_of, hex_byte, hex_some, line_bytes, hex_of}
use Rattle.hex_text.specs.Sum.{sum_of, check_of, check_exactly}
use Rattle.hex_text.specs.Frame.{Frame, finish_told, frame_of, frame_bytes, FrameOk, frame_back, frame_only}

-- "at most 8,192 digits"
abbrev pub digits_most : ℕ
digits_most = 8192

-- "The last byte makes the sum of all bytes wrap to 00": all but it are the frame. An empty line has none
unfoldable pub summed : Option (List ℕ) → Option Frame
summed none = none
summed (some b) = cond (sum_of b == 0) (frame_of (take (length b - 1) b)) none

-- the frame that a line holds, or none, which is answer 12
unfoldable pub line_of : List ℕ → Option Frame
line_of line = cond (nat_le (length line) digits_most) (summed (line_bytes line)) none

-- ---- a frame's line, and that no other line holds it

-- bytes, and the check byte behind them
abbrev pub with_check : List ℕ → List ℕ
with_check b = b ++ (check_of b ∷ [])

-- the line of a frame
pub record LineFor (f : Frame) (line : List ℕ) : Type 0 where
  pub ok : FrameOk f
  pub bytes : All byte.Ok (frame_bytes f)
  pub digits : line ≡ hex_of (with_check (frame_bytes f))
  pub few : length line ≤ digits_most

all_split : (P : ℕ → Type 0) (b : List ℕ) (c : ℕ) → All P (b ++ (c ∷ [])) → All P b × P c
all_split P [] c h = (tt, h.0)
all_split P (x ∷ b) c h = let (k, l) = all_split P b c h.1 in ((h.0, k), l)

front_of : (b : List ℕ) (c : ℕ) → take (length (b ++ (c ∷ [])) - 1) (b ++ (c ∷ [])) ≡ b
front_of b c = take_at b (c ∷ []) (length (b ++ (c ∷ [])) - 1) (omega (arith, length-append b (c ∷ [])))

pub line_back : (f : Frame) (line : List ℕ) → LineFor f line → line_of line ≡ some f
unfolding line_of summed
line_back f line l =
    let b = frame_bytes f in
    let c : check_of b < 256 = omega arith in
    let r : line_bytes line ≡ some (with_check b) = ap line_bytes l.digits ∙ run_back hex_byte hex_some (with_check b) (all_more hex_byte.Ok b (check_of b) l.bytes c) in
    let z : sum_of (with_check b) ≡ 0 = (check_exactly b (check_of b) c).1 refl in
    rw (le-leb (length line) digits_most l.few, r, eq-eqb (sum_of (with_check b)) 0 z, front_of b (check_of b)) (frame_back f l.ok)

pub split_last : (b : List ℕ) → 0 < length b → b ≡ take (length b - 1) b ++ (slice_index b (length b - 1) ∷ [])
split_last b h =
    let n = length b - 1 in
    let e : suc n ≡ length b = omega arith in
    sym (ap (λ (k : ℕ). take k b) e ∙ take_all (length b) b (omega arith)) ∙ take-suc b n 0 (omega arith)

pub line_only : (line : List ℕ) (f : Frame) → line_of line ≡ some f → LineFor f line
unfolding line_of summed frame_of
line_only line f e = few (nat_le (length line) digits_most) refl e
  where
    never : {A : Type 0} → none ≡ some f → A
    never q = absurd (none-ne-some f q)

    -- the last byte is the check byte of the others
    last : (b : List ℕ) → line_bytes line ≡ some b → sum_of b ≡ 0 → frame_of (take (length b - 1) b) ≡ some f → 0 < length b → length line ≤ digits_most → LineFor f line
    last b r z q h m =
        let s = split_last b h in
        let c = slice_index_or b (length b - 1) 0 in
        let (a, p) = run_only hex_byte line b r in
        let (ok, g) = frame_only (take (length b - 1) b) f q in
        let (all, one) = all_split hex_byte.Ok (take (length b - 1) b) c (subst (All hex_byte.Ok) s a) in
        let k : c ≡ check_of (take (length b - 1) b) = (check_exactly (take (length b - 1) b) c one).0 (sym (ap sum_of s) ∙ z) in
        record {
          ok = ok;
          bytes = subst (All byte.Ok) g all;
          digits = p ∙ ap hex_of (s ∙ ap (λ (d : ℕ). take (length b - 1) b ++ (d ∷ [])) k ∙ ap with_check g);
          few = m;
        }

    sum : (b : List ℕ) → line_bytes line ≡ some b → (t : Bool) → (sum_of b == 0) ≡ t → cond t (frame_of (take (length b - 1) b)) none ≡ some f → length line ≤ digits_most → LineFor f line
    sum b r false t q m = never q
    sum [] r true t q m = never q
    sum (x ∷ b) r true t q m = last (x ∷ b) r (eqb-true (sum_of (x ∷ b)) 0 t) q (omega arith) m

    held : (o : Option (List ℕ)) → line_bytes line ≡ o → summed o ≡ some f → length line ≤ digits_most → LineFor f line
    held none r q m = never q
    held (some b) r q m = sum b r (sum_of b == 0) refl q m

    few : (t : Bool) → nat_le (length line) digits_most ≡ t → cond t (summed (line_bytes line)) none ≡ some f → LineFor f line
    few false t q = never q
    few true t q = held (line_bytes line) refl q (leb-true (length line) digits_most t)

-- 12 is given exactly where the line is no frame's
pub line_refuses : (line : List ℕ) → (line_of line ≡ none) ↔ ((f : Frame) → LineFor f line → ⊥)
line_refuses line = (λ e f l. none-ne-some f (sym e ∙ line_back f line l), λ h. go h (line_of line) refl)
  where
    go : ((f : Frame) → LineFor f line → ⊥) → (o : Option Frame) → line_of line ≡ o → o ≡ none
    go h none e = refl
    go h (some f) e = absurd (h f (line_only line f e))

-- the finish of document 01's whole case: 02010000000C0BE6
pub finish_line : LineFor (finish_told 1 (0x0C ∷ 0x0B ∷ []))
    (0x30 ∷ 0x32 ∷ 0x30 ∷ 0x31 ∷ 0x30 ∷ 0x30 ∷ 0x30 ∷ 0x30 ∷ 0x30 ∷ 0x30 ∷ 0x30 ∷ 0x43 ∷ 0x30 ∷ 0x42 ∷ 0x45 ∷ 0x36 ∷ [])
unfolding char_of
finish_line = record {
  ok = omega arith;
  bytes = (omega arith, (omega arith, (omega arith, (omega arith, (omega arith, (omega arith, (omega arith, tt)))))));
  digits = refl;
  few = omega arith;
}
