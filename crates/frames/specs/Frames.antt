-- Frames (document 01, Store and module): section id, item length in four bytes, low first, then the item. Assumes nothing.
use Rattle.std.specs.Prelude.{◌≡◌, refl, Bool, true, false, List, [], ℕ, ◌+◌, ◌*◌, ◌/◌, ◌%◌, ◌<◌, ◌^◌, leb, length}
use Rattle.std.proofs.Common.{sym, ap, ◌∙◌, arith}
use Rattle.std.proofs.Math.Option.{Option, none, some}
use Rattle.format.specs.Format.{Format}
use Rattle.format.specs.Lists.{All}
use Rattle.format.specs.Basic.{number, via}
use Rattle.format.specs.Combine.{pair, iso, guard}
use Rattle.format.specs.Sized.{sized}
use Rattle.format.specs.Runs.{run, run_only}
use Rattle.frames.specs.Ids.{sections, among}

-- ---- a number in four bytes, low first

abbrev pub byte : Format ℕ
byte = number 256

abbrev pub four : Format (ℕ × (ℕ × (ℕ × ℕ)))
four = pair byte (pair byte (pair byte byte))

abbrev pub bytes_of : ℕ → ℕ × (ℕ × (ℕ × ℕ))
bytes_of n = (n % 256, (n / 256 % 256, (n / 256 / 256 % 256, n / 256 / 256 / 256)))

abbrev pub value_of : ℕ × (ℕ × (ℕ × ℕ)) → ℕ
value_of p = p.0 + 256 * (p.1.0 + 256 * (p.1.1.0 + 256 * p.1.1.1))

low_byte : (a q : ℕ) → a < 256 → (a + 256 * q) % 256 ≡ a
low_byte a q h = omega arith

high_bytes : (a q : ℕ) → a < 256 → (a + 256 * q) / 256 ≡ q
high_bytes a q h = omega arith

pub bytes_of_value : (p : ℕ × (ℕ × (ℕ × ℕ))) → four.Ok p → p ≡ bytes_of (value_of p)
bytes_of_value p (ha, (hb, (hc, hd))) =
    let r = p.1.1.0 + 256 * p.1.1.1 in
    let q = p.1.0 + 256 * r in
    let hq : (p.0 + 256 * q) / 256 ≡ q = high_bytes p.0 q ha in
    let hr : q / 256 ≡ r = high_bytes p.1.0 r hb in
    let e0 : p.0 ≡ value_of p % 256 = sym (low_byte p.0 q ha) in
    let e1 : p.1.0 ≡ value_of p / 256 % 256 = sym (ap (λ (x : ℕ). x % 256) hq ∙ low_byte p.1.0 r hb) in
    let e2 : p.1.1.0 ≡ value_of p / 256 / 256 % 256 = sym (ap (λ (x : ℕ). x / 256 % 256) hq ∙ ap (λ (x : ℕ). x % 256) hr ∙ low_byte p.1.1.0 p.1.1.1 hc) in
    let e3 : p.1.1.1 ≡ value_of p / 256 / 256 / 256 = sym (ap (λ (x : ℕ). x / 256 / 256) hq ∙ ap (λ (x : ℕ). x / 256) hr ∙ high_bytes p.1.1.0 p.1.1.1 hc) in
    λ i. (e0 i, (e1 i, (e2 i, e3 i)))

value_small : (p : ℕ × (ℕ × (ℕ × ℕ))) → four.Ok p → value_of p < 2 ^ 32
value_small p h = let (a, (b, (c, d))) = h in omega arith

pub word_of : (p : ℕ × (ℕ × (ℕ × ℕ))) (n : ℕ) → four.Ok p → some (value_of p) ≡ some n → (n < 2 ^ 32) × (p ≡ bytes_of n)
word_of p n h e = let v : value_of p ≡ n = cc in (rw (← v) (value_small p h), bytes_of_value p h ∙ ap bytes_of v)

abbrev pub word32 : Format ℕ
word32 =
    via four
    (record {
      OkA = λ n. n < 2 ^ 32;
      to = bytes_of;
      of = λ p. some (value_of p);
      fits = λ n h. (omega arith, (omega arith, (omega arith, omega arith)));
      of_to = λ n h. ap some (omega arith);
      to_of = word_of;
    })

-- ---- a frame

-- at most 65,536 bytes
abbrev pub item_most : ℕ
item_most = 65536

pub record Frame : Type 0 where
  pub id : ℕ
  pub item : List ℕ

abbrev pub frame : Format Frame
frame =
    iso (pair (guard byte (among sections)) (sized (guard word32 (λ n. leb n item_most))))
    (λ f. (f.id, f.item)) (λ p. record { id = p.0; item = p.1 }) (λ f. refl) (λ p. refl)

-- whether there are none, and those that there are
abbrev pub no_frames : Option (List Frame) → Bool
no_frames none = true
no_frames (some fs) = false

abbrev pub held : Option (List Frame) → List Frame
held none = []
held (some fs) = fs

-- those that bytes are
abbrev pub frames_of : List ℕ → List Frame
frames_of s = held (run frame s)

-- each of them is one
pub frames_ok : (s : List ℕ) → All frame.Ok (frames_of s)
frames_ok s = go (run frame s) refl
  where
    go : (o : Option (List Frame)) → run frame s ≡ o → All frame.Ok (held o)
    go none e = tt
    go (some fs) e = (run_only frame s fs e).0

pub frame_long : (f : Frame) → length (frame.print f) ≡ length f.item + 5
frame_long f = omega arith

pub frame_some : (f : Frame) → frame.Ok f → 0 < length (frame.print f)
frame_some f h = omega arith
