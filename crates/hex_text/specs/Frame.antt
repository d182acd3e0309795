-- The frame of a hex line (document 01, Hex lines): its bytes, without the last. Assumes nothing.
use Rattle.std.specs.Prelude.{◌≡◌, ℕ, ◌+◌, ◌*◌, ◌/◌, ◌%◌, ◌<◌, Bool, true, false, cond, List, [], ◌∷◌, ◌++◌, ◌==◌, refl}
use Rattle.std.proofs.Common.{ap, ◌∙◌, arith, eqb-true}
use Rattle.std.proofs.Math.Option.{Option, none, some, none-ne-some}
use Rattle.format.specs.Parsed.{Parsed, fail, got}
use Rattle.format.specs.Format.{Format}
use Rattle.format.specs.Basic.{via}
use Rattle.format.specs.Combine.{pair}
use Rattle.format.specs.Lists.{many}
use Rattle.frames.specs.Frames.{byte, word32}
use Rattle.sections.specs.Section.{Ending, ending}

-- an add: a record's words, and its text; a finish: what it is told
pub data Frame : Type 0 where
  adds : List ℕ → List ℕ → Frame
  finishes : Ending → Frame

-- frame 02: the data count, and the order list
abbrev pub told : ℕ → List ℕ → Ending
told count order = ending order (record { count = count })

abbrev pub finish_told : ℕ → List ℕ → Frame
finish_told count order = finishes (told count order)

pub half_of : (p : ℕ × ℕ) (n : ℕ) → (p.0 < 256) × (p.1 < 256) → some (p.0 + 256 * p.1) ≡ some n → (n < 65536) × (p ≡ (n % 256, n / 256))
half_of p n (a, b) e =
    let v : p.0 + 256 * p.1 ≡ n = cc in
    let l : p.0 ≡ n % 256 = omega arith in
    let h : p.1 ≡ n / 256 = omega arith in
    (omega arith, λ i. (l i, h i))

-- a number in two bytes, low first
abbrev pub word16 : Format ℕ
word16 =
    via (pair byte byte)
    (record {
      OkA = λ n. n < 65536;
      to = λ n. (n % 256, n / 256);
      of = λ p. some (p.0 + 256 * p.1);
      fits = λ n h. (omega arith, omega arith);
      of_to = λ n h. ap some (omega arith);
      to_of = half_of;
    })

-- the word count, and the words
abbrev pub word_list : Format (List ℕ)
word_list = many word16 word32

-- what is read first, and all that is behind it
abbrev pub whole : {A : Type 0} → (A → List ℕ → Frame) → Parsed A → Option Frame
whole f fail = none
whole f (got a rest) = some (f a rest)

-- "Frame 01: word count (2 bytes, low first), words (4 bytes each, low first), text. Frame 02: data count (4 bytes, low first), order list"; and none for
-- "missing parts, other kinds"
unfoldable pub frame_of : List ℕ → Option Frame
frame_of [] = none
frame_of (kind ∷ s) = cond (kind == 1) (whole adds (word_list.parse s)) (cond (kind == 2) (whole finish_told (word32.parse s)) none)

-- ---- a frame's bytes, and that no other bytes are it

abbrev pub frame_bytes : Frame → List ℕ
frame_bytes (adds words text) = 1 ∷ (word_list.print words ++ text)
frame_bytes (finishes e) = 2 ∷ (word32.print e.given.count ++ e.order)

abbrev pub FrameOk : Frame → Type 0
FrameOk (adds words text) = word_list.Ok words
FrameOk (finishes e) = word32.Ok e.given.count

pub frame_back : (f : Frame) → FrameOk f → frame_of (frame_bytes f) ≡ some f
unfolding frame_of
frame_back (adds words text) h = rw (word_list.back words text h)
frame_back (finishes e) h = rw (word32.back e.given.count e.order h)

whole_inv : {A : Type 0} (F : Format A) (f : A → List ℕ → Frame) (s : List ℕ) (g : Frame) → whole f (F.parse s) ≡ some g
    → (a : A) × (r : List ℕ) × (g ≡ f a r) × F.Ok a × (s ≡ F.print a ++ r)
whole_inv {A} F f s g e = go (F.parse s) refl e
  where
    go : (m : Parsed A) → F.parse s ≡ m → whole f m ≡ some g → (a : A) × (r : List ℕ) × (g ≡ f a r) × F.Ok a × (s ≡ F.print a ++ r)
    go fail p q = absurd (none-ne-some g q)
    go (got a r) p q = (a, r, (cc), (F.only s a r p).0, (F.only s a r p).1)

pub frame_only : (s : List ℕ) (f : Frame) → frame_of s ≡ some f → FrameOk f × (s ≡ frame_bytes f)
unfolding frame_of
frame_only [] f e = absurd (none-ne-some f e)
frame_only (kind ∷ s) f e = go (kind == 1) refl (kind == 2) refl e
  where
    go : (t : Bool) → (kind == 1) ≡ t → (u : Bool) → (kind == 2) ≡ u → cond t (whole adds (word_list.parse s)) (cond u (whole finish_told (word32.parse s)) none) ≡ some f
        → FrameOk f × (kind ∷ s ≡ frame_bytes f)
    go true p u q e =
        let (words, text, g, ok, r) = whole_inv word_list adds s f e in
        let k : kind ≡ 1 = eqb-true kind 1 p in
        rw g (ok, ap (λ (n : ℕ). n ∷ s) k ∙ ap (λ (l : List ℕ). 1 ∷ l) r)
    go false p true q e =
        let (count, order, g, ok, r) = whole_inv word32 finish_told s f e in
        let k : kind ≡ 2 = eqb-true kind 2 q in
        rw g (ok, ap (λ (n : ℕ). n ∷ s) k ∙ ap (λ (l : List ℕ). 2 ∷ l) r)
    go false p false q e = absurd (none-ne-some f e)
