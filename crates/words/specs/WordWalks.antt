-- Walks over words: over one, and over a list behind its count. Assumes nothing.
use Rattle.std.specs.Prelude.{◌≡◌, List, ℕ, ◌+◌, ◌-◌, ◌<◌, ◌≤◌, length, get_or, drop}
use Rattle.std.proofs.Common.{arith, Fits}
use Rattle.std.specs.Int.{w32, w64}
use Rattle.format.specs.Parsed.{got}
use Rattle.format.specs.Format.{Format}
use Rattle.format.specs.Lists.{many}
use Rattle.format.specs.Count.{Appends, silent}
use Rattle.format.specs.Walk.{Walking, value_there}
use Rattle.format.specs.Loop.{MembersAt}
use Rattle.format.specs.Counted.{CountedList, count_exceeds, members_follow}
use Rattle.format.specs.Repeats.{Repeats, WalksList, counted_list}
use Rattle.format.specs.declared.Done.{Done}
use Rattle.format.specs.Walk.{Walk}
use Rattle.std.specs.Prelude.{None, Some}
use Rattle.words.specs.Words.{word, word_at}

-- what a slice of words holds, as the borrow checker says it
abbrev pub AreWords : List ℕ → Type 0
AreWords w = (i : ℕ) → Fits w32 (get_or w i 0)

pub word_read : (w : List ℕ) (at : ℕ) → at < length w → AreWords w → word.parse (drop at w) ≡ got (get_or w at 0) (drop (at + 1) w)
word_read w at h k = word_at w at h (k at).fits

-- a word fits a wider number
pub word_fits : (w : List ℕ) (at : ℕ) → AreWords w → Fits w64 (get_or w at 0)
word_fits w at k = let h = (k at).fits in record { fits = omega arith }

pub one_word : {f : ℕ → List ℕ} {w : List ℕ} {at : ℕ} {old : List ℕ} {s : Done} {new : List ℕ} {u : Done} → at < length w → Appends (f (get_or w at 0)) old s new u → AreWords w
    → Walking word.parse f silent w at old s new (Some (at + 1, u))
one_word {w = w} {at} h a k = value_there a (word_read w at h k) (omega arith)

-- a count takes a word
pub word_long : (n : ℕ) → 0 < length (word.print n)
word_long n = omega arith

-- a list behind its count
module _ {A : Type 0} {c : ℕ → List ℕ} {F : Format A} {f : ℕ → A → List ℕ} {g : A → ℕ} {f' : ℕ → List A → List ℕ} {g' : List A → ℕ} (K : CountedList word c F f g f' g') {w : List ℕ} {at : ℕ}
    {old : List ℕ} {s : Done} {new : List ℕ} (h : at < length w) where
  pub more_than_words : length w - at - 1 < get_or w at 0 → AreWords w → Walking (many word F).parse (f' at) g' w at old s new None
  more_than_words l k = count_exceeds K (get_or w at 0) (at + 1) (word_read w at h k) (omega arith)

  pub members_behind : {cur : List ℕ} {t : Done} {r : Walk} → Appends (c (get_or w at 0)) old s cur t → MembersAt F f g w (at + 1) (get_or w at 0) cur t new r → AreWords w
      → Walking (many word F).parse (f' at) g' w at old s new r
  members_behind a m k = members_follow K (get_or w at 0) (at + 1) (word_read w at h k) (omega arith) a m

-- the same, by walks of which R says what each does
module _ {T : Type 0} {c : ℕ → List T} {R : ℕ → List T → Done → List T → Walk → Type 0} {w : List ℕ} {at : ℕ} {old : List T} {s : Done} {new : List T} (h : at < length w) where
  pub counted_words : {cur : List T} {t : Done} {r : Walk} → get_or w at 0 ≤ length w - at - 1 → Appends (c (get_or w at 0)) old s cur t → Repeats R (get_or w at 0) (at + 1) cur t new r → AreWords w
      → WalksList word c R w at old s new r
  counted_words l a x k = counted_list {p = at + 1} (word_read w at h k) (omega arith) (omega arith) a x
