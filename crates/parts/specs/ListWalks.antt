-- Walks over lists of parts: the loop over the members, a list behind its count, and one by a call for each member, read and written. Assumes nothing.
use Rattle.std.specs.Prelude.{◌≡◌, refl, List, [], ◌∷◌, ◌++◌, ℕ, ◌+◌, ◌-◌, ◌<◌, min, length, get_or, drop}
use Rattle.std.proofs.Common.{sym, ap, ◌∙◌}
use denote.Ref.{MutBor}
use denote.Param.Members.{Shared}
use Rattle.format.specs.Lists.{prints}
use Rattle.format.specs.Read.{reading}
use Rattle.format.specs.Count.{Appends, no_refusal, silent}
use Rattle.format.specs.Loop.{Going, MembersAt, prints_at, prints_at_plain, least_of, loop_stops, loop_goes_on}
use Rattle.format.specs.Counted.{CountedList, least_silent}
use Rattle.format.specs.Repeats.{Calls, WalksList, calls_list}
use Rattle.format.specs.declared.Done.{Done}
use Rattle.format.specs.Walk.{Walk}
use Rattle.std.specs.Prelude.{None, Some}
use Rattle.leb128.proofs.Formats.{u32}
use Rattle.leb128.specs.Leb.{uleb}
use Rattle.numbers.specs.Answers.{read_as}
use Rattle.numbers.specs.Decoded.{u32_long, no_count, count_too_large, then_members}
use Rattle.std.specs.Prelude.{Option}
use Rattle.std.specs.Prelude.{None, Some}
use Rattle.texts.specs.Section.{Section}
use Rattle.texts.specs.Text.{lowest_of}
use Rattle.words.specs.Words.{word}
use Rattle.words.specs.WordWalks.{AreWords, word_long, more_than_words, members_behind}
use Rattle.parts.specs.Listed.{each, length_each, texts_of, locates, length_locates, listed}
use Rattle.parts.specs.Reading.{Reading, record_at}
use Rattle.parts.specs.Writing.{Writing, item_of, low_of, lowest_both, lowest_behind}

-- ---- reading

module _ {A B : Type 0} (S : Section A B) where
  -- how far a loop over n members from q on has come
  abbrev pub ReadingOn : List ℕ → ℕ → ℕ → List ℕ → Done → List ℕ → Done → ℕ → ℕ → Type 0
  ReadingOn = Going S.bytes (record_at S) silent

  -- n members from q on
  abbrev pub MembersRead : List ℕ → ℕ → ℕ → List ℕ → Done → List ℕ → Walk → Type 0
  MembersRead = MembersAt S.bytes (record_at S) silent

  module _ {b : List ℕ} {q n : ℕ} {old : List ℕ} {s₀ : Done} {out : List ℕ} {s : Done} {p left : ℕ} (I : ReadingOn b q n old s₀ out s p left) {new : List ℕ} {r : Walk} (l : 0 < left)
      (x : Reading S b p out s new r) where
    pub reading_stops : r ≡ None → MembersRead b q n old s₀ new None
    reading_stops e = loop_stops I l (x.reads I.place) e

    pub reading_goes_on : {p' : ℕ} {u : Done} → r ≡ Some (p', u) → length new ≡ length out → ReadingOn b q n old s₀ new u p' (left - 1)
    reading_goes_on e k = loop_goes_on I l (x.reads I.place) e k

  prints_at_lem : (q : ℕ) (xs : List B) → prints_at S.bytes.print (record_at S) q xs ≡ prints S.words.print (locates S q xs)
  prints_at_lem q [] = refl
  prints_at_lem q (x ∷ xs) = ap (λ (l : List ℕ). record_at S q x ++ l) (prints_at_lem (q + length (S.bytes.print x)) xs)

  list_read : ((x : B) → S.bytes.Ok x → 0 < length (S.bytes.print x)) → CountedList u32 (λ n. n ∷ []) S.bytes (record_at S) silent (record_at (listed S)) silent
  list_read long =
      record {
        writes = λ at xs. (let q = at + length (u32.print (length xs)) in rw (length_locates S q xs, prints_at_lem q xs));
        draws = λ xs. ap (min no_refusal) (least_silent xs);
        long = u32_long;
        each = long;
      }

  -- each member takes a byte at least
  module _ (long : (x : B) → S.bytes.Ok x → 0 < length (S.bytes.print x)) {b : List ℕ} {at : ℕ} {old : List ℕ} {s : Done} {new : List ℕ} {r : Option (ℕ × ℕ)}
      (d : read_as 0 r ≡ reading 0 b (u32.parse (drop at b))) where
    pub list_not_read : r ≡ None → Reading (listed S) b at old s new None
    list_not_read e = record { reads = λ h. no_count u32 (list_read long) d e }

    module _ {n p : ℕ} (e : r ≡ Some (n, p)) where
      pub list_too_large : length b - p < n → Reading (listed S) b at old s new None
      list_too_large l = record { reads = λ h. count_too_large u32 (list_read long) d e l }

      pub list_reads : {cur : List ℕ} {u : Done} {r' : Walk} → Appends (n ∷ []) old s cur u → MembersRead b p n cur u new r' → Reading (listed S) b at old s new r'
      list_reads a m = record { reads = λ h. then_members u32 (list_read long) d e a m }

  -- a list that is read by a call for each member
  module _ (long : (x : B) → S.bytes.Ok x → 0 < length (S.bytes.print x)) {C : Type 0} {G : Shared C (ℕ × (MutBor (List ℕ) × (Done × Unit {0}))) (Walk × (MutBor (List ℕ) × Unit {0}))} {call : C}
      {b : List ℕ} {at : ℕ} {old : List ℕ} {s : Done} {new : List ℕ} {r : Walk} where
    pub list_read_by : WalksList u32 (λ n. n ∷ []) (Calls G call) b at old s new r
        → ((p : ℕ) (lent : MutBor (List ℕ)) (t : Done) (left : MutBor (List ℕ)) (m : Walk) → G.post call (p, (lent, (t, tt))) (m, (left, tt)) → Reading S b p lent.now t left.now m)
        → Reading (listed S) b at old s new r
    list_read_by x each = record { reads = λ h. calls_list (list_read long) x (λ p lent t left m k y. (each p lent t left m y).reads k) }

-- ---- writing

module _ {A B : Type 0} (S : Section A B) where
  abbrev pub WritingOn : List ℕ → List ℕ → ℕ → ℕ → List ℕ → Done → List ℕ → Done → ℕ → ℕ → Type 0
  WritingOn t = Going S.words (λ k a. item_of S t a) (low_of S t)

  abbrev pub MembersWritten : List ℕ → List ℕ → ℕ → ℕ → List ℕ → Done → List ℕ → Walk → Type 0
  MembersWritten t = MembersAt S.words (λ k a. item_of S t a) (low_of S t)

  module _ {t w : List ℕ} {q n : ℕ} {old : List ℕ} {s₀ : Done} {out : List ℕ} {s : Done} {p left : ℕ} (I : WritingOn t w q n old s₀ out s p left) {new : List ℕ} {r : Walk} (l : 0 < left)
      (x : Writing S t w p out s new r) where
    pub writing_stops : r ≡ None → MembersWritten t w q n old s₀ new None
    writing_stops e = loop_stops I l x.writes e

    pub writing_goes_on : {p' : ℕ} {u : Done} → r ≡ Some (p', u) → length new ≡ length out → WritingOn t w q n old s₀ new u p' (left - 1)
    writing_goes_on e k = loop_goes_on I l x.writes e k

  prints_each : (t : List ℕ) (xs : List A) → prints (item_of S t) xs ≡ prints S.bytes.print (each (S.resolve t) xs)
  prints_each t [] = refl
  prints_each t (a ∷ xs) = rw (prints_each t xs)

  least_each : (t : List ℕ) (xs : List A) → least_of (low_of S t) xs ≡ lowest_of t (texts_of S xs)
  least_each t [] = refl
  least_each t (a ∷ xs) = rw (least_each t xs) (sym (lowest_both t (S.texts a) (texts_of S xs)))

  list_written : ((a : A) → S.words.Ok a → 0 < length (S.words.print a)) → (t : List ℕ)
      → CountedList word uleb S.words (λ k a. item_of S t a) (low_of S t) (λ k xs. item_of (listed S) t xs) (low_of (listed S) t)
  list_written long t =
      record {
        writes = λ at xs. rw (prints_at_plain S.words.print (item_of S t) (at + 1) xs, prints_each t xs, length_each (S.resolve t) xs);
        draws = λ xs. ap (min no_refusal) (least_each t xs) ∙ lowest_behind t (texts_of S xs);
        long = word_long;
        each = long;
      }

  -- each member takes a word at least
  module _ (long : (a : A) → S.words.Ok a → 0 < length (S.words.print a)) {t w : List ℕ} {at : ℕ} {old : List ℕ} {s : Done} {new : List ℕ} (h : at < length w) where
    pub list_larger : length w - at - 1 < get_or w at 0 → AreWords w → Writing (listed S) t w at old s new None
    list_larger l k = record { writes = more_than_words (list_written long t) h l k }

    pub list_writes : {cur : List ℕ} {u : Done} {r : Walk} → Appends (uleb (get_or w at 0)) old s cur u → MembersWritten t w (at + 1) (get_or w at 0) cur u new r → AreWords w
        → Writing (listed S) t w at old s new r
    list_writes a m k = record { writes = members_behind (list_written long t) h a m k }

  -- a list that is written by a call for each member
  module _ (long : (a : A) → S.words.Ok a → 0 < length (S.words.print a)) (t : List ℕ) {C : Type 0} {G : Shared C (ℕ × (MutBor (List ℕ) × (Done × Unit {0}))) (Walk × (MutBor (List ℕ) × Unit {0}))}
      {call : C} {w : List ℕ} {at : ℕ} {old : List ℕ} {s : Done} {new : List ℕ} {r : Walk} where
    pub list_written_by : WalksList word uleb (Calls G call) w at old s new r
        → ((p : ℕ) (lent : MutBor (List ℕ)) (u : Done) (left : MutBor (List ℕ)) (m : Walk) → G.post call (p, (lent, (u, tt))) (m, (left, tt)) → Writing S t w p lent.now u left.now m)
        → Writing (listed S) t w at old s new r
    list_written_by x each = record { writes = calls_list (list_written long t) x (λ p lent u left m k y. (each p lent u left m y).writes) }
