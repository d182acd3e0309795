-- A section: its records and its items, each by a format, and the way from the ones to the others (document 01, Records; Items to bytes; Answers by number,
-- Reading). What is told here of a section is all that reading and adding have to know. Assumes nothing.
use Rattle.std.specs.Prelude.{◌≡◌, refl, ◌↔◌, List, [], ◌++◌, ℕ, suc, ◌≤◌, leb, length}
use Rattle.std.proofs.Common.{ap}
use Rattle.format.specs.Format.{Format}
use Rattle.format.specs.Lists.{All}
use Rattle.format.specs.Agree.{Agree}
use Rattle.format.specs.Basic.{tag}
use Rattle.format.specs.Combine.{guard}
use Rattle.texts.specs.Text.{Kind}
use Rattle.texts.specs.Allowed.{Allowed}
use Rattle.texts.specs.Judge.{Records, words_most, text_most}
use Rattle.texts.specs.declared.Span.{Span}

pub record Section (A B : Type 0) : Type 1 where
  pub words : Format A
  pub texts : A → List (Kind × Span)
  pub bytes : Format B
  -- the item of a record with a text
  pub resolve : List ℕ → A → B
  -- the record of an item that begins at a place: its spans point into the bytes
  pub locate : ℕ → B → A
  -- resolved there, it gives the item back
  pub located : (q r : List ℕ) (x : B) → bytes.Ok x → resolve (q ++ (bytes.print x ++ r)) (locate (length q) x) ≡ x
  -- it can be printed, and its texts are allowed
  pub locate_ok : (q r : List ℕ) (x : B) → bytes.Ok x → length (q ++ (bytes.print x ++ r)) ≤ text_most → words.Ok (locate (length q) x)
  pub locate_texts : (q r : List ℕ) (x : B) → bytes.Ok x → All (Allowed (q ++ (bytes.print x ++ r))) (texts (locate (length q) x))
  -- a record whose texts are allowed has an item, and the record of that is of as many words
  pub resolve_ok : (t : List ℕ) (a : A) → words.Ok a → All (Allowed t) (texts a) → bytes.Ok (resolve t a)
  pub same_words : (t : List ℕ) (a : A) (n : ℕ) → length (words.print (locate n (resolve t a))) ≡ length (words.print a)

-- a section whose records have no texts: its items are the same values
abbrev pub textless : {A : Type 0} (W F : Format A) → Agree W F → Section A A
textless W F same =
    record {
      words = W;
      texts = λ a. [];
      bytes = F;
      resolve = λ t a. a;
      locate = λ n a. a;
      located = λ q r x ok. refl;
      locate_ok = λ q r x ok h. (same x).1 ok;
      locate_texts = λ q r x ok. tt;
      resolve_ok = λ t a ok h. (same a).0 ok;
      same_words = λ t a n. refl;
    }

-- behind the section's id, a record's first word
abbrev pub tagged : {A B : Type 0} → ℕ → Section A B → Section A B
tagged k S =
    record {
      words = tag k S.words;
      texts = S.texts;
      bytes = S.bytes;
      resolve = S.resolve;
      locate = S.locate;
      located = S.located;
      locate_ok = S.locate_ok;
      locate_texts = S.locate_texts;
      resolve_ok = S.resolve_ok;
      same_words = λ t a n. ap suc (S.same_words t a n);
    }

module _ {A B : Type 0} (S : Section A B) where
  -- the words that reading writes of an item at the front of the bytes
  abbrev pub read_words : B → List ℕ
  read_words x = S.words.print (S.locate 0 x)

  -- no record has an item that needs more than 4,096 of them
  abbrev pub readable : Format B
  readable = guard S.bytes (λ x. leb (length (read_words x)) words_most)

-- its records are some of R's: those that `into` gives
pub record Among {A B C : Type 0} (S : Section A B) (R : Records C) : Type 0 where
  pub into : A → C
  pub ok : (a : A) → R.words.Ok (into a) ↔ S.words.Ok a
  pub prints : (a : A) → R.words.print (into a) ≡ S.words.print a
  pub texts : (a : A) → R.texts (into a) ≡ S.texts a
  pub item : (t : List ℕ) (a : A) → R.item t (into a) ≡ S.bytes.print (S.resolve t a)
