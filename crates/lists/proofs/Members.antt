-- What the walks over a member, and over a list of members, are by the kind of member. Assumes nothing.
use mathlib.Core.Path.{◌≡◌, sym, subst}
use mathlib.Core.List.{List, [], ◌∷◌}
use Prim.Native.Nat.{ℕ}
use Rattle.format.specs.Format.{Format}
use Rattle.format.specs.Count.{silent}
use Rattle.format.specs.Walk.{Walks}
use Rattle.format.specs.Counted.{CountedList, counted_plain}
use Rattle.format.specs.declared.Done.{Done}
use Rattle.format.specs.Walk.{Walk}
use Rattle.leb128.specs.Leb.{uleb}
use Rattle.leb128.proofs.Formats.{u32}
use Rattle.numbers.specs.Decoded as bytes
use Rattle.words.specs.Words.{word}
use Rattle.words.specs.WordWalks.{AreWords}
use Rattle.words.specs.WordWalks as words
use Rattle.lists.specs.Member.{Value, member_words, member_bytes, list_words, list_bytes, words_long, bytes_long}
use Rattle.lists.specs.declared.Member.{Member}

-- a walk over a list of members of a kind that is known is one over a list of that kind
pub as_list : (W X : (m : Member) → Format (List (Value m))) (n : Member) {m : Member} {w : List ℕ} {at : ℕ} {old : List ℕ} {s : Done} {new : List ℕ} {r : Walk} → m ≡ n
    → Walks (W n) (X n).print silent w at old s new r → Walks (W m) (X m).print silent w at old s new r
as_list W X n {m} {w} {at} {old} {s} {new} {r} e h = subst (λ (k : Member). Walks (W k) (X k).print silent w at old s new r) (sym e) h

-- a list behind its count: the laws of `numbers` and `texts`, for any kind of member
pub list_of_bytes : (m : Member) → CountedList u32 (λ n. n ∷ []) (member_bytes m) (λ k v. (member_words m).print v) silent (λ k xs. (list_words m).print xs) silent
list_of_bytes m = counted_plain u32 (λ n. n ∷ []) (member_bytes m) (member_words m).print bytes.u32_long (bytes_long m)

pub list_of_words : (m : Member) → CountedList word uleb (member_words m) (λ k v. (member_bytes m).print v) silent (λ k xs. (list_bytes m).print xs) silent
list_of_words m = counted_plain word uleb (member_words m) (member_bytes m).print words.word_long (words_long m)
