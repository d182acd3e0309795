-- What a walk over a record's words tells of the answer, as judging and writing ask for it. Assumes nothing.
use mathlib.Core.Path.{◌≡◌, sym, ap, subst, ◌∙◌}
use mathlib.Core.List.{List}
use Prim.Native.Nat.{ℕ, ◌≤◌, ◌<◌}
use native.Mathlib.Omega.{arith}
use lib.ListN.{length, take}
use Rattle.std.specs.Prelude.{slice_range}
use Rattle.format.specs.Count.{count_in, low_in}
use Rattle.format.specs.Walk.{Walks}
use Rattle.format.specs.Write.{Writes, wrote, writes_as}
use Rattle.format.specs.declared.Done.{Done}
use Rattle.format.specs.Walk.{Walk}
use Rattle.std.specs.Prelude.{None, Some}
use Rattle.format.specs.Write.{Written}
use Rattle.texts.specs.Judge.{words_most, text_most, item_most}
use Rattle.texts.specs.Text.{lowest_least}
use Rattle.texts.proofs.Entry.{Below, many_words, no_record, words_left, Measured, measured, long_text, drawn_low, refused_text, large_item, accepted, second_walk}
use Rattle.items.specs.Record.{words, texts_of, item_of, low_of, records}
use Rattle.items.specs.Judging.{refused_is, length_is, Tried, Puts, Judges}
use Rattle.items.specs.Start.{Starts}
use Rattle.std.specs.Prelude.{Ok, Err}
use Rattle.format.specs.Refusal.{number_of}
use Rattle.format.specs.declared.refusal.Refusal.{Refusal}
use Rattle.format.specs.declared.refusal.Refusal.TheVariants.{NoRecord, BadText, ItemLarge}

pub many_refused : {w t old : List ℕ} → words_most < length w → Judges w t old old (Err NoRecord)
many_refused {w} {t} h = let m = many_words records w t h in record { is = refused_is w t NoRecord m; puts = λ z room. absurd (omega (arith, m, z)) }

-- a walk that starts with a refusal above all that can be drawn
module _ {w t old : List ℕ} {s : Done} {new : List ℕ} {r : Walk} {from : ℕ} (b : Starts w t from) (e : s.v ≡ from) (h : Walks words (item_of t) (low_of t) w 0 old s new r) where
  left : Puts w t old new
  left = second_walk records w t old s new r h (omega (arith, e, b.few))

  pub none_refused : r ≡ None → Judges w t old new (Err NoRecord)
  none_refused q = record { is = refused_is w t NoRecord (no_record records w t old s new r h q); puts = left }

  module _ {p : ℕ} {u : Done} (q : r ≡ Some (p, u)) where
    pub rest_refused : (p ≡ length w → ⊥) → Judges w t old new (Err NoRecord)
    rest_refused n = record { is = refused_is w t NoRecord (words_left records w t old s new r h q n); puts = left }

    module _ (few : length w ≤ words_most) (all : p ≡ length w) where
      found : Measured records w t from u
      found = measured records w t old s new r h q all few e b.few

      pub text_too_long : text_most < length t → Judges w t old new (Err BadText)
      text_too_long l = record { is = refused_is w t BadText (long_text records w t found l); puts = left }

      module _ (short : length t ≤ text_most) {low : ℕ} (l : low ≡ low_in u) where
        below : Below records w t from found.value
        below = b.below short found.value found.is

        -- it is one of the table's
        pub drawn_some : low < from → 1 ≤ low
        drawn_some i = let d = drawn_low records w t found b.few below short (omega arith) in omega (arith, l, d, lowest_least t (texts_of found.value))

        pub drawn_few : low < from → low ≤ 12
        drawn_few i = omega (arith, b.few)

        pub text_refused : {k : Refusal} → low < from → number_of k ≡ low → Judges w t old new (Err k)
        text_refused {k} i f = record { is = refused_is w t k (refused_text records w t found b.few below short (omega arith) ∙ sym (f ∙ l)); puts = left }

        module _ (i : from ≤ low) {n : ℕ} (c : n ≡ count_in u) where
          pub item_refused : item_most < n → Judges w t old new (Err ItemLarge)
          item_refused m = record { is = refused_is w t ItemLarge (large_item records w t found b.few below short (omega arith) (omega arith)); puts = left }

          pub item_measured : n ≤ item_most → Judges w t old new (Ok n)
          item_measured m = let a = accepted records w t found b.few below short (omega arith) (omega arith) in record { is = length_is w t n a.0 (a.1 ∙ sym c); puts = left }

-- what was tried is copied, or the words are walked again, with a refusal below which none is looked for
pub copied : (w t : List ℕ) (n : ℕ) (tried : List ℕ) {item old new : List ℕ} {r : Written} → item ≡ slice_range tried 0 n → n ≤ length tried → Writes item old new r → Tried w t n tried
    → Puts w t old new
copied w t n tried {item} {old} {new} {r} from h x k z room = let e : item ≡ take n tried = from ∙ ap (λ (i : ℕ). take i tried) (omega arith) in (wrote (writes_as (k.1 h) (subst (λ (l : List ℕ). Writes l old new r) e x)) room).1

pub walked_again : (t : List ℕ) {w old new : List ℕ} {s : Done} {r : Walk} → s.v ≡ 0 → Walks words (item_of t) (low_of t) w 0 old s new r → Puts w t old new
walked_again t {w} {old} {new} {s} {r} e h = second_walk records w t old s new r h (omega (arith, e))
