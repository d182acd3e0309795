-- The refusal that judging may start with: one that is above all that a record's texts can draw. Assumes nothing.
use Rattle.std.specs.Prelude.{◌≡◌, ◌↔◌, Bool, true, List, ℕ, ◌≤◌, ◌<◌, length, get_or}
use Rattle.std.proofs.Common.{sym, ap, subst, ◌∙◌, inl, inr, ⊎_elim, arith}
use Rattle.std.proofs.Math.Option.{some}
use Rattle.format.specs.Basic.{find}
use Rattle.format.specs.Count.{no_refusal}
use Rattle.format.specs.Leads.{some_is}
use Rattle.format.specs.Write.{fits_or}
use Rattle.frames.specs.Ids.{id_of, ids, id_full}
use Rattle.frames.specs.declared.SectionId.{SectionId}
use Rattle.frames.specs.declared.SectionId.TheVariants.{Imports}
use Rattle.plain.specs.Plain.{IsPlain}
use Rattle.texts.specs.Text.{lowest_of, lowest_small}
use Rattle.texts.specs.Judge.{text_most, record_in, record_inv}
use Rattle.texts.proofs.Entry.{Below}
use Rattle.texts.specs.Plain.{Names, plain_only}
use Rattle.texts.specs.declared.Span.{Span}
use Rattle.imports.specs.Names.{import_names}
use Rattle.items.specs.Record.{Body, section, Record, words, texts_of, records}

-- r: of the record that the words are, its texts draw what is below r, or nothing, where the text is not over its limit: then 3 is drawn whatever they draw
pub record Starts (w t : List ℕ) (r : ℕ) : Type 0 where
  pub few : r ≤ no_refusal
  pub below : length t ≤ text_most → (x : Record Span) → record_in records w ≡ some x → Below records w t r x

-- no refusal is above none
pub from_none_lem : {w t : List ℕ} → Starts w t no_refusal
from_none_lem {t = t} =
    record {
      few = omega arith;
      below =
          λ l x e. ⊎_elim (λ (h : no_refusal ≤ lowest_of t (texts_of x)). inr (omega (arith, lowest_small t (texts_of x)))) (λ (h : lowest_of t (texts_of x) < no_refusal). inl h)
          (fits_or no_refusal (lowest_of t (texts_of x)));
    }

-- a text that is over its limit is not looked at: nothing is below 0
pub from_long : {w t : List ℕ} → text_most < length t → Starts w t 0
from_long h = record { few = omega arith; below = λ l. absurd (omega arith) }

-- the texts of a record whose first word is 2 are names
names_of : (x : Record Span) → id_of x.0 ≡ 2 → Names (texts_of x)
unfolding texts_of
names_of (i, x) e = go i (imports_only i e) x
  where
    imports_only : (i : SectionId) → id_of i ≡ 2 → Imports ≡ i
    imports_only i e = some_is (sym (ap (find id_of ids) e) ∙ id_full i)

    go : (i : SectionId) → Imports ≡ i → (x : Body i Span) → Names ((section i).texts x)
    go i e = subst (λ (i : SectionId). (x : Body i Span) → Names ((section i).texts x)) e import_names

first-is : (w : List ℕ) (x : Record Span) → record_in records w ≡ some x → get_or w 0 0 ≡ id_of x.0
unfolding words
first-is w x e = ap (λ (l : List ℕ). get_or l 0 0) (record_inv records w x e).1

-- with a plain text, an import draws 3 or nothing
pub from_four : {w t : List ℕ} {b : Bool} → get_or w 0 0 ≡ 2 → (b ≡ true) ↔ IsPlain t → b ≡ true → Starts w t 4
from_four {w} {t} f p q =
    record {
      few = omega arith;
      below = λ l x e. (
          let o = plain_only t (p.0 q) (texts_of x) (names_of x (sym (first-is w x e) ∙ f)) in
          ⊎_elim (λ (h : lowest_of t (texts_of x) ≡ 3). inl (omega arith)) (λ (h : lowest_of t (texts_of x) ≡ no_refusal). inr h) o
          );
    }
