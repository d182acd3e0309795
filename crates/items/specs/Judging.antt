-- What a record and its text draw (document 01, Answers by number, 2 to 6), and what is written where they draw nothing. Assumes nothing.
use Rattle.std.specs.Prelude.{◌≡◌, refl, Bool, true, false, cond, List, ◌∷◌, ℕ, ◌≤◌, ◌<◌, eqb, length, get_or, take, drop, Result, Ok, Err}
use Rattle.std.proofs.Common.{sym, ap, ◌∙◌, arith, take_at, ne_eqb, eqb-true}
use Rattle.std.proofs.Math.Option.{Option, none, some}
use Rattle.std.proofs.lemmas.Bool.{eqb-false}
use Rattle.format.specs.Write.{over}
use Rattle.frames.specs.Ids.{id_of}
use Rattle.frames.specs.declared.SectionId.{SectionId}
use Rattle.frames.specs.declared.SectionId.TheVariants.{Data}
use Rattle.texts.specs.Judge.{item_most, record_in, why, item_in, record_inv, fine}
use Rattle.texts.specs.declared.Span.{Span}
use Rattle.items.specs.Record.{Record, section, words, records}
use Rattle.format.specs.Refusal.{number_of, numbered}
use Rattle.format.specs.declared.refusal.Refusal.{Refusal}

-- its section; where there is no record, any: no add of one is accepted (2), so nothing depends on it
abbrev pub section_or : Option (Record Span) → SectionId
section_or none = Data
section_or (some x) = x.0

abbrev pub section_in : List ℕ → SectionId
section_in w = section_or (record_in records w)

-- a record's first word is its section's id
pub first_word : (w t : List ℕ) → why records w t ≡ 0 → (0 < length w) × (get_or w 0 0 ≡ id_of (section_in w))
unfolding words
first_word w t e =
    let f = fine records w t e in
    let p = record_inv records w f.value f.is in
    let q : w ≡ id_of f.value.0 ∷ (section f.value.0).words.print f.value.1 = p.1 in
    (omega (arith, ap length q), ap (λ (l : List ℕ). get_or l 0 0) q ∙ ap (λ (o : Option (Record Span)). id_of (section_or o)) (sym f.is))

-- the number and 0, or 0 and the item's length
unfoldable pub judged_of : List ℕ → List ℕ → ℕ × ℕ
judged_of w t = cond (eqb (why records w t) 0) (0, length (item_in records w t)) (why records w t, 0)

-- what an answer stands for
abbrev pub judged : Result ℕ Refusal → ℕ × ℕ
judged (Ok n) = (0, n)
judged (Err e) = (number_of e, 0)

pub refused_is : (w t : List ℕ) (e : Refusal) → why records w t ≡ number_of e → judged (Err e) ≡ judged_of w t
unfolding judged_of
refused_is w t e h = let p = numbered e in rw (h, ne_eqb (number_of e) 0 (λ z. omega arith))

pub length_is : (w t : List ℕ) (n : ℕ) → why records w t ≡ 0 → length (item_in records w t) ≡ n → judged (Ok n) ≡ judged_of w t
unfolding judged_of
length_is w t n z e = rw (z, e)

-- what an answer tells
told : (w t : List ℕ) (b : Bool) → eqb (why records w t) 0 ≡ b → judged_of w t ≡ cond b (0, length (item_in records w t)) (why records w t, 0)
unfolding judged_of
told w t b e = rw e

pub told_refused : (w t : List ℕ) (d : Refusal) → judged_of w t ≡ judged (Err d) → why records w t ≡ number_of d
told_refused w t d e = go (eqb (why records w t) 0) refl
  where
    go : (b : Bool) → eqb (why records w t) 0 ≡ b → why records w t ≡ number_of d
    go true p = let q : 0 ≡ number_of d = ap (λ (x : ℕ × ℕ). x.0) (sym (told w t true p) ∙ e) in let h = numbered d in absurd (omega arith)
    go false p = ap (λ (x : ℕ × ℕ). x.0) (sym (told w t false p) ∙ e)

pub told_length : (w t : List ℕ) (n : ℕ) → judged_of w t ≡ judged (Ok n) → (why records w t ≡ 0) × (length (item_in records w t) ≡ n) × (n ≤ item_most)
told_length w t n e = go (eqb (why records w t) 0) refl
  where
    go : (b : Bool) → eqb (why records w t) 0 ≡ b → (why records w t ≡ 0) × (length (item_in records w t) ≡ n) × (n ≤ item_most)
    go false p =
        let q : why records w t ≡ 0 = ap (λ (x : ℕ × ℕ). x.0) (sym (told w t false p) ∙ e) in
        absurd (eqb-false (why records w t) 0 p q)
    go true p =
        let r : length (item_in records w t) ≡ n = ap (λ (x : ℕ × ℕ). x.1) (sym (told w t true p) ∙ e) in
        let z = eqb-true (why records w t) 0 p in
        let f = fine records w t z in
        let l : length (item_in records w t) ≤ item_most = rw f.is f.fits in
        (z, r, omega arith)

-- the item stands at the front, where nothing is drawn and there is room
abbrev pub Puts : List ℕ → List ℕ → List ℕ → List ℕ → Type 0
Puts w t old new = why records w t ≡ 0 → length (item_in records w t) ≤ length old → new ≡ over (item_in records w t) old

-- judging: the answer, and what is left in the room that was lent. A record, so that `search` finds it among what is known
pub record Judges (w t old new : List ℕ) (r : Result ℕ Refusal) : Type 0 where
  pub is : judged r ≡ judged_of w t
  pub puts : Puts w t old new

-- n is its length, and it stands at the front of what was tried, where there was room for it
abbrev pub Tried : List ℕ → List ℕ → ℕ → List ℕ → Type 0
Tried w t n s = (length (item_in records w t) ≡ n) × (n ≤ length s → take n s ≡ item_in records w t)

-- so judging leaves it
pub judged_tried : (w t : List ℕ) (n : ℕ) (old new : List ℕ) → why records w t ≡ 0 → length (item_in records w t) ≡ n → length new ≡ length old → Puts w t old new → Tried w t n new
judged_tried w t n old new z e l p = (e, λ h. rw (p z (omega (arith, h, l, e))) (take_at (item_in records w t) (drop (length (item_in records w t)) old) n e))
