-- A walk over one section's records or items is one over all, where the first word or the id says so. Assumes nothing.
use mathlib.Core.Path.{◌≡◌, refl, ap, subst, ◌∙◌}
use mathlib.Core.Option.{Option}
use mathlib.Core.List.{List, [], ◌∷◌}
use Prim.Native.Nat.{ℕ, ◌<◌, ◌≤◌}
use native.Mathlib.Omega.{arith}
use lib.ListN.{length, get_or, drop}
use Rattle.format.specs.Basic.{find, find_none}
use Rattle.format.specs.Lists.{All}
use Rattle.format.specs.Count.{Appends, silent, adds_nil}
use Rattle.format.specs.Read.{drop_end, one_read, none_read}
use Rattle.format.specs.Sequence.{dep_known}
use Rattle.format.specs.Walk.{Walking, Walks, nothing_there, walks_as}
use Rattle.format.specs.declared.Done.{Done}
use Rattle.format.specs.Walk.{Walk}
use Rattle.std.specs.Prelude.{None}
use Rattle.frames.specs.Ids.{id_of, ids, every, id_full}
use Rattle.frames.specs.declared.SectionId.{SectionId}
use Rattle.parts.specs.Reading.{Reading}
use Rattle.parts.specs.Writing.{Writing, lowest_behind}
use Rattle.items.specs.Record.{section, id_word, words, texts_of, item_of, low_of, record_of, items_of, begins_in}

-- a number that is no section's id
abbrev pub NoId : ℕ → Type 0
NoId x = All (λ (i : SectionId). x ≡ id_of i → ⊥) ids

no_id : (x : ℕ) → NoId x → (i : SectionId) → x ≡ id_of i → ⊥
no_id x n = every (λ i. x ≡ id_of i → ⊥) n

-- ---- words: the first is a section's id, or there is none, or it is none's

pub word_missing : (t : List ℕ) {w old : List ℕ} {s : Done} {new : List ℕ} → length w < 1 → Walks words (item_of t) (low_of t) w 0 old s new None
unfolding words
word_missing t {w} h = nothing_there (rw (drop_end w 0 (omega arith)))

module _ (i : SectionId) where
  pub word_section : {t w old : List ℕ} {s : Done} {new : List ℕ} {r : Walk} → 1 ≤ length w → get_or w 0 0 ≡ id_of i → Writing (section i) t w 1 old s new r
      → Walks words (item_of t) (low_of t) w 0 old s new r
  unfolding words texts_of item_of
  word_section {t} {w} {old} {s} h e x =
      walks_as (λ a. (i, a)) (dep_known id_word (λ i. (section i).words) i (drop 0 w) (drop 1 w) (one_read id_word i (id_of i) tt refl w 0 (omega arith) e)) (λ a. refl)
      (λ a. lowest_behind t ((section i).texts a)) (adds_nil old s) x.writes

  -- one that holds no text
  pub word_textless : (t : List ℕ) {w old : List ℕ} {s : Done} {new : List ℕ} {r : Walk} → 1 ≤ length w → get_or w 0 0 ≡ id_of i → ((t : List ℕ) → Writing (section i) t w 1 old s new r)
      → Walks words (item_of t) (low_of t) w 0 old s new r
  word_textless t h e x = word_section h e (x t)

pub word_other : (t : List ℕ) {w old : List ℕ} {s : Done} {new : List ℕ} → 1 ≤ length w → NoId (get_or w 0 0) → Walks words (item_of t) (low_of t) w 0 old s new None
unfolding words
word_other t {w} h n = nothing_there (rw (none_read id_word id_of (λ i. refl) w 0 (omega arith) (no_id (get_or w 0 0) n)))

-- ---- bytes: the id is a section's, or none's

pub byte_section : (i : SectionId) {id : ℕ} {b old : List ℕ} {s : Done} {cur : List ℕ} {u : Done} {new : List ℕ} {r : Walk} → Appends (id ∷ []) old s cur u → id ≡ id_of i
    → Reading (section i) b 0 cur u new r → Walking (begins_in id) record_of silent b 0 old s new r
unfolding record_of begins_in
byte_section i {b = b} {old} {s} {cur} {u} a e x =
    walks_as (λ x. (i, x)) (ap (λ (o : Option SectionId). items_of o b) (ap (find id_of ids) e ∙ id_full i)) (λ x. refl) (λ x. refl) (subst (λ (k : ℕ). Appends (k ∷ []) old s cur u) e a)
    (x.reads (omega arith))

pub byte_other : (id : ℕ) {b old : List ℕ} {s : Done} {new : List ℕ} → NoId id → Walking (begins_in id) record_of silent b 0 old s new None
unfolding begins_in
byte_other id n = nothing_there (rw (find_none id_of ids id (no_id id n)))
