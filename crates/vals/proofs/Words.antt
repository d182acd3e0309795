-- Value and storage types in words: by the first of them, what they are. Assumes nothing.
use mathlib.Core.Path.{◌≡◌, refl, sym, ap, ◌∙◌}
use mathlib.Core.Option as logic
use mathlib.Core.Option.{none, some}
use mathlib.Core.Logic.{inl, inr}
use mathlib.Core.List.{List, [], ◌∷◌}
use Prim.Native.Nat.{ℕ, ◌+◌, ◌<◌}
use lib.ListN.{length, get_or}
use borrow.Author.Tests.{ne_eqb}
use Rattle.format.specs.Parsed.{Parsed, fail, got, map, map-map, bind}
use Rattle.format.specs.Basic.{find, find_only}
use Rattle.format.specs.Count.{silent, adds_nil}
use Rattle.format.specs.Read.{drop_more}
use Rattle.format.specs.Dispatch.{Opens, opened_bare}
use Rattle.format.specs.Walk.{Walks, walks_as}
use Rattle.format.specs.declared.Done.{Done}
use Rattle.format.specs.Walk.{Walk}
use Rattle.std.specs.Prelude.{Option, Some}
use Rattle.std.proofs.lemmas.Option.{none-some, same_Some}
use Rattle.types.specs.Words.{ref_words}
use Rattle.types.specs.Bytes.{ref_bytes}
use Rattle.words.specs.Words.{unused}
use Rattle.types.specs.Vals.{Num, nums, num_kind, num_byte, num_val, val_from, val_words, val_bytes, i32, i64, f32, f64, v128, i8, i16, Packed, packed_kind, packed_byte, packed_storage, storage_from, storage_words, storage_bytes}
use Rattle.vals.specs.Told.{code_told}
use Rattle.types.specs.declared.ValType.TheVariants.{Ref}
use Rattle.types.specs.declared.StorageType.TheVariants.{Val}

-- ---- r is the code of what has the code x elsewhere

module _ {A : Type 0} (code other : A → ℕ) (l : List A) (x : ℕ) {r : Option ℕ} (e : r ≡ code_told code (find other l x)) where
  pub code_found : {k : ℕ} (P : ℕ → ℕ → Type 0) → ((a : A) → P (other a) (code a)) → r ≡ Some k → P x k
  code_found {k} P h n = go (find other l x) refl
    where
      go : (o : logic.Option A) → find other l x ≡ o → P x k
      go none p = absurd (none-some k (sym (e ∙ ap (code_told code) p) ∙ n))
      go (some a) p = let i : k ≡ code a = same_Some k (code a) (sym n ∙ e ∙ ap (code_told code) p) in rw (find_only other l x a p, i) (h a)

-- ---- what each code opens

coded_fold : {A B C : Type 0} (h : B → C) (i : A → B) (a : A) (m : Parsed (Unit {0})) → map h (map i (map (λ (p : A × Unit {0}). p.0) (bind m (λ b t. got (a, b) t)))) ≡ map (λ u. h (i a)) m
coded_fold h i a fail = refl
coded_fold h i a (got u t) = refl

ref_opens : Opens 5 [] ref_words.parse ref_bytes.print silent val_words.parse val_bytes.print silent
ref_opens = record { name = Ref; reads = λ s. map-map val_from inl (ref_words.parse s); writes = λ r. refl; draws = λ r. refl }

num_opens : (a : Num) → Opens (num_kind a) [] unused.parse (λ u. num_byte a ∷ []) silent val_words.parse val_bytes.print silent
num_opens a = record { name = λ u. num_val a; reads = reads a; writes = λ u. writes a; draws = λ u. refl }
  where
    fold : (a : Num) (s : List ℕ) → map val_from (map inr (map (λ (p : Num × Unit {0}). p.0) (bind (unused.parse s) (λ b t. got (a, b) t)))) ≡ map (λ u. num_val a) (unused.parse s)
    fold a s = coded_fold val_from inr a (unused.parse s)

    reads : (a : Num) (s : List ℕ) → val_words.parse (num_kind a ∷ s) ≡ map (λ u. num_val a) (unused.parse s)
    reads = elim [ i32 ↦ fold i32 | i64 ↦ fold i64 | f32 ↦ fold f32 | f64 ↦ fold f64 | v128 ↦ fold v128 ]

    writes : (a : Num) → num_byte a ∷ [] ≡ val_bytes.print (num_val a)
    writes = elim [ i32 ↦ refl | i64 ↦ refl | f32 ↦ refl | f64 ↦ refl | v128 ↦ refl ]

pub packed_opens : (a : Packed) → Opens (packed_kind a) [] unused.parse (λ u. packed_byte a ∷ []) silent storage_words.parse storage_bytes.print silent
packed_opens =
    elim [
      | i8 ↦ record { name = λ u. packed_storage i8; reads = λ s. coded_fold storage_from inl i8 (unused.parse s); writes = λ u. refl; draws = λ u. refl }
      | i16 ↦ record { name = λ u. packed_storage i16; reads = λ s. coded_fold storage_from inl i16 (unused.parse s); writes = λ u. refl; draws = λ u. refl }
    ]

-- ---- r is the byte of a number or vector type

module _ {w : List ℕ} {at : ℕ} {old : List ℕ} {s : Done} {new : List ℕ} (h : at < length w) {x : ℕ} (y : x ≡ get_or w at 0) where
  pub ref_walks : {r : Walk} → x ≡ 5 → Walks ref_words ref_bytes.print silent w (at + 1) old s new r → Walks val_words val_bytes.print silent w at old s new r
  ref_walks q k = opened_bare ref_opens (sym y ∙ q) h k

  module _ {t : Option ℕ} (e : t ≡ code_told num_byte (find num_kind nums x)) where
    pub num_walks : {b : ℕ} {r : Walk} → t ≡ Some b → Walks unused (λ u. b ∷ []) silent w (at + 1) old s new r → Walks val_words val_bytes.print silent w at old s new r
    num_walks {b} n k =
        opened_bare (code_found num_byte num_kind nums x e (λ x y. Opens x [] unused.parse (λ u. y ∷ []) silent val_words.parse val_bytes.print silent) num_opens n) (sym y) h k

  -- a value type is a storage type
  pub val_walks : {r : Walk} → (x ≡ 6 → ⊥) → (x ≡ 7 → ⊥) → Walks val_words val_bytes.print silent w at old s new r
      → Walks storage_words storage_bytes.print silent w at old s new r
  val_walks n m k =
      walks_as Val (rw (drop_more w at h, ← y, ne_eqb x 6 n, ne_eqb x 7 m) (simp map-map)) (λ v. refl) (λ v. refl) (adds_nil old s) k
