-- Value, storage and field types in bytes: by the first of them, what they are. Assumes nothing.
use mathlib.Core.Path.{◌≡◌, refl, sym, ap, ◌∙◌}
use mathlib.Core.Option as logic
use mathlib.Core.Option.{none, some}
use mathlib.Core.List.{List, [], ◌∷◌, ◌++◌}
use Prim.Native.Nat.{ℕ, ◌+◌, ◌<◌, ◌≤◌}
use native.Mathlib.Omega.{arith}
use lib.ListN.{length, get_or}
use borrow.Author.Tests.{lt-ltb, ne_eqb}
use Rattle.format.specs.Parsed.{got, map, map-map}
use Rattle.format.specs.Format.{Format}
use Rattle.format.specs.Basic.{find, find_only, flag}
use Rattle.format.specs.Count.{Appends, silent, adds_nil}
use Rattle.format.specs.Read.{drop_more}
use Rattle.format.specs.Sequence.{dep_known}
use Rattle.format.specs.Dispatch.{Opens, opened_bare}
use Rattle.format.specs.Walk.{Walks, walks_as}
use Rattle.format.specs.declared.Done.{Done}
use Rattle.format.specs.Walk.{Walk}
use Rattle.std.specs.Prelude.{Option, None, Some}
use Rattle.std.proofs.lemmas.Option.{none-some, same_Some}
use Rattle.types.specs.Words.{ref_words}
use Rattle.types.specs.Bytes.{ref_bytes}
use Rattle.types.specs.Vals.{Num, nums, num_byte, num_kind, num_val, val_bytes, val_words, i32, i64, f32, f64, v128, Packed, i8, i16, packeds, packed_byte, packed_kind, storage_bytes, storage_words, field_bytes, field_words}
use Rattle.vals.specs.Told.{kind_told}
use Rattle.types.specs.declared.ValType.TheVariants.{Ref}
use Rattle.types.specs.declared.StorageType.TheVariants.{I8, I16, Val}
use Rattle.vals.proofs.Words.{code_found}
use Rattle.vals.proofs.Flags.{flag_behind}

-- ---- a type of one byte, x, whose kind in a record is k

record OneByte {A : Type 0} (X Y : Format A) (x k : ℕ) : Type 0 where
  value : A
  read : (t : List ℕ) → X.parse (x ∷ t) ≡ got value t
  words : k ∷ 0 ∷ 0 ∷ [] ≡ Y.print value

packed_one : (a : Packed) → OneByte storage_bytes storage_words (packed_byte a) (packed_kind a)
packed_one = elim [ i8 ↦ record { value = I8; read = λ t. refl; words = refl } | i16 ↦ record { value = I16; read = λ t. refl; words = refl } ]

num_words_lem : (a : Num) → num_kind a ∷ 0 ∷ 0 ∷ [] ≡ val_words.print (num_val a)
num_words_lem = elim [ i32 ↦ refl | i64 ↦ refl | f32 ↦ refl | f64 ↦ refl | v128 ↦ refl ]

num_stored : (a : Num) → OneByte storage_bytes storage_words (num_byte a) (num_kind a)
num_stored a = record { value = Val (num_val a); read = reads a; words = num_words_lem a }
  where
    reads : (a : Num) (t : List ℕ) → storage_bytes.parse (num_byte a ∷ t) ≡ got (Val (num_val a)) t
    reads = elim [ i32 ↦ λ t. refl | i64 ↦ λ t. refl | f32 ↦ λ t. refl | f64 ↦ λ t. refl | v128 ↦ λ t. refl ]

-- and whether it is mutable
field_opens : {x k : ℕ} → OneByte storage_bytes storage_words x k → Opens x [] flag.parse (λ m. k ∷ 0 ∷ 0 ∷ flag.print m) silent field_bytes.parse field_words.print silent
field_opens {x} o =
    record {
      name = λ m. record { element_type = o.value; mutable = m };
      reads = λ s. ap (map _) (dep_known storage_bytes (λ v. flag) o.value (x ∷ s) s (o.read s)) ∙ map-map _ _ (flag.parse s);
      writes = λ m. ap (λ (l : List ℕ). l ++ flag.print m) o.words;
      draws = λ m. refl;
    }

-- ---- t is the kind that the byte x at a place tells

stored : {x k : ℕ} {t : Option ℕ} → t ≡ kind_told x → t ≡ Some k → OneByte storage_bytes storage_words x k
stored {x} {k} {t} e n = go (find packed_byte packeds x) refl
  where
    go : (o : logic.Option Packed) → find packed_byte packeds x ≡ o → OneByte storage_bytes storage_words x k
    go none p = code_found num_kind num_byte nums x (rw (e, p)) (OneByte storage_bytes storage_words) num_stored n
    go (some a) p = let i : k ≡ packed_kind a = same_Some k (packed_kind a) (sym n ∙ rw (e, p)) in rw (find_only packed_byte packeds x a p, i) (packed_one a)

module _ {w : List ℕ} {at : ℕ} {old : List ℕ} {s : Done} {new : List ℕ} (h : at < length w) {x : ℕ} (y : x ≡ get_or w at 0) where
  pub ref_reads : {cur : List ℕ} {t : Done} {r : Walk} → x < 0x7B → Appends (5 ∷ []) old s cur t → Walks ref_bytes ref_words.print silent w at cur t new r
      → Walks val_bytes val_words.print silent w at old s new r
  ref_reads l a k = walks_as Ref (rw (drop_more w at h, ← y, lt-ltb x 0x7B l) (simp map-map)) (λ r. refl) (λ r. refl) a k

  module _ {t : Option ℕ} (e : t ≡ kind_told x) where
    -- a value type is a storage type
    pub val_reads : {r : Walk} → t ≡ None → Walks val_bytes val_words.print silent w at old s new r → Walks storage_bytes storage_words.print silent w at old s new r
    val_reads q k = walks_as Val (rw (drop_more w at h, ← y, ne_eqb x 0x78 (not i8), ne_eqb x 0x77 (not i16)) (simp map-map)) (λ v. refl) (λ v. refl) (adds_nil old s) k
      where
        not : (p : Packed) → x ≡ packed_byte p → ⊥
        not = elim [ i8 ↦ λ p. none-some 6 (sym q ∙ rw (e, p)) | i16 ↦ λ p. none-some 7 (sym q ∙ rw (e, p)) ]

    -- else m is what stands behind it
    pub field-there : {k m v : ℕ} {u : Done} → t ≡ Some k → at + 1 < length w → m ≡ get_or w (at + 1) 0 → v ≡ m → m ≤ 1 → Appends (k ∷ 0 ∷ 0 ∷ v ∷ []) old s new u
        → Walks field_bytes field_words.print silent w at old s new (Some (at + 2, u))
    field-there {k} n i z j l a =
        let q : at + 1 + 1 ≡ at + 2 = omega arith in
        rw q at (opened_bare (field_opens (stored e n)) (sym y) h (flag_behind i z (k ∷ 0 ∷ 0 ∷ []) l (rw j at a)))
