-- Value, storage and field types, as words and as bytes (document 01, Types to bytes and Records; Core Specification 3.0, Binary Format, Types: Number,
-- Vector, Value, Storage and Field Types). Assumes nothing.
use Rattle.std.specs.Prelude.{◌≡◌, refl, ◌⊎◌, Bool, true, false, ◌||◌, List, [], ◌∷◌, ℕ, ◌<◌, ◌≤◌, ltb}
use Rattle.std.proofs.Common.{inl, inr, arith, lit<, lt-ltb, ne_eqb}
use Rattle.std.proofs.Math.Option.{some}
use Rattle.format.specs.Count.{silent}
use Rattle.format.specs.Format.{Format}
use Rattle.format.specs.Basic.{find, table, tag, flag}
use Rattle.format.specs.Sequence.{Joins, joins}
use Rattle.format.specs.Combine.{pair, iso}
use Rattle.format.specs.Alternatives.{Heads, is, alt, heads_alt, heads_code, heads_tag}
use Rattle.words.specs.Words.{unused}
use Rattle.types.specs.Abstract.{byte_range, byte_of}
use Rattle.types.specs.Words.{ref_words}
use Rattle.types.specs.Bytes.{ref_bytes, heads_ref}
use Rattle.types.specs.declared.RefType.{RefType}
use Rattle.types.specs.declared.ValType.{ValType}
use Rattle.types.specs.declared.ValType.TheVariants.{I32, I64, F32, F64, V128, Ref}
use Rattle.types.specs.declared.StorageType.{StorageType}
use Rattle.types.specs.declared.StorageType.TheVariants.{I8, I16, Val}
use Rattle.types.specs.declared.FieldType.{FieldType}

-- a code in a record, k, h and x with h and x unused
abbrev pub coded : {A : Type 0} (code : A → ℕ) (l : List A) → ((a : A) → code a < 256) → ((a : A) → find code l (code a) ≡ some a) → Format A
coded code l small full = iso (pair (table 256 code l small full) unused) (λ a. (a, tt)) (λ p. p.0) (λ a. refl) (λ p. refl)

-- ---- value types: a number or vector type, or a reference

pub data Num : Type 0 where
  i32 i64 f32 f64 v128 : Num

abbrev pub nums : List Num
nums = i32 ∷ i64 ∷ f32 ∷ f64 ∷ v128 ∷ []

abbrev pub num_kind : Num → ℕ
num_kind = elim [ i32 ↦ 0 | i64 ↦ 1 | f32 ↦ 2 | f64 ↦ 3 | v128 ↦ 4 ]

abbrev pub num_byte : Num → ℕ
num_byte = elim [ i32 ↦ 0x7F | i64 ↦ 0x7E | f32 ↦ 0x7D | f64 ↦ 0x7C | v128 ↦ 0x7B ]

pub num_kind_small : (a : Num) → num_kind a < 256
num_kind_small = elim [ i32 ↦ lit< tt | i64 ↦ lit< tt | f32 ↦ lit< tt | f64 ↦ lit< tt | v128 ↦ lit< tt ]

pub num_kind_full : (a : Num) → find num_kind nums (num_kind a) ≡ some a
num_kind_full = elim [ i32 ↦ refl | i64 ↦ refl | f32 ↦ refl | f64 ↦ refl | v128 ↦ refl ]

pub num_byte_small : (a : Num) → num_byte a < 256
num_byte_small = elim [ i32 ↦ lit< tt | i64 ↦ lit< tt | f32 ↦ lit< tt | f64 ↦ lit< tt | v128 ↦ lit< tt ]

pub num_byte_full : (a : Num) → find num_byte nums (num_byte a) ≡ some a
num_byte_full = elim [ i32 ↦ refl | i64 ↦ refl | f32 ↦ refl | f64 ↦ refl | v128 ↦ refl ]

abbrev pub val_to : ValType → RefType ⊎ Num
val_to = elim [ I32 ↦ inr i32 | I64 ↦ inr i64 | F32 ↦ inr f32 | F64 ↦ inr f64 | V128 ↦ inr v128 | Ref r ↦ inl r ]

abbrev pub num_val : Num → ValType
num_val = elim [ i32 ↦ I32 | i64 ↦ I64 | f32 ↦ F32 | f64 ↦ F64 | v128 ↦ V128 ]

abbrev pub val_from : RefType ⊎ Num → ValType
val_from (inl r) = Ref r
val_from (inr n) = num_val n

pub val_from_to : (v : ValType) → val_from (val_to v) ≡ v
val_from_to = elim [ I32 ↦ refl | I64 ↦ refl | F32 ↦ refl | F64 ↦ refl | V128 ↦ refl | Ref r ↦ refl ]

num_to_from : (n : Num) → val_to (num_val n) ≡ inr n
num_to_from = elim [ i32 ↦ refl | i64 ↦ refl | f32 ↦ refl | f64 ↦ refl | v128 ↦ refl ]

pub val_to_from : (w : RefType ⊎ Num) → val_to (val_from w) ≡ w
val_to_from (inl r) = refl
val_to_from (inr n) = num_to_from n

-- words: k is 5, and then a reference; or 0 to 4
abbrev pub num_words : Format Num
num_words = coded num_kind nums num_kind_small num_kind_full

pub num_not_ref : (n : Num) → is 5 (num_kind n) ≡ false
num_not_ref = elim [ i32 ↦ refl | i64 ↦ refl | f32 ↦ refl | f64 ↦ refl | v128 ↦ refl ]

abbrev pub val_words : Format ValType
val_words =
    iso (alt (is 5) (tag 5 ref_words) num_words (heads_tag 5 ref_words (is 5) true refl) (λ n ok. (num_kind n, 0 ∷ 0 ∷ [], refl, num_not_ref n)))
    val_to val_from val_from_to val_to_from

-- bytes: a reference, whose first byte is below 7B; or 7B to 7F
abbrev pub is_ref_byte : ℕ → Bool
is_ref_byte x = ltb x 0x7B

pub num_byte_first : (n : Num) → is_ref_byte (num_byte n) ≡ false
num_byte_first = elim [ i32 ↦ refl | i64 ↦ refl | f32 ↦ refl | f64 ↦ refl | v128 ↦ refl ]

abbrev pub num_bytes : Format Num
num_bytes = table 256 num_byte nums num_byte_small num_byte_full

abbrev pub val_bytes : Format ValType
val_bytes =
    iso
    (alt is_ref_byte ref_bytes num_bytes (heads_ref is_ref_byte true refl refl refl (λ a. let l = byte_range a in lt-ltb (byte_of a) 0x7B (omega arith)))
    (heads_code num_byte is_ref_byte false num_byte_first))
    val_to val_from val_from_to val_to_from

-- ---- storage types: i8, i16, or a value type

pub data Packed : Type 0 where
  i8 i16 : Packed

abbrev pub packeds : List Packed
packeds = i8 ∷ i16 ∷ []

abbrev pub packed_kind : Packed → ℕ
packed_kind = elim [ i8 ↦ 6 | i16 ↦ 7 ]

abbrev pub packed_byte : Packed → ℕ
packed_byte = elim [ i8 ↦ 0x78 | i16 ↦ 0x77 ]

pub packed_kind_small : (a : Packed) → packed_kind a < 256
packed_kind_small = elim [ i8 ↦ lit< tt | i16 ↦ lit< tt ]

pub packed_kind_full : (a : Packed) → find packed_kind packeds (packed_kind a) ≡ some a
packed_kind_full = elim [ i8 ↦ refl | i16 ↦ refl ]

pub packed_byte_small : (a : Packed) → packed_byte a < 256
packed_byte_small = elim [ i8 ↦ lit< tt | i16 ↦ lit< tt ]

pub packed_byte_full : (a : Packed) → find packed_byte packeds (packed_byte a) ≡ some a
packed_byte_full = elim [ i8 ↦ refl | i16 ↦ refl ]

abbrev pub storage_to : StorageType → Packed ⊎ ValType
storage_to = elim [ I8 ↦ inl i8 | I16 ↦ inl i16 | Val v ↦ inr v ]

abbrev pub packed_storage : Packed → StorageType
packed_storage = elim [ i8 ↦ I8 | i16 ↦ I16 ]

abbrev pub storage_from : Packed ⊎ ValType → StorageType
storage_from (inl p) = packed_storage p
storage_from (inr v) = Val v

pub storage_from_to : (v : StorageType) → storage_from (storage_to v) ≡ v
storage_from_to = elim [ I8 ↦ refl | I16 ↦ refl | Val v ↦ refl ]

packed_to_from : (p : Packed) → storage_to (packed_storage p) ≡ inl p
packed_to_from = elim [ i8 ↦ refl | i16 ↦ refl ]

pub storage_to_from : (w : Packed ⊎ ValType) → storage_to (storage_from w) ≡ w
storage_to_from (inl p) = packed_to_from p
storage_to_from (inr v) = refl

-- words: k is 6 or 7, or a value type's
abbrev pub is_packed : ℕ → Bool
is_packed k = is 6 k || is 7 k

abbrev pub packed_words : Format Packed
packed_words = coded packed_kind packeds packed_kind_small packed_kind_full

pub packed_first : (p : Packed) → is_packed (packed_kind p) ≡ true
packed_first = elim [ i8 ↦ refl | i16 ↦ refl ]

num_not_packed : (n : Num) → is_packed (num_kind n) ≡ false
num_not_packed = elim [ i32 ↦ refl | i64 ↦ refl | f32 ↦ refl | f64 ↦ refl | v128 ↦ refl ]

pub val_not_packed : Heads val_words is_packed false
val_not_packed v ok =
    heads_alt (is 5) (tag 5 ref_words) num_words is_packed false (heads_tag 5 ref_words is_packed false refl) (λ n ok. (num_kind n, 0 ∷ 0 ∷ [], refl, num_not_packed n)) (val_to v) ok

abbrev pub storage_words : Format StorageType
storage_words =
    iso (alt is_packed packed_words val_words (λ p ok. (packed_kind p, 0 ∷ 0 ∷ [], refl, packed_first p)) val_not_packed)
    storage_to storage_from storage_from_to storage_to_from

-- bytes: 78 or 77, or a value type's
abbrev pub is_packed_byte : ℕ → Bool
is_packed_byte x = is 0x78 x || is 0x77 x

pub packed_byte_first : (p : Packed) → is_packed_byte (packed_byte p) ≡ true
packed_byte_first = elim [ i8 ↦ refl | i16 ↦ refl ]

num_byte_not_packed : (n : Num) → is_packed_byte (num_byte n) ≡ false
num_byte_not_packed = elim [ i32 ↦ refl | i64 ↦ refl | f32 ↦ refl | f64 ↦ refl | v128 ↦ refl ]

abs_not_packed : (x : ℕ) → x ≤ 0x75 → is_packed_byte x ≡ false
abs_not_packed x h = rw (ne_eqb x 0x78 (λ e. omega arith), ne_eqb x 0x77 (λ e. omega arith))

pub val_byte_not_packed : Heads val_bytes is_packed_byte false
val_byte_not_packed v ok =
    heads_alt is_ref_byte ref_bytes num_bytes is_packed_byte false (heads_ref is_packed_byte false refl refl refl (λ a. abs_not_packed (byte_of a) (byte_range a).1))
    (heads_code num_byte is_packed_byte false num_byte_not_packed) (val_to v) ok

abbrev pub packed_bytes : Format Packed
packed_bytes = table 256 packed_byte packeds packed_byte_small packed_byte_full

abbrev pub storage_bytes : Format StorageType
storage_bytes =
    iso (alt is_packed_byte packed_bytes val_bytes (heads_code packed_byte is_packed_byte true packed_byte_first) val_byte_not_packed)
    storage_to storage_from storage_from_to storage_to_from

-- ---- field types: a storage type, then mutable, 0 or 1

abbrev pub field : Format StorageType → Format FieldType
field F = iso (pair F flag) (λ f. (f.element_type, f.mutable)) (λ p. record { element_type = p.0; mutable = p.1 }) (λ f. refl) (λ p. refl)

abbrev pub field_words : Format FieldType
field_words = field storage_words

abbrev pub field_bytes : Format FieldType
field_bytes = field storage_bytes

-- so it is walked by walking the two, one behind the other
abbrev pub field_joins : (F G : Format StorageType)
    → Joins F.parse G.print silent flag.parse flag.print silent (field F).parse (field G).print silent
field_joins F G = joins F G.print flag flag.print (field F) (field G).print (λ p. record { element_type = p.0; mutable = p.1 }) (λ s. refl) (λ a b. refl)
