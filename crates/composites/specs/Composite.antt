-- What a composite type defines (document 01, Records and Types to bytes; Core Specification 3.0, Binary Format, Types, Composite Types; 5D is the source's):
-- a function's parameters and results, an array's field, a structure's fields, or a continuation's function type. Assumes nothing.
use Rattle.std.specs.Prelude.{◌≡◌, refl, Bool, List, [], ◌∷◌, ℕ, ◌<◌}
use Rattle.std.proofs.Math.Option.{some}
use Rattle.std.proofs.Common.{lit<}
use Rattle.format.specs.Format.{Format}
use Rattle.format.specs.Basic.{find, table}
use Rattle.format.specs.Combine.{dep, pair}
use Rattle.format.specs.Alternatives.{Heads, heads_dep, heads_code}
use Rattle.leb128.proofs.Formats.{index}
use Rattle.words.specs.Words.{word}
use Rattle.types.specs.Vals.{field_words, field_bytes}
use Rattle.types.specs.declared.ValType.{ValType}
use Rattle.types.specs.declared.FieldType.{FieldType}
use Rattle.lists.specs.Member.{list_words, list_bytes}
use Rattle.lists.specs.declared.Member.TheVariants.{Val, Field}

pub data Kind : Type 0 where
  func array struct cont : Kind

abbrev pub Body : Kind → Type 0
Body func = List ValType × List ValType
Body array = FieldType
Body struct = List FieldType
Body cont = ℕ

abbrev pub Inner : Type 0
Inner = (k : Kind) × Body k

abbrev pub kinds : List Kind
kinds = func ∷ array ∷ struct ∷ cont ∷ []

-- ---- words: 0 params list, results list; 1 field; 2 list of fields; 3 index

abbrev pub kind_word : Kind → ℕ
kind_word = elim [ func ↦ 0 | array ↦ 1 | struct ↦ 2 | cont ↦ 3 ]

pub kind_word_small : (k : Kind) → kind_word k < 4
kind_word_small = elim [ func ↦ lit< tt | array ↦ lit< tt | struct ↦ lit< tt | cont ↦ lit< tt ]

pub kind_word_full : (k : Kind) → find kind_word kinds (kind_word k) ≡ some k
kind_word_full = elim [ func ↦ refl | array ↦ refl | struct ↦ refl | cont ↦ refl ]

abbrev pub body_words : (k : Kind) → Format (Body k)
body_words func = pair (list_words Val) (list_words Val)
body_words array = field_words
body_words struct = list_words Field
body_words cont = word

abbrev pub kind_words : Format Kind
kind_words = table 4 kind_word kinds kind_word_small kind_word_full

abbrev pub inner_words : Format Inner
inner_words = dep kind_words body_words

-- ---- bytes: func 60 params results, array 5E field, struct 5F fields, cont 5D and signed index

abbrev pub kind_byte : Kind → ℕ
kind_byte = elim [ func ↦ 0x60 | array ↦ 0x5E | struct ↦ 0x5F | cont ↦ 0x5D ]

pub kind_byte_small : (k : Kind) → kind_byte k < 256
kind_byte_small = elim [ func ↦ lit< tt | array ↦ lit< tt | struct ↦ lit< tt | cont ↦ lit< tt ]

pub kind_byte_full : (k : Kind) → find kind_byte kinds (kind_byte k) ≡ some k
kind_byte_full = elim [ func ↦ refl | array ↦ refl | struct ↦ refl | cont ↦ refl ]

abbrev pub body_bytes : (k : Kind) → Format (Body k)
body_bytes func = pair (list_bytes Val) (list_bytes Val)
body_bytes array = field_bytes
body_bytes struct = list_bytes Field
body_bytes cont = index

abbrev pub kind_bytes : Format Kind
kind_bytes = table 256 kind_byte kinds kind_byte_small kind_byte_full

abbrev pub inner_bytes : Format Inner
inner_bytes = dep kind_bytes body_bytes

pub heads_inner : (p : ℕ → Bool) (v : Bool) → ((k : Kind) → p (kind_byte k) ≡ v) → Heads inner_bytes p v
heads_inner p v h = heads_dep kind_bytes body_bytes p v (heads_code kind_byte p v h)
