-- Entity types (document 01, Records, Import; Items to bytes, Import: an entity begins with its sort byte; Core Specification 3.0, Binary Format, Modules,
-- Import Section; sort 20, an exact function, from imports.rs): words and bytes over one abstract syntax. Assumes nothing.
use Rattle.std.specs.Prelude.{◌≡◌, refl, List, [], ◌∷◌, ℕ, ◌<◌}
use Rattle.std.proofs.Math.Option.{some}
use Rattle.std.proofs.Common.{lit<}
use Rattle.format.specs.Format.{Format}
use Rattle.format.specs.Basic.{find, table}
use Rattle.format.specs.Combine.{dep, iso}
use Rattle.format.specs.Agree.{Agree}
use Rattle.leb128.proofs.Formats.{u32}
use Rattle.words.specs.Words.{word}
use Rattle.texts.specs.Section.{Section, textless}
use Rattle.tables.specs.TableType.{table_words, table_bytes, table_agree, memory_words, memory_bytes, memory_agree}
use Rattle.tables.specs.GlobalType.{global_words, global_bytes, global_agree}
use Rattle.tables.specs.TagType.{tag_words, tag_bytes, tag_agree}
use Rattle.tables.specs.declared.TableType.{TableType}
use Rattle.tables.specs.declared.MemoryType.{MemoryType}
use Rattle.tables.specs.declared.GlobalType.{GlobalType}
use Rattle.tables.specs.declared.TagType.{TagType}
use Rattle.imports.specs.declared.EntityType.{EntityType}
use Rattle.imports.specs.declared.EntityType.TheVariants.{Function, Table, Memory, Global, Tag, FunctionExact}

-- ---- sorts: the same numbers in words and in bytes

pub data Sort : Type 0 where
  function : Sort
  of_table : Sort
  of_memory : Sort
  of_global : Sort
  of_tag : Sort
  exact : Sort

abbrev pub sort_of : Sort → ℕ
sort_of function = 0x00
sort_of of_table = 0x01
sort_of of_memory = 0x02
sort_of of_global = 0x03
sort_of of_tag = 0x04
sort_of exact = 0x20

abbrev pub sorts : List Sort
sorts = function ∷ of_table ∷ of_memory ∷ of_global ∷ of_tag ∷ exact ∷ []

pub sort_small : (k : Sort) → sort_of k < 0x21
sort_small function = lit< tt
sort_small of_table = lit< tt
sort_small of_memory = lit< tt
sort_small of_global = lit< tt
sort_small of_tag = lit< tt
sort_small exact = lit< tt

pub sort_full : (k : Sort) → find sort_of sorts (sort_of k) ≡ some k
sort_full function = refl
sort_full of_table = refl
sort_full of_memory = refl
sort_full of_global = refl
sort_full of_tag = refl
sort_full exact = refl

abbrev pub sort : Format Sort
sort = table 0x21 sort_of sorts sort_small sort_full

-- ---- what stands behind the sort

abbrev pub TypeOf : Sort → Type 0
TypeOf function = ℕ
TypeOf of_table = TableType
TypeOf of_memory = MemoryType
TypeOf of_global = GlobalType
TypeOf of_tag = TagType
TypeOf exact = ℕ

abbrev pub type_words : (k : Sort) → Format (TypeOf k)
type_words function = word
type_words of_table = table_words
type_words of_memory = memory_words
type_words of_global = global_words
type_words of_tag = tag_words
type_words exact = word

abbrev pub type_bytes : (k : Sort) → Format (TypeOf k)
type_bytes function = u32
type_bytes of_table = table_bytes
type_bytes of_memory = memory_bytes
type_bytes of_global = global_bytes
type_bytes of_tag = tag_bytes
type_bytes exact = u32

pub type_agree : (k : Sort) → Agree (type_words k) (type_bytes k)
type_agree function x = (λ h. h, λ h. h)
type_agree of_table t = table_agree t
type_agree of_memory t = memory_agree t
type_agree of_global t = global_agree t
type_agree of_tag t = tag_agree t
type_agree exact x = (λ h. h, λ h. h)

-- ---- an entity type is a sort and its type

abbrev pub entity_to : EntityType → (k : Sort) × TypeOf k
entity_to (Function x) = (function, x)
entity_to (Table t) = (of_table, t)
entity_to (Memory t) = (of_memory, t)
entity_to (Global t) = (of_global, t)
entity_to (Tag t) = (of_tag, t)
entity_to (FunctionExact x) = (exact, x)

abbrev pub entity_of : (k : Sort) → TypeOf k → EntityType
entity_of function x = Function x
entity_of of_table t = Table t
entity_of of_memory t = Memory t
entity_of of_global t = Global t
entity_of of_tag t = Tag t
entity_of exact x = FunctionExact x

pub entity_back : (e : EntityType) → entity_of (entity_to e).0 (entity_to e).1 ≡ e
entity_back = elim [ Function x ↦ refl | Table t ↦ refl | Memory t ↦ refl | Global t ↦ refl | Tag t ↦ refl | FunctionExact x ↦ refl ]

pub entity_of_lem : (p : (k : Sort) × TypeOf k) → entity_to (entity_of p.0 p.1) ≡ p
entity_of_lem p = go p.0 p.1
  where
    go : (k : Sort) (t : TypeOf k) → entity_to (entity_of k t) ≡ (k, t)
    go function x = refl
    go of_table t = refl
    go of_memory t = refl
    go of_global t = refl
    go of_tag t = refl
    go exact x = refl

abbrev pub entity_type : ((k : Sort) → Format (TypeOf k)) → Format EntityType
entity_type F = iso (dep sort F) entity_to (λ p. entity_of p.0 p.1) entity_back entity_of_lem

abbrev pub entity_words : Format EntityType
entity_words = entity_type type_words

abbrev pub entity_bytes : Format EntityType
entity_bytes = entity_type type_bytes

pub entity_agree : Agree entity_words entity_bytes
entity_agree e = let p = entity_to e in (λ h. (h.0, (type_agree p.0 p.1).0 h.1), λ h. (h.0, (type_agree p.0 p.1).1 h.1))

-- as a part: it has no texts
abbrev pub entity : Section EntityType EntityType
entity = textless entity_words entity_bytes entity_agree
