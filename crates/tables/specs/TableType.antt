-- Table types and memory types (document 01, Records, Table and Memory type; Items to bytes, Table type; Core Specification 3.0, Binary Format, Types, Table
-- Types and Memory Types): a table type is a reference type and limits, a memory type limits. Assumes nothing.
use Rattle.std.specs.Prelude.{refl, false}
use Rattle.std.proofs.Common.{arith}
use Rattle.format.specs.Count.{silent}
use Rattle.format.specs.Format.{Format}
use Rattle.format.specs.Combine.{pair, iso}
use Rattle.format.specs.Alternatives.{Heads, is, heads_pair, heads_iso}
use Rattle.format.specs.Agree.{Agree, pair_agree}
use Rattle.format.specs.Sequence.{Joins, joins}
use Rattle.types.specs.Words.{ref_words}
use Rattle.types.specs.Bytes.{ref_bytes, heads_ref, byte_not}
use Rattle.types.specs.Agree.{ref_agree}
use Rattle.types.specs.declared.RefType.{RefType}
use Rattle.limits.specs.Limits.{Limits, limits_words, limits_bytes, limits_agree}
use Rattle.tables.specs.declared.TableType.{TableType}
use Rattle.tables.specs.declared.MemoryType.{MemoryType}

-- ---- table types

abbrev pub table_to : TableType → RefType × Limits
table_to t = (t.element_type, record { wide = t.table64; shared = t.shared; minimum = t.minimum; maximum = t.maximum })

abbrev pub table_of : RefType × Limits → TableType
table_of p = record { element_type = p.0; table64 = p.1.wide; minimum = p.1.minimum; maximum = p.1.maximum; shared = p.1.shared }

abbrev pub table_type : Format RefType → Format Limits → Format TableType
table_type R L = iso (pair R L) table_to table_of (λ t. refl) (λ p. refl)

abbrev pub table_words : Format TableType
table_words = table_type ref_words limits_words

abbrev pub table_bytes : Format TableType
table_bytes = table_type ref_bytes limits_bytes

pub table_agree : Agree table_words table_bytes
table_agree t = pair_agree ref_words ref_bytes limits_words limits_bytes ref_agree limits_agree (table_to t)

-- 40 begins none: it says that an initial value follows
pub table_heads : Heads table_bytes (is 0x40) false
table_heads =
    heads_iso (pair ref_bytes limits_bytes) table_to (is 0x40) false
    (heads_pair ref_bytes limits_bytes (is 0x40) false (heads_ref (is 0x40) false refl refl refl (byte_not 0x40 (omega arith))))

-- it is walked by walking the two, one behind the other
abbrev pub table_joins : (R R' : Format RefType) (L L' : Format Limits)
    → Joins R.parse R'.print silent L.parse L'.print silent (table_type R L).parse (table_type R' L').print silent
table_joins R R' L L' = joins R R'.print L L'.print (table_type R L) (table_type R' L').print table_of (λ s. refl) (λ a b. refl)

-- ---- memory types

abbrev pub memory_to : MemoryType → Limits
memory_to m = record { wide = m.memory64; shared = m.shared; minimum = m.minimum; maximum = m.maximum }

abbrev pub memory_of : Limits → MemoryType
memory_of l = record { minimum = l.minimum; maximum = l.maximum; memory64 = l.wide; shared = l.shared }

abbrev pub memory_type : Format Limits → Format MemoryType
memory_type L = iso L memory_to memory_of (λ m. refl) (λ l. refl)

abbrev pub memory_words : Format MemoryType
memory_words = memory_type limits_words

abbrev pub memory_bytes : Format MemoryType
memory_bytes = memory_type limits_bytes

pub memory_agree : Agree memory_words memory_bytes
memory_agree m = limits_agree (memory_to m)
