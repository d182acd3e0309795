-- Tables and their like as words and as bytes, by computation: the crate's own example of a table section, and one of each kind of flags. Assumes nothing.
use Rattle.std.specs.Prelude.{◌≡◌, refl, true, false, [], ◌∷◌, None, Some}
use Rattle.leb128.specs.Leb.{leb, leb_by}
use Rattle.types.specs.Bytes.{null_of}
use Rattle.types.specs.declared.AbstractHeapType.TheVariants.{Func}
use Rattle.types.specs.declared.HeapType.TheVariants.{Abstract}
use Rattle.types.specs.declared.ValType.TheVariants.{I32}
use Rattle.tables.specs.TableType.{table_words, table_bytes, memory_words, memory_bytes}
use Rattle.tables.specs.GlobalType.{global_words, global_bytes}
use Rattle.tables.specs.TagType.{exception_of, tag_words, tag_bytes}
use Rattle.tables.specs.Table.{table_section}
use Rattle.tables.specs.declared.TableType.{TableType}
use Rattle.tables.specs.declared.MemoryType.{MemoryType}
use Rattle.tables.specs.declared.GlobalType.{GlobalType}

-- 128 or more function references
abbrev functions : TableType
functions = record { element_type = null_of (Abstract false Func); table64 = false; minimum = 128; maximum = None; shared = false }

-- from 1 to 4294967296 pages, 64-bit and shared; and shared without a maximum
abbrev wide : MemoryType
wide = record { minimum = 1; maximum = Some 4294967296; memory64 = true; shared = true }

abbrev growing : MemoryType
growing = record { minimum = 3; maximum = None; memory64 = false; shared = true }

abbrev counter : GlobalType
counter = record { val_type = I32; mutable = true }

pub records : (table_words.print functions ≡ 16 ∷ 0 ∷ 0 ∷ 128 ∷ 0 ∷ 0 ∷ 0 ∷ [])
    × (table_section.words.print (true, (functions, record { start = 4; len = 3 })) ≡ 1 ∷ 16 ∷ 0 ∷ 0 ∷ 128 ∷ 0 ∷ 0 ∷ 0 ∷ 4 ∷ 3 ∷ [])
    × (memory_words.print wide ≡ 7 ∷ 1 ∷ 0 ∷ 0 ∷ 1 ∷ [])
    × (memory_words.print growing ≡ 2 ∷ 3 ∷ 0 ∷ 0 ∷ 0 ∷ [])
    × (global_words.print counter ≡ 0 ∷ 0 ∷ 0 ∷ 1 ∷ [])
    × (tag_words.print (exception_of 5) ≡ 5 ∷ [])
records = (refl, refl, refl, refl, refl, refl)

pub items : (table_bytes.print functions ≡ 0x70 ∷ 0x00 ∷ 0x80 ∷ 0x01 ∷ [])
    × (table_section.bytes.print (true, (functions, 0xD0 ∷ 0x70 ∷ 0x0B ∷ [])) ≡ 0x40 ∷ 0x00 ∷ 0x70 ∷ 0x00 ∷ 0x80 ∷ 0x01 ∷ 0xD0 ∷ 0x70 ∷ 0x0B ∷ [])
    × (memory_bytes.print wide ≡ 0x07 ∷ 0x01 ∷ 0x80 ∷ 0x80 ∷ 0x80 ∷ 0x80 ∷ 0x10 ∷ [])
    × (memory_bytes.print growing ≡ 0x02 ∷ 0x03 ∷ [])
    × (global_bytes.print counter ≡ 0x7F ∷ 0x01 ∷ [])
    × (tag_bytes.print (exception_of 5) ≡ 0x00 ∷ 0x05 ∷ [])
unfolding leb leb_by
items = (refl, refl, refl, refl, refl, refl)
