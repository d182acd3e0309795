-- The members of plain lists, and lists of them (document 01, Records: a list is a count word, then its members; Core Specification 3.0, Binary Format,
-- Conventions, Lists). Assumes nothing.
use Rattle.std.specs.Prelude.{List, ℕ, ◌<◌, false, pos, length}
use Rattle.std.proofs.Common.{arith, length-append}
use Rattle.format.specs.Format.{Format}
use Rattle.format.specs.Basic.{flag}
use Rattle.format.specs.Alternatives.{heads_long}
use Rattle.format.specs.Lists.{many}
use Rattle.leb128.proofs.LebLaws.{leb_some}
use Rattle.leb128.proofs.Formats.{u32}
use Rattle.words.specs.Words.{word}
use Rattle.types.specs.Vals.{val_words, val_bytes, is_packed, is_packed_byte, val_not_packed, val_byte_not_packed, storage_words, storage_bytes, field, field_words, field_bytes}
use Rattle.types.specs.declared.ValType.{ValType}
use Rattle.types.specs.declared.FieldType.{FieldType}
use Rattle.types.specs.declared.StorageType.{StorageType}
use Rattle.lists.specs.declared.Member.{Member}
use Rattle.lists.specs.declared.Member.TheVariants.{Index, Val, Field}

-- what a member is
abbrev pub Value : Member → Type 0
Value Index = ℕ
Value Val = ValType
Value Field = FieldType

abbrev pub member_words : (m : Member) → Format (Value m)
member_words Index = word
member_words Val = val_words
member_words Field = field_words

abbrev pub member_bytes : (m : Member) → Format (Value m)
member_bytes Index = u32
member_bytes Val = val_bytes
member_bytes Field = field_bytes

abbrev pub list_words : (m : Member) → Format (List (Value m))
list_words m = many word (member_words m)

abbrev pub list_bytes : (m : Member) → Format (List (Value m))
list_bytes m = many u32 (member_bytes m)

-- a member takes a word, and a byte, at least
field_long : (F : Format StorageType) (f : FieldType) → 0 < length ((field F).print f)
field_long F f = omega (arith, length-append (F.print f.element_type) (flag.print f.mutable))

pub words_long : (m : Member) (a : Value m) → (member_words m).Ok a → 0 < length ((member_words m).print a)
words_long Index a ok = omega arith
words_long Val a ok = heads_long val_words is_packed false val_not_packed a ok
words_long Field a ok = field_long storage_words a

pub bytes_long : (m : Member) (a : Value m) → (member_bytes m).Ok a → 0 < length ((member_bytes m).print a)
bytes_long Index a ok = leb_some false (pos a)
bytes_long Val a ok = heads_long val_bytes is_packed_byte false val_byte_not_packed a ok
bytes_long Field a ok = field_long storage_bytes a
