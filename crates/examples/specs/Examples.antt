-- Document 01, Checked examples, those marked P: one statement of all of them, by computation. Assumes nothing.
use Rattle.std.specs.Prelude.{◌≡◌, refl, true, List, [], ◌∷◌, ℕ, pos, negsuc}
use Rattle.leb128.specs.Leb.{leb, leb_by, uleb, sleb}
use Rattle.frames.specs.Frames.{Frame}
use Rattle.sections.specs.Section.{section_of}
use Rattle.texts.specs.Judge.{record_in, item_in, why}
use Rattle.types.specs.Words.{ref_words}
use Rattle.types.specs.Bytes.{ref_bytes, null_of, non_null_of}
use Rattle.types.specs.declared.AbstractHeapType.TheVariants.{Any}
use Rattle.types.specs.declared.HeapType.TheVariants.{Abstract, Concrete, Exact}
use Rattle.types.specs.declared.RefType.{RefType}
use Rattle.items.specs.Record.{words, item_of, texts_of, records}

pub record Numbers : Type 0 where
  -- unsigned 127 is 7F; 128 is 80 01; 624485 is E5 8E 26; 4294967295 is FF FF FF FF 0F
  pub unsigned_127 : uleb 127 ≡ 0x7F ∷ []
  pub unsigned_128 : uleb 128 ≡ 0x80 ∷ 0x01 ∷ []
  pub unsigned_624485 : uleb 624485 ≡ 0xE5 ∷ 0x8E ∷ 0x26 ∷ []
  pub unsigned_4294967295 : uleb 4294967295 ≡ 0xFF ∷ 0xFF ∷ 0xFF ∷ 0xFF ∷ 0x0F ∷ []
  -- signed 63 is 3F; 64 is C0 00; -64 is 40; -65 is BF 7F; 9999 is 8F CE 00; -123456 is C0 BB 78. negsuc a is -(a + 1)
  pub signed_63 : sleb (pos 63) ≡ 0x3F ∷ []
  pub signed_64 : sleb (pos 64) ≡ 0xC0 ∷ 0x00 ∷ []
  pub signed_minus_64 : sleb (negsuc 63) ≡ 0x40 ∷ []
  pub signed_minus_65 : sleb (negsuc 64) ≡ 0xBF ∷ 0x7F ∷ []
  pub signed_9999 : sleb (pos 9999) ≡ 0x8F ∷ 0xCE ∷ 0x00 ∷ []
  pub signed_minus_123456 : sleb (negsuc 123455) ≡ 0xC0 ∷ 0xBB ∷ 0x78 ∷ []

-- references: their words, kind 14 and 64; kind 15, nullable, and 5; kind 2, nullable, shared; and their bytes
abbrev index_64 : RefType
index_64 = non_null_of (Concrete 64)

abbrev exact_5 : RefType
exact_5 = null_of (Exact 5)

abbrev shared_any : RefType
shared_any = null_of (Abstract true Any)

pub record References : Type 0 where
  pub index_64_words : ref_words.print index_64 ≡ 14 ∷ 64 ∷ []
  pub exact_5_words : ref_words.print exact_5 ≡ 31 ∷ 5 ∷ []
  pub shared_any_words : ref_words.print shared_any ≡ 50 ∷ 0 ∷ []
  -- to index 64, not null: 64 C0 00; null exact 5: 63 62 05; null shared any: 65 6E
  pub index_64_bytes : ref_bytes.print index_64 ≡ 0x64 ∷ 0xC0 ∷ 0x00 ∷ []
  pub exact_5_bytes : ref_bytes.print exact_5 ≡ 0x63 ∷ 0x62 ∷ 0x05 ∷ []
  pub shared_any_bytes : ref_bytes.print shared_any ≡ 0x65 ∷ 0x6E ∷ []

-- the record of (i32 i32) to i32: 1, no group, one subtype; final, no supertypes, not shared, neither describes nor descriptor; 0, the lists
abbrev type_record : List ℕ
type_record = 1 ∷ 0 ∷ 1 ∷ 1 ∷ 0 ∷ 0 ∷ 0 ∷ 0 ∷ 0 ∷ 0 ∷ 0 ∷ 2 ∷ 0 ∷ 0 ∷ 0 ∷ 0 ∷ 0 ∷ 0 ∷ 1 ∷ 0 ∷ 0 ∷ 0 ∷ []

abbrev type_frame : Frame
type_frame = record { id = 1; item = item_in records type_record [] }

pub record TypeSection : Type 0 where
  pub accepted : why records type_record [] ≡ 0
  -- type section of (i32 i32) to i32: 01 07 01 60 02 7F 7F 01 7F
  pub section : section_of (record { count = 0 }) (type_frame ∷ []) 1 ≡ 0x01 ∷ 0x07 ∷ 0x01 ∷ 0x60 ∷ 0x02 ∷ 0x7F ∷ 0x7F ∷ 0x01 ∷ 0x7F ∷ []

-- the statement
pub record Examples : Type 0 where
  pub numbers : Numbers
  pub references : References
  pub types : TypeSection

pub examples : Examples
unfolding leb leb_by record_in words texts_of item_of
examples =
    record {
      numbers =
          record {
            unsigned_127 = refl;
            unsigned_128 = refl;
            unsigned_624485 = refl;
            unsigned_4294967295 = refl;
            signed_63 = refl;
            signed_64 = refl;
            signed_minus_64 = refl;
            signed_minus_65 = refl;
            signed_9999 = refl;
            signed_minus_123456 = refl;
          };
      references =
          record {
            index_64_words = refl;
            exact_5_words = refl;
            shared_any_words = refl;
            index_64_bytes = refl;
            exact_5_bytes = refl;
            shared_any_bytes = refl;
          };
      types = record { accepted = refl; section = refl };
    }
