-- Tag types (document 01, Records, Import, entity 4; Items to bytes, Import: a tag is 04 00 index; Core Specification 3.0, Binary Format, Types, Tag Types):
-- the index of a function type; 00 before it in bytes says that the tag is an exception. Assumes nothing.
use Rattle.std.specs.Prelude.{◌≡◌, refl, ℕ}
use Rattle.format.specs.Format.{Format}
use Rattle.format.specs.Basic.{tag}
use Rattle.format.specs.Combine.{iso}
use Rattle.format.specs.Agree.{Agree}
use Rattle.leb128.proofs.Formats.{u32}
use Rattle.words.specs.Words.{word}
use Rattle.tables.specs.declared.TagKind.{TagKind}
use Rattle.tables.specs.declared.TagKind.TheVariants.{Exception}
use Rattle.tables.specs.declared.TagType.{TagType}

abbrev pub exception_of : ℕ → TagType
exception_of x = record { kind = Exception; func_type_idx = x }

pub exception_only : (t : TagType) → exception_of t.func_type_idx ≡ t
exception_only t = go t.kind
  where
    go : (k : TagKind) → exception_of t.func_type_idx ≡ record { kind = k; func_type_idx = t.func_type_idx }
    go = elim [ Exception ↦ refl ]

abbrev pub tag_type : Format ℕ → Format TagType
tag_type F = iso F (λ t. t.func_type_idx) exception_of exception_only (λ x. refl)

abbrev pub tag_words : Format TagType
tag_words = tag_type word

abbrev pub tag_bytes : Format TagType
tag_bytes = tag_type (tag 0x00 u32)

pub tag_agree : Agree tag_words tag_bytes
tag_agree t = (λ h. h, λ h. h)
