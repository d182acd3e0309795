-- What the elements of a segment are (document 01, Records, Element: kind, h, x, list of indices or of spans; Items to bytes, Element flag: for flags 1, 2, 3
-- byte 00, for 5, 6, 7 the type; then the list). Assumes nothing.
use Rattle.std.specs.Prelude.{Bool, true, false, List, ℕ}
use Rattle.format.specs.Lists.{many}
use Rattle.format.specs.Agree.{many_agree}
use Rattle.leb128.proofs.Formats.{u32}
use Rattle.words.specs.Words.{word}
use Rattle.texts.specs.Section.{Section, textless, tagged}
use Rattle.texts.specs.declared.Span.{Span}
use Rattle.types.specs.Bytes.{null_of, ref_bytes}
use Rattle.types.specs.Words.{ref_words}
use Rattle.types.specs.Agree.{ref_agree}
use Rattle.types.specs.declared.AbstractHeapType.TheVariants.{Func}
use Rattle.types.specs.declared.HeapType.TheVariants.{Abstract}
use Rattle.types.specs.declared.RefType.{RefType}
use Rattle.parts.specs.Text.{expression}
use Rattle.parts.specs.Both.{both, behind}
use Rattle.parts.specs.Listed.{listed}

-- nullable unshared func, whose words are 16 and 0
abbrev pub funcref : RefType
funcref = null_of (Abstract false Func)

-- expressions or functions; with their type in the bytes or not
abbrev pub MembersOf : Bool → Bool → Type 0 → Type 0
MembersOf false typed S = List ℕ
MembersOf true false S = List S
MembersOf true true S = RefType × List S

-- the list of indices
abbrev pub indices : Section (List ℕ) (List ℕ)
indices = textless (many word word) (many u32 u32) (many_agree word u32 word u32 (λ x. (λ h. h, λ h. h)) (λ x. (λ h. h, λ h. h)))

abbrev pub functions : Section (List ℕ) (List ℕ)
functions = tagged 0 (tagged 0 (tagged 0 indices))

-- the reference type
abbrev pub ref_type : Section RefType RefType
ref_type = textless ref_words ref_bytes ref_agree

abbrev pub expressions : Section (RefType × List Span) (RefType × List (List ℕ))
expressions = tagged 1 (both ref_type (listed expression))

-- those of nullable unshared func, which the bytes need not say
abbrev pub funcrefs : Section (List Span) (List (List ℕ))
funcrefs = tagged 1 (tagged 16 (tagged 0 (listed expression)))

abbrev pub members : (e t : Bool) → Section (MembersOf e t Span) (MembersOf e t (List ℕ))
members false false = functions
members false true = behind 0x00 functions
members true false = funcrefs
members true true = expressions
