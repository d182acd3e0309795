-- Groups of subtypes, which are the items of the type section, made of parts (document 01, Records and Types to bytes; Core Specification 3.0, Binary Format,
-- Types, Recursive Types): a subtype alone, or 4E, count, subtypes. A group counts as one item. Assumes nothing.
use Rattle.std.specs.Prelude.{◌≡◌, refl, Bool, true, false, List, [], ◌∷◌, ◌++◌, ℕ, ◌+◌, ◌<◌, length}
use Rattle.std.proofs.Common.{ap, ◌∙◌, arith}
use Rattle.format.specs.Format.{Format}
use Rattle.format.specs.Basic.{flag}
use Rattle.format.specs.Alternatives.{Heads, is, heads_long}
use Rattle.format.specs.Leads.{heads_led}
use Rattle.format.specs.Told.{one}
use Rattle.leb128.proofs.Formats.{u32}
use Rattle.texts.specs.Section.{Section, textless, tagged}
use Rattle.parts.specs.Both.{behind}
use Rattle.parts.specs.Listed.{each_same, locates_same, listed}
use Rattle.parts.specs.Chosen.{chosen}
use Rattle.composites.specs.Composite.{func, array, struct, cont}
use Rattle.prefixes.specs.Prefix.{supers_lead, prefix_begins}
use Rattle.subtypes.specs.SubType.{SubType, parts_of, sub_words, sub_bytes, shared_bytes, shared_no_prefix, heads_shared}
use Rattle.subtypes.specs.Agree.{sub_agree}

-- a subtype holds no text
abbrev pub sub_type : Section SubType SubType
sub_type = textless sub_words sub_bytes sub_agree

-- a group has any number of them
abbrev pub GroupOf : Bool → Type 0
GroupOf false = SubType
GroupOf true = List SubType

abbrev pub RecGroup : Type 0
RecGroup = (group : Bool) × GroupOf group

-- words, behind the 1: group flag, list of subtypes, exactly one if the flag is 0
-- bytes: 4E, count, subtypes; or a subtype
abbrev pub form : (group : Bool) → Section (GroupOf group) (GroupOf group)
form false = tagged 1 sub_type
form true = behind 0x4E (listed sub_type)

-- 4E begins no subtype
abbrev pub is_group : List ℕ → Bool
is_group [] = false
is_group (x ∷ s) = is 0x4E x

pub sub_no_4_e : Heads sub_bytes (is 0x4E) false
sub_no_4_e s ok =
    heads_led supers_lead shared_bytes shared_no_prefix (is 0x4E) false (prefix_begins (is 0x4E) false refl refl)
    (heads_shared (is 0x4E) false refl refl refl (elim [ func ↦ refl | array ↦ refl | struct ↦ refl | cont ↦ refl ])) (parts_of s) ok

pub group_told : (group : Bool) (x : GroupOf group) (r : List ℕ) → (form group).bytes.Ok x → is_group ((form group).bytes.print x ++ r) ≡ group
group_told false x r ok = let (y, t, e, n) = sub_no_4_e x ok in ap (λ (l : List ℕ). is_group (l ++ r)) e ∙ n
group_told true x r ok = refl

abbrev pub group_bytes : Format RecGroup
group_bytes = one is_group (λ g. (form g).bytes) group_told

abbrev pub type_section : Section RecGroup RecGroup
type_section = chosen flag (λ g. tt) form group_bytes (λ x. (λ h. h, λ h. h)) (λ x. refl)

-- a record and its item are the same
pub as_located : (n : ℕ) (g : RecGroup) → type_section.locate n g ≡ g
as_located n (false, x) = refl
as_located n (true, xs) =
    let e = locates_same sub_type (λ x. x) (λ n x. refl) (n + 1 + length (u32.print (length xs))) xs ∙ each_same (λ x. x) (λ x. refl) xs in
    λ i. (true, e i)

pub as_resolved : (t : List ℕ) (g : RecGroup) → type_section.resolve t g ≡ g
as_resolved t (false, x) = refl
as_resolved t (true, xs) = let e = each_same (λ x. x) (λ x. refl) xs in λ i. (true, e i)

-- a subtype takes a word, and a byte, at least
pub sub_words_long : (s : SubType) → sub_words.Ok s → 0 < length (sub_words.print s)
sub_words_long s ok = omega arith

pub sub_bytes_long : (s : SubType) → sub_bytes.Ok s → 0 < length (sub_bytes.print s)
sub_bytes_long = heads_long sub_bytes (is 0x4E) false sub_no_4_e
