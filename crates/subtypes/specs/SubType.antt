-- Subtypes (document 01, Records and Types to bytes; Core Specification 3.0, Binary Format, Types, Recursive Types; 65, 4C and 4D are the source's).
-- Assumes nothing.
use Rattle.std.specs.Prelude.{◌≡◌, refl, Bool, false, List, ◌++◌, ℕ}
use Rattle.std.proofs.Math.Option.{Option}
use Rattle.format.specs.Format.{Format}
use Rattle.format.specs.Basic.{flag}
use Rattle.format.specs.Combine.{pair, iso}
use Rattle.format.specs.Alternatives.{Heads, opt}
use Rattle.format.specs.Leads.{led, option, mark, heads_option, heads_mark}
use Rattle.leb128.proofs.Formats.{u32}
use Rattle.words.specs.Words.{word}
use Rattle.composites.specs.Composite.{Inner, inner_words, inner_bytes, Kind, func, array, struct, cont, kind_byte, heads_inner}
use Rattle.prefixes.specs.Prefix.{supers_words, supers_lead}

-- supers: the indices of its supertypes; describes and descriptor: the index of another type
pub record SubType : Type 0 where
  pub final : Bool
  pub supers : List ℕ
  pub shared : Bool
  pub describes : Option ℕ
  pub descriptor : Option ℕ
  pub inner : Inner

-- ---- one part behind the other

abbrev pub Described : Type 0
Described = Option ℕ × (Option ℕ × Inner)

abbrev pub Parts : Type 0
Parts = (Bool × List ℕ) × (Bool × Described)

abbrev pub parts_of : SubType → Parts
parts_of s = ((s.final, s.supers), (s.shared, (s.describes, (s.descriptor, s.inner))))

abbrev pub of_parts : Parts → SubType
of_parts p = record { final = p.0.0; supers = p.0.1; shared = p.1.0; describes = p.1.1.0; descriptor = p.1.1.1.0; inner = p.1.1.1.1 }

-- ---- words: final, list of supertypes, shared, describes flag, index, descriptor flag, index, then the composite type

abbrev pub described_words : Format Described
described_words = pair (opt word) (pair (opt word) inner_words)

abbrev pub sub_words : Format SubType
sub_words = iso (pair supers_words (pair flag described_words)) parts_of of_parts (λ s. refl) (λ p. refl)

-- ---- bytes: the prefix, then 65 if shared, 4C index if describes, 4D index if descriptor, then the composite type

pub inner_no_4_d : Heads inner_bytes (option 0x4D u32).begins false
inner_no_4_d = heads_inner (option 0x4D u32).begins false (elim [ func ↦ refl | array ↦ refl | struct ↦ refl | cont ↦ refl ])

abbrev pub descriptor_bytes : Format (Option ℕ × Inner)
descriptor_bytes = led (option 0x4D u32) inner_bytes inner_no_4_d

pub heads_descriptor : (p : ℕ → Bool) (v : Bool) → p 0x4D ≡ v → ((k : Kind) → p (kind_byte k) ≡ v) → Heads descriptor_bytes p v
heads_descriptor p v e h = heads_option 0x4D u32 inner_bytes inner_no_4_d p v e (heads_inner p v h)

pub descriptor_no_4_c : Heads descriptor_bytes (option 0x4C u32).begins false
descriptor_no_4_c = heads_descriptor (option 0x4C u32).begins false refl (elim [ func ↦ refl | array ↦ refl | struct ↦ refl | cont ↦ refl ])

abbrev pub described_bytes : Format Described
described_bytes = led (option 0x4C u32) descriptor_bytes descriptor_no_4_c

pub heads_described : (p : ℕ → Bool) (v : Bool) → p 0x4C ≡ v → p 0x4D ≡ v → ((k : Kind) → p (kind_byte k) ≡ v) → Heads described_bytes p v
heads_described p v e f h = heads_option 0x4C u32 descriptor_bytes descriptor_no_4_c p v e (heads_descriptor p v f h)

pub described_no_65 : Heads described_bytes (mark 0x65).begins false
described_no_65 = heads_described (mark 0x65).begins false refl refl (elim [ func ↦ refl | array ↦ refl | struct ↦ refl | cont ↦ refl ])

abbrev pub shared_bytes : Format (Bool × Described)
shared_bytes = led (mark 0x65) described_bytes described_no_65

pub heads_shared : (p : ℕ → Bool) (v : Bool) → p 0x65 ≡ v → p 0x4C ≡ v → p 0x4D ≡ v → ((k : Kind) → p (kind_byte k) ≡ v) → Heads shared_bytes p v
heads_shared p v d e f h = heads_mark 0x65 described_bytes described_no_65 p v d (heads_described p v e f h)

pub shared_no_prefix : Heads shared_bytes supers_lead.begins false
shared_no_prefix = heads_shared supers_lead.begins false refl refl refl (elim [ func ↦ refl | array ↦ refl | struct ↦ refl | cont ↦ refl ])

abbrev pub sub_bytes : Format SubType
sub_bytes = iso (led supers_lead shared_bytes shared_no_prefix) parts_of of_parts (λ s. refl) (λ p. refl)

-- which is this
pub sub_print : (s : SubType) → sub_bytes.print s
    ≡ supers_lead.print (s.final, s.supers) ++ ((mark 0x65).print s.shared ++ ((option 0x4C u32).print s.describes ++ ((option 0x4D u32).print s.descriptor ++ inner_bytes.print s.inner)))
sub_print s = refl
