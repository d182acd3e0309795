-- How the walks over subtypes are put together: what may stand in front, and what follows it. Assumes nothing.
use mathlib.Core.Path.{refl}
use Rattle.format.specs.Alternatives.{opt}
use Rattle.format.specs.Basic.{flag}
use Rattle.format.specs.Combine.{pair}
use Rattle.format.specs.Count.{silent}
use Rattle.format.specs.Leads.{mark, option, led_joins, led_made}
use Rattle.format.specs.Sequence.{Joins, joins, pair_joins}
use Rattle.leb128.proofs.Formats.{u32}
use Rattle.words.specs.Words.{word}
use Rattle.composites.specs.Composite.{inner_words, inner_bytes}
use Rattle.prefixes.specs.Prefix.{supers_words, supers_lead}
use Rattle.subtypes.specs.SubType.{of_parts, descriptor_bytes, descriptor_no_4_c, inner_no_4_d, shared_bytes, shared_no_prefix, described_words, described_bytes, described_no_65, sub_words, sub_bytes}

-- ---- bytes

pub describes_read : Joins (option 0x4C u32).parse (opt word).print silent descriptor_bytes.parse (pair (opt word) inner_words).print silent described_bytes.parse described_words.print silent
describes_read = led_joins (option 0x4C u32) (opt word).print descriptor_bytes (pair (opt word) inner_words).print descriptor_no_4_c

pub descriptor_read : Joins (option 0x4D u32).parse (opt word).print silent inner_bytes.parse inner_words.print silent descriptor_bytes.parse (pair (opt word) inner_words).print silent
descriptor_read = led_joins (option 0x4D u32) (opt word).print inner_bytes inner_words.print inner_no_4_d

pub supers_read : Joins supers_lead.parse supers_words.print silent shared_bytes.parse (pair flag described_words).print silent sub_bytes.parse sub_words.print silent
supers_read = led_made supers_lead supers_words.print shared_bytes (pair flag described_words).print shared_no_prefix sub_bytes sub_words.print of_parts (λ l. refl) (λ x y. refl)

pub shared_read : Joins (mark 0x65).parse flag.print silent described_bytes.parse described_words.print silent shared_bytes.parse (pair flag described_words).print silent
shared_read = led_joins (mark 0x65) flag.print described_bytes described_words.print described_no_65

-- ---- words

pub describes_walk : Joins (opt word).parse (option 0x4C u32).print silent (pair (opt word) inner_words).parse descriptor_bytes.print silent described_words.parse described_bytes.print silent
describes_walk = pair_joins (opt word) (option 0x4C u32).print (pair (opt word) inner_words) descriptor_bytes.print

pub descriptor_walk : Joins (opt word).parse (option 0x4D u32).print silent inner_words.parse inner_bytes.print silent (pair (opt word) inner_words).parse descriptor_bytes.print silent
descriptor_walk = pair_joins (opt word) (option 0x4D u32).print inner_words inner_bytes.print

pub supers_walk : Joins supers_words.parse supers_lead.print silent (pair flag described_words).parse shared_bytes.print silent sub_words.parse sub_bytes.print silent
supers_walk = joins supers_words supers_lead.print (pair flag described_words) shared_bytes.print sub_words sub_bytes.print of_parts (λ l. refl) (λ x y. refl)

pub shared_walk : Joins flag.parse (mark 0x65).print silent described_words.parse described_bytes.print silent (pair flag described_words).parse shared_bytes.print silent
shared_walk = pair_joins flag (mark 0x65).print described_words described_bytes.print
