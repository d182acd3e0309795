-- Data segments (document 01, Records and Items to bytes; Core Specification 3.0, Binary Format, Modules, Data Section), over any text: where the data goes,
-- and the data. Assumes nothing.
use Rattle.std.specs.Prelude.{List, ℕ}
use Rattle.texts.specs.Section.{Section}
use Rattle.texts.specs.declared.Span.{Span}
use Rattle.parts.specs.Text.{content}
use Rattle.parts.specs.Both.{both}
use Rattle.data.specs.Target.{Target, target}

abbrev pub Segment : Type 0 → Type 0
Segment S = Target S × S

-- words, behind the 11: mode, memory, offset span, data span
-- bytes: active in memory 0 is 00 offset, in another memory 02 memory offset, passive 01; then length and bytes
abbrev pub data_section : Section (Segment Span) (Segment (List ℕ))
data_section = both target content
