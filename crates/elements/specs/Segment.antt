-- Element segments as records (document 01, Records, Element: 9, mode, table flag, table, offset span, kind, h, x, list), over any text. Assumes nothing.
use Rattle.std.specs.Prelude.{Bool, true, false, List, ℕ}
use Rattle.format.specs.Format.{Format}
use Rattle.format.specs.Basic.{tag, flag}
use Rattle.format.specs.Combine.{dep, pair}
use Rattle.format.specs.Lists.{many}
use Rattle.words.specs.Words.{word}
use Rattle.texts.specs.Spans.{span}
use Rattle.texts.specs.declared.Span.{Span}
use Rattle.types.specs.Words.{ref_words}
use Rattle.types.specs.declared.RefType.{RefType}
use Rattle.modes.specs.Mode.{mode_words, PlaceOf, place}
use Rattle.modes.specs.declared.Mode.{Mode}

-- kind 0: the indices of functions; kind 1: a reference type and expressions
abbrev pub ElementsOf : Bool → Type 0 → Type 0
ElementsOf false S = List ℕ
ElementsOf true S = RefType × List S

abbrev pub Elements : Type 0 → Type 0
Elements S = (e : Bool) × ElementsOf e S

abbrev pub Segment : Type 0 → Type 0
Segment S = (m : Mode) × (PlaceOf m S × Elements S)

-- ---- words, behind the 9

abbrev pub elements_words_of : (e : Bool) → Format (ElementsOf e Span)
elements_words_of false = tag 0 (tag 0 (many word word))
elements_words_of true = pair ref_words (many word span)

abbrev pub elements_words : Format (Elements Span)
elements_words = dep flag elements_words_of

abbrev pub words : Format (Segment Span)
words = dep mode_words (λ m. pair (place m).words elements_words)
