-- The import section as a section (document 01, Records; Items to bytes; Answers by number, Reading): each form is made of parts. Assumes nothing.
use Rattle.std.specs.Prelude.{refl, List, ℕ}
use Rattle.texts.specs.Section as section
use Rattle.texts.specs.declared.Span.{Span}
use Rattle.parts.specs.Chosen.{chosen}
use Rattle.imports.specs.Forms.{form, Imports, form_word}
use Rattle.imports.specs.Compact.{bytes}

abbrev pub import_section : section.Section (Imports Span) (Imports (List ℕ))
import_section = chosen form_word (λ f. tt) form bytes (λ x. (λ h. h, λ h. h)) (λ x. refl)
