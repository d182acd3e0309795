-- The three forms of an import (document 01, Records, Import: 0 module span, name span, entity; 1 module span, list of (name span, entity); 2 module span,
-- entity, list of name spans; Items to bytes, Import), over any text. Assumes nothing.
use Rattle.std.specs.Prelude.{◌≡◌, refl, List, [], ◌∷◌, ℕ, ◌<◌}
use Rattle.std.proofs.Math.Option.{some}
use Rattle.std.proofs.Common.{lit<}
use Rattle.format.specs.Format.{Format}
use Rattle.format.specs.Basic.{find, table}
use Rattle.format.specs.Combine.{dep}
use Rattle.texts.specs.Section.{Section}
use Rattle.texts.specs.declared.Span.{Span}
use Rattle.parts.specs.Text.{name}
use Rattle.parts.specs.Both.{both, behind}
use Rattle.parts.specs.Listed.{listed}
use Rattle.imports.specs.Entity.{entity}
use Rattle.imports.specs.declared.EntityType.{EntityType}
use Rattle.imports.specs.declared.Form.{Form}
use Rattle.imports.specs.declared.Form.TheVariants.{Single, Compact1, Compact2}

-- ---- the members of the lists: a name and an entity, or a name alone

pub data Member : Type 0 where
  Import : Member
  Name : Member

abbrev pub MemberOf : Member → Type 0 → Type 0
MemberOf Import S = S × EntityType
MemberOf Name S = S

abbrev pub member : (m : Member) → Section (MemberOf m Span) (MemberOf m (List ℕ))
member Import = both name entity
member Name = name

-- ---- the forms

-- behind the module's name
abbrev pub Rest : Form → Type 0 → Type 0
Rest Single S = S × EntityType
Rest Compact1 S = List (S × EntityType)
Rest Compact2 S = EntityType × List S

-- in bytes, 00 7F stand before the list, 00 7E before the entity and the names
abbrev pub rest : (f : Form) → Section (Rest f Span) (Rest f (List ℕ))
rest Single = member Import
rest Compact1 = behind 0x00 (behind 0x7F (listed (member Import)))
rest Compact2 = behind 0x00 (behind 0x7E (both entity (listed (member Name))))

abbrev pub form : (f : Form) → Section (Span × Rest f Span) (List ℕ × Rest f (List ℕ))
form f = both name (rest f)

abbrev pub Imports : Type 0 → Type 0
Imports S = (f : Form) × (S × Rest f S)

-- ---- words, behind the 2

abbrev pub form_of : Form → ℕ
form_of Single = 0
form_of Compact1 = 1
form_of Compact2 = 2

abbrev pub forms : List Form
forms = Single ∷ Compact1 ∷ Compact2 ∷ []

pub form_small : (f : Form) → form_of f < 3
form_small = elim [ Single ↦ lit< tt | Compact1 ↦ lit< tt | Compact2 ↦ lit< tt ]

pub form_full : (f : Form) → find form_of forms (form_of f) ≡ some f
form_full = elim [ Single ↦ refl | Compact1 ↦ refl | Compact2 ↦ refl ]

abbrev pub form_word : Format Form
form_word = table 3 form_of forms form_small form_full

abbrev pub words : Format (Imports Span)
words = dep form_word (λ f. (form f).words)
