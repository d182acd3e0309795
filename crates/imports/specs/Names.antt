-- The texts of an import are all names (document 01, Records, Import). Assumes nothing.
use Rattle.std.specs.Prelude.{refl, List, [], ◌∷◌}
use Rattle.texts.specs.Plain.{Names}
use Rattle.texts.specs.declared.Span.{Span}
use Rattle.parts.specs.Listed.{texts_of}
use Rattle.imports.specs.Forms.{Imports, Member, Import, Name, MemberOf, member}
use Rattle.imports.specs.Section.{import_section}
use Rattle.imports.specs.declared.Form.TheVariants.{Single, Compact1, Compact2}

list_names : (m : Member) (l : List (MemberOf m Span)) → Names (texts_of (member m) l)
list_names m [] = tt
list_names Import (x ∷ l) = (refl, list_names Import l)
list_names Name (x ∷ l) = (refl, list_names Name l)

pub import_names : (x : Imports Span) → Names (import_section.texts x)
import_names (Single, x) = (refl, (refl, tt))
import_names (Compact1, x) = (refl, list_names Import x.1)
import_names (Compact2, x) = (refl, list_names Name x.1.1)
