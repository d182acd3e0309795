-- Imports as words and as bytes, by computation: each form, and an empty name. Assumes nothing.
use Rattle.std.specs.Prelude.{◌≡◌, refl, List, [], ◌∷◌, ℕ}
use Rattle.leb128.specs.Leb.{leb, leb_by}
use Rattle.texts.specs.declared.Span.{Span}
use Rattle.tables.specs.TagType.{exception_of}
use Rattle.imports.specs.Entity.{entity_bytes}
use Rattle.imports.specs.Forms.{words}
use Rattle.imports.specs.Compact.{bytes}
use Rattle.imports.specs.declared.EntityType.TheVariants.{Function, Tag, FunctionExact}
use Rattle.imports.specs.declared.Form.TheVariants.{Single, Compact1, Compact2}

-- the module "m", the name "f"
abbrev m : List ℕ
m = 0x6D ∷ []

abbrev f : List ℕ
f = 0x66 ∷ []

abbrev at : ℕ → Span
at n = record { start = n; len = 1 }

pub records : (words.print (Single, (at 0, (at 1, Function 7))) ≡ 0 ∷ 0 ∷ 1 ∷ 1 ∷ 1 ∷ 0 ∷ 7 ∷ [])
    × (words.print (Compact1, (at 0, (at 1, FunctionExact 7) ∷ [])) ≡ 1 ∷ 0 ∷ 1 ∷ 1 ∷ 1 ∷ 1 ∷ 32 ∷ 7 ∷ [])
    × (words.print (Compact2, (at 0, (Tag (exception_of 7), at 1 ∷ at 2 ∷ []))) ≡ 2 ∷ 0 ∷ 1 ∷ 4 ∷ 7 ∷ 2 ∷ 1 ∷ 1 ∷ 2 ∷ 1 ∷ [])
records = (refl, refl, refl)

pub entities : (entity_bytes.print (Function 7) ≡ 0x00 ∷ 0x07 ∷ [])
    × (entity_bytes.print (FunctionExact 7) ≡ 0x20 ∷ 0x07 ∷ [])
    × (entity_bytes.print (Tag (exception_of 7)) ≡ 0x04 ∷ 0x00 ∷ 0x07 ∷ [])
unfolding leb leb_by
entities = (refl, refl, refl)

-- single; single with an empty name, 00 and then the sort; 00 7F and a list; 00 7E, the entity and names
pub items : (bytes.print (Single, (m, (f, Function 7))) ≡ 0x01 ∷ 0x6D ∷ 0x01 ∷ 0x66 ∷ 0x00 ∷ 0x07 ∷ [])
    × (bytes.print (Single, (m, ([], Function 7))) ≡ 0x01 ∷ 0x6D ∷ 0x00 ∷ 0x00 ∷ 0x07 ∷ [])
    × (bytes.print (Compact1, (m, (f, Function 7) ∷ [])) ≡ 0x01 ∷ 0x6D ∷ 0x00 ∷ 0x7F ∷ 0x01 ∷ 0x01 ∷ 0x66 ∷ 0x00 ∷ 0x07 ∷ [])
    × (bytes.print (Compact2, (m, (Function 7, f ∷ [] ∷ []))) ≡ 0x01 ∷ 0x6D ∷ 0x00 ∷ 0x7E ∷ 0x00 ∷ 0x07 ∷ 0x02 ∷ 0x01 ∷ 0x66 ∷ 0x00 ∷ [])
unfolding leb leb_by
items = (refl, refl, refl, refl)
