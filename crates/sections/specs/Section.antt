-- A section of a module, as frames and the numbers given at finishing make it (WebAssembly Core Specification 3.0, Binary Format, Modules; document 01, Store and module).
-- Assumes nothing.
use Rattle.std.specs.Prelude.{cond, List, ◌∷◌, ◌++◌, ℕ, ◌+◌, eqb, length}
use Rattle.leb128.specs.Leb.{uleb}
use Rattle.frames.specs.Frames.{Frame}
use Rattle.frames.specs.Tally.{items_of, joined}
use Rattle.sections.specs.declared.Given.{Given}

-- what finishing is told: the order list, and numbers, today the data count
pub record Ending : Type 0 where
  pub order : List ℕ
  pub given : Given

abbrev pub ending : List ℕ → Given → Ending
ending order given = record { order = order; given = given }

-- Sections: id, size of the contents in bytes, contents
abbrev pub with_size : List ℕ → List ℕ
with_size contents = uleb (length contents) ++ contents

abbrev pub section : ℕ → List ℕ → List ℕ
section i contents = i ∷ with_size contents

-- Conventions, of several members: how many, as a u32, and then they
abbrev pub vector : List (List ℕ) → List ℕ
vector items = uleb (length items) ++ joined items

-- what stands before items of `total` bytes: the section's id, its size, and the count that it says
abbrev pub head_of : ℕ → ℕ → ℕ → List ℕ
head_of i count total = i ∷ (uleb (length (uleb count) + total) ++ uleb count)

abbrev pub data_count : ℕ
data_count = 12

-- the count that a section says: how many items it has or, of the data count section, the data count
abbrev pub said_of : Given → ℕ → ℕ → ℕ
said_of given i items = cond (eqb i data_count) given.count items

-- a section's items in order of adding; the data count section has the count alone
abbrev pub contents_of : Given → List Frame → ℕ → List ℕ
contents_of given fs i = cond (eqb i data_count) (uleb given.count) (vector (items_of i fs))

abbrev pub section_of : Given → List Frame → ℕ → List ℕ
section_of given fs i = section i (contents_of given fs i)
