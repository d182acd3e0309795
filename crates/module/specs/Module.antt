-- The module that frames and what finishing is told make (WebAssembly Core Specification 3.0, Binary Format, Modules;
-- document 01, Store and module). Assumes nothing.
use Rattle.std.specs.Prelude.{◌≡◌, refl, List, [], ◌∷◌, ◌++◌, ℕ, ◌≤◌, length}
use Rattle.std.proofs.Common.{ap, arith, length-append}
use Rattle.format.specs.Lists.{prints}
use Rattle.frames.specs.Frames.{Frame}
use Rattle.frames.specs.Tally.{items_of}
use Rattle.sections.specs.Section.{Ending, section_of}

-- Modules: magic, version
abbrev pub header : List ℕ
header = 0x00 ∷ 0x61 ∷ 0x73 ∷ 0x6D ∷ 0x01 ∷ 0x00 ∷ 0x00 ∷ 0x00 ∷ []

unfoldable pub module_of : Ending → List Frame → List ℕ
module_of e fs = header ++ prints (section_of e.given fs) e.order

-- it depends on the frames by each section's items alone
pub module_same : (e : Ending) (fs gs : List Frame) → ((i : ℕ) → items_of i fs ≡ items_of i gs) → module_of e fs ≡ module_of e gs
unfolding module_of
module_same e fs gs h = ap (λ (l : List ℕ). header ++ l) (go e.order)
  where
    go : (o : List ℕ) → prints (section_of e.given fs) o ≡ prints (section_of e.given gs) o
    go [] = refl
    go (i ∷ o) = rw (h i, go o)

-- it has its header
pub module_least : (e : Ending) (fs : List Frame) → 8 ≤ length (module_of e fs)
unfolding module_of
module_least e fs = omega (arith, length-append header (prints (section_of e.given fs) e.order))
