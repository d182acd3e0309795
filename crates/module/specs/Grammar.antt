-- Modules as the standard has them (WebAssembly Core Specification 3.0, Binary Format, Modules), their sections by sections/specs/Grammar.antt. The standard has each
-- section once, in one order; document 01 leaves both to the order list, as the crate does. proofs/InGrammar.antt shows that what is finished is one. Assumes nothing.
use Rattle.std.specs.Prelude.{List, [], ◌∷◌, ◌++◌, map, ℕ}
use Rattle.frames.specs.Frames.{Frame, held}
use Rattle.frames.specs.Builder.{frames_in}
use Rattle.frames.specs.declared.State.{State}
use Rattle.sections.specs.Section.{Ending}
use Rattle.sections.specs.Grammar.{Times, Said, AnySection, said_in}

abbrev pub magic : List ℕ
magic = 0x00 ∷ 0x61 ∷ 0x73 ∷ 0x6D ∷ []

abbrev pub version : List ℕ
version = 0x01 ∷ 0x00 ∷ 0x00 ∷ 0x00 ∷ []

-- module ::= magic version section*
pub data Module (B : ℕ → List ℕ → Type 0) : List ℕ → List Said → Type 0 where
  module_is : {n : ℕ} {s : List ℕ} {xs : List Said} → Times (AnySection B) n s xs → Module B (magic ++ (version ++ s)) xs

-- the frames that a store holds
abbrev pub held_in : State → List ℕ → List Frame
held_in state store = held (frames_in state store)

-- what is said by an order list: each section's items are those of its frames, in their order
abbrev pub said_by : Ending → List Frame → List ℕ → List Said
said_by e fs order = map (said_in e.given fs) order
