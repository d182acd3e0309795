-- Element segments as items (document 01, Items to bytes, Element flag: passive 1, declared 3, active 0 or 2, plus 4 for expressions; Core Specification 3.0,
-- Binary Format, Modules, Element Section). Assumes nothing.
use Rattle.std.specs.Prelude.{◌≡◌, refl, Bool, true, false, List, [], ◌∷◌, ℕ, ◌<◌}
use Rattle.std.proofs.Math.Option.{some}
use Rattle.std.proofs.Common.{lit<}
use Rattle.format.specs.Format.{Format}
use Rattle.format.specs.Basic.{find, table}
use Rattle.format.specs.Combine.{dep}
use Rattle.texts.specs.Section.{Section}
use Rattle.texts.specs.declared.Span.{Span}
use Rattle.parts.specs.Both.{both}
use Rattle.modes.specs.Mode.{PlaceOf, place}
use Rattle.elements.specs.Members.{MembersOf, members}
use Rattle.modes.specs.declared.Mode.{Mode}
use Rattle.modes.specs.declared.Mode.TheVariants.{Active, Passive, ActiveTable, Declared}

-- a mode, and whether expressions are listed
abbrev pub Flag : Type 0
Flag = Mode × Bool

abbrev pub flag_of : Mode → Bool → ℕ
flag_of Active false = 0
flag_of Passive false = 1
flag_of ActiveTable false = 2
flag_of Declared false = 3
flag_of Active true = 4
flag_of Passive true = 5
flag_of ActiveTable true = 6
flag_of Declared true = 7

abbrev pub code : Flag → ℕ
code f = flag_of f.0 f.1

abbrev pub flags : List Flag
flags =
    (Active, false) ∷ (Passive, false) ∷ (ActiveTable, false) ∷ (Declared, false) ∷ (Active, true) ∷ (Passive, true) ∷ (ActiveTable, true) ∷ (Declared, true) ∷ []

pub flag_small : (f : Flag) → code f < 8
flag_small f = go f.0 f.1
  where
    go : (m : Mode) (e : Bool) → flag_of m e < 8
    go Active false = lit< tt
    go Passive false = lit< tt
    go ActiveTable false = lit< tt
    go Declared false = lit< tt
    go Active true = lit< tt
    go Passive true = lit< tt
    go ActiveTable true = lit< tt
    go Declared true = lit< tt

pub flag_full : (f : Flag) → find code flags (code f) ≡ some f
flag_full f = go f.0 f.1
  where
    go : (m : Mode) (e : Bool) → find code flags (flag_of m e) ≡ some (m, e)
    go Active false = refl
    go Passive false = refl
    go ActiveTable false = refl
    go Declared false = refl
    go Active true = refl
    go Passive true = refl
    go ActiveTable true = refl
    go Declared true = refl

abbrev pub flag_byte : Format Flag
flag_byte = table 8 code flags flag_small flag_full

-- the type is said, as 00 for functions, but for flags 0 and 4
abbrev pub is_typed : Mode → Bool
is_typed Active = false
is_typed Passive = true
is_typed ActiveTable = true
is_typed Declared = true

abbrev pub BodyOf : Flag → Type 0 → Type 0
BodyOf f S = PlaceOf f.0 S × MembersOf f.1 (is_typed f.0) S

abbrev pub Item : Type 0 → Type 0
Item S = (f : Flag) × BodyOf f S

abbrev pub body : (f : Flag) → Section (BodyOf f Span) (BodyOf f (List ℕ))
body f = both (place f.0) (members f.1 (is_typed f.0))

abbrev pub bytes : Format (Item (List ℕ))
bytes = dep flag_byte (λ f. (body f).bytes)
