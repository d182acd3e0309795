-- Where the elements of a segment go (document 01, Records, Element: mode, table flag, table, offset span; Items to bytes, Element flag). Assumes nothing.
use Rattle.std.specs.Prelude.{◌≡◌, refl, ◌⊎◌, Bool, true, false, List, ℕ}
use Rattle.std.proofs.Common.{inl, inr}
use Rattle.format.specs.Parsed.{Parsed, fail, got}
use Rattle.format.specs.Format.{Format}
use Rattle.format.specs.Basic.{bit, tag, lit, empty, flag}
use Rattle.format.specs.Combine.{pair, iso}
use Rattle.format.specs.Alternatives.{Heads, is, alt, heads_tag, heads_code, heads_pair}
use Rattle.leb128.proofs.Formats.{u32}
use Rattle.words.specs.Words.{word}
use Rattle.texts.specs.Section.{Section, textless, tagged}
use Rattle.texts.specs.declared.Span.{Span}
use Rattle.parts.specs.Text.{expression}
use Rattle.parts.specs.Both.{both}
use Rattle.modes.specs.declared.Mode.{Mode}
use Rattle.modes.specs.declared.Mode.TheVariants.{Active, Passive, ActiveTable, Declared}
use Rattle.std.specs.Prelude.{Option, None, Some}

-- ---- two words: 2 active, and the table flag; 0 passive or 1 declared, and 0

abbrev pub mode_to : Mode → Bool ⊎ (Bool × Unit {0})
mode_to Active = inl false
mode_to Passive = inr (false, tt)
mode_to ActiveTable = inl true
mode_to Declared = inr (true, tt)

abbrev pub mode_of : Bool ⊎ (Bool × Unit {0}) → Mode
mode_of (inl false) = Active
mode_of (inl true) = ActiveTable
mode_of (inr (false, u)) = Passive
mode_of (inr (true, u)) = Declared

pub mode_of_to : (m : Mode) → mode_of (mode_to m) ≡ m
mode_of_to = elim [ Active ↦ refl | Passive ↦ refl | ActiveTable ↦ refl | Declared ↦ refl ]

pub mode_to_of : (x : Bool ⊎ (Bool × Unit {0})) → mode_to (mode_of x) ≡ x
mode_to_of (inl false) = refl
mode_to_of (inl true) = refl
mode_to_of (inr (false, u)) = refl
mode_to_of (inr (true, u)) = refl

not_two : (b : Bool) → is 2 (bit b) ≡ false
not_two true = refl
not_two false = refl

pub not_active : Heads (pair flag (lit 0)) (is 2) false
not_active = heads_pair flag (lit 0) (is 2) false (heads_code bit (is 2) false not_two)

abbrev pub mode_words : Format Mode
mode_words = iso (alt (is 2) (tag 2 flag) (pair flag (lit 0)) (heads_tag 2 flag (is 2) true refl) not_active) mode_to mode_of mode_of_to mode_to_of

pub mode_ok : (m : Mode) → mode_words.Ok m
mode_ok = elim [ Active ↦ tt | Passive ↦ (tt, tt) | ActiveTable ↦ tt | Declared ↦ (tt, tt) ]

-- what was read of words, as an answer
abbrev pub mode_read : Parsed Mode → Option Mode
mode_read fail = None
mode_read (got m r) = Some m

-- ---- the place: three words, the table and the offset, which are 0 where there is none; in bytes what there is

abbrev pub PlaceOf : Mode → Type 0 → Type 0
PlaceOf Active S = S
PlaceOf Passive S = Unit {0}
PlaceOf ActiveTable S = ℕ × S
PlaceOf Declared S = Unit {0}

abbrev pub nowhere : Section (Unit {0}) (Unit {0})
nowhere = textless (tag 0 (tag 0 (lit 0))) empty (λ u. (λ h. tt, λ h. tt))

abbrev pub table_index : Section ℕ ℕ
table_index = textless word u32 (λ x. (λ h. h, λ h. h))

abbrev pub place : (m : Mode) → Section (PlaceOf m Span) (PlaceOf m (List ℕ))
place Active = tagged 0 expression
place Passive = nowhere
place ActiveTable = both table_index expression
place Declared = nowhere
