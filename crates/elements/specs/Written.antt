-- What is written of a record, in the order of its words (document 01, Items to bytes, Element flag): the flag, the place, the type where it is said, the
-- list. Assumes nothing.
use Rattle.std.specs.Prelude.{◌≡◌, Bool, not, List, [], ◌∷◌, ◌++◌, ℕ, min, eqb}
use Rattle.std.proofs.Math.Path.{refl}
use Rattle.std.proofs.Common.{sym}
use Rattle.std.proofs.Math.Bool.{true, false}
use Rattle.format.specs.Lists.{many}
use Rattle.format.specs.Count.{no_refusal}
use Rattle.leb128.proofs.Formats.{u32}
use Rattle.leb128.specs.Leb.{leb, leb_by}
use Rattle.texts.specs.Text.{lowest_of}
use Rattle.texts.specs.declared.Span.{Span}
use Rattle.types.specs.Bytes.{ref_bytes}
use Rattle.types.specs.Words.{ref_to}
use Rattle.types.specs.declared.RefType.{RefType}
use Rattle.parts.specs.Text.{expression}
use Rattle.parts.specs.Listed.{texts_of, listed}
use Rattle.parts.specs.Writing as writing
use Rattle.modes.specs.Mode.{PlaceOf, place}
use Rattle.elements.specs.Members.{funcref}
use Rattle.elements.specs.Segment.{ElementsOf, Elements}
use Rattle.elements.specs.Item.{flag_of, body, bytes}
use Rattle.elements.specs.Exception.{is_funcref, active_item}
use Rattle.elements.specs.Section.{element_section, resolved}
use Rattle.modes.specs.declared.Mode.{Mode}
use Rattle.modes.specs.declared.Mode.TheVariants.{Active, Passive, ActiveTable, Declared}

-- active without a table, expressions, and word h of another type than nullable unshared func
abbrev pub is_other : Mode → Bool → ℕ → Bool
is_other Active true h = not (eqb h (ref_to funcref).0)
is_other Active false h = false
is_other Passive e h = false
is_other ActiveTable e h = false
is_other Declared e h = false

-- the flag; where the type is another, flag 6 and table 0
abbrev pub head_of : Bool → Mode → Bool → List ℕ
head_of true m e = 6 ∷ 0 ∷ []
head_of false m e = flag_of m e ∷ []

-- the type is said
abbrev pub is_said : Bool → Mode → Bool
is_said other Active = other
is_said other Passive = true
is_said other ActiveTable = true
is_said other Declared = true

abbrev pub functions_of : Bool → List ℕ → List ℕ
functions_of true xs = 0x00 ∷ (many u32 u32).print xs
functions_of false xs = (many u32 u32).print xs

abbrev pub type_of : Bool → RefType → List ℕ
type_of true r = ref_bytes.print r
type_of false r = []

abbrev pub expressions_of : Bool → List ℕ → RefType × List Span → List ℕ
expressions_of said t y = type_of said y.0 ++ writing.item_of (listed expression) t y.1

abbrev pub expressions_low : List ℕ → RefType × List Span → ℕ
expressions_low t y = writing.low_of (listed expression) t y.1

abbrev pub elements_from : Bool → List ℕ → (e : Bool) → ElementsOf e Span → List ℕ
elements_from said t false xs = functions_of said xs
elements_from said t true y = expressions_of said t y

abbrev pub elements_of : Bool → List ℕ → Elements Span → List ℕ
elements_of said t x = elements_from said t x.0 x.1

abbrev pub low_from : List ℕ → (e : Bool) → ElementsOf e Span → ℕ
low_from t false xs = no_refusal
low_from t true y = expressions_low t y

abbrev pub elements_low : List ℕ → Elements Span → ℕ
elements_low t x = low_from t x.0 x.1

-- word h of a record
abbrev pub head_word : (e : Bool) → ElementsOf e Span → ℕ
head_word false xs = 0
head_word true y = (ref_to y.0).0

-- together they are the item
module _ (t : List ℕ) where
  abbrev written : (m : Mode) → PlaceOf m Span → (e : Bool) → ElementsOf e Span → Bool → List ℕ
  written m p e y o = head_of o m e ++ (writing.item_of (place m) t p ++ elements_from (is_said o m) t e y)

  active : (o : Span) (r : RefType) (xs : List Span) (b : Bool) → written Active o true (r, xs) (not b) ≡ bytes.print (resolved t (active_item b o r xs))
  unfolding leb leb_by
  active o r xs true = refl
  active o r xs false = refl

  pub item_written : (m : Mode) (p : PlaceOf m Span) (e : Bool) (y : ElementsOf e Span)
      → written m p e y (is_other m e (head_word e y)) ≡ writing.item_of element_section t (m, (p, (e, y)))
  item_written Active p false y = refl
  item_written Passive p false y = refl
  item_written ActiveTable p false y = refl
  item_written Declared p false y = refl
  item_written Active p true y = active p y.0 y.1 (is_funcref y.0)
  item_written Passive p true y = refl
  item_written ActiveTable p true y = refl
  item_written Declared p true y = refl

  -- and they draw what it does
  active_low : (o : Span) (r : RefType) (xs : List Span) (b : Bool)
      → min (writing.low_of (place Active) t o) (expressions_low t (r, xs)) ≡ lowest_of t ((body (active_item b o r xs).0).texts (active_item b o r xs).1)
  active_low o r xs true = sym (writing.lowest_both t (expression.texts o) (texts_of expression xs))
  active_low o r xs false = sym (writing.lowest_both t (expression.texts o) (texts_of expression xs))

  pub low_written : (m : Mode) (p : PlaceOf m Span) (e : Bool) (y : ElementsOf e Span)
      → min (writing.low_of (place m) t p) (low_from t e y) ≡ writing.low_of element_section t (m, (p, (e, y)))
  low_written Active p false y = sym (writing.lowest_both t ((place Active).texts p) [])
  low_written Passive p false y = refl
  low_written ActiveTable p false y = sym (writing.lowest_both t ((place ActiveTable).texts p) [])
  low_written Declared p false y = refl
  low_written Active p true y = active_low p y.0 y.1 (is_funcref y.0)
  low_written Passive p true y = writing.lowest_behind t (texts_of expression y.1)
  low_written ActiveTable p true y = sym (writing.lowest_both t ((place ActiveTable).texts p) (texts_of expression y.1))
  low_written Declared p true y = writing.lowest_behind t (texts_of expression y.1)
