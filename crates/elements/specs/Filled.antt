-- Records with the bytes that their spans hold (document 01, Answers by number, Reading): the record that is read of an item holds the same bytes as the one
-- that was added, but for the one exception. Assumes nothing.
use Rattle.std.specs.Prelude.{◌≡◌, refl, Bool, true, false, List, ◌++◌, ℕ, length}
use Rattle.std.proofs.Common.{sym, ap, ◌∙◌}
use Rattle.texts.specs.Text.{slice_of}
use Rattle.texts.specs.declared.Span.{Span}
use Rattle.types.specs.declared.RefType.{RefType}
use Rattle.parts.specs.Listed.{each}
use Rattle.modes.specs.Mode.{PlaceOf, place}
use Rattle.elements.specs.Members.{MembersOf}
use Rattle.elements.specs.Segment.{ElementsOf, Segment}
use Rattle.elements.specs.Item.{is_typed, Item, bytes}
use Rattle.elements.specs.Exception.{is_funcref, active_item, item_from, item_of, record_from, record_of, item_record, exception, record_item}
use Rattle.elements.specs.Section.{resolved, located, resolve_located}
use Rattle.modes.specs.declared.Mode.{Mode}
use Rattle.modes.specs.declared.Mode.TheVariants.{Active, Passive, ActiveTable, Declared}

abbrev pub filled_elements : List ℕ → (e : Bool) → ElementsOf e Span → ElementsOf e (List ℕ)
filled_elements t false xs = xs
filled_elements t true y = (y.0, each (slice_of t) y.1)

-- each span as what it holds in the text
abbrev pub filled : List ℕ → Segment Span → Segment (List ℕ)
filled t a = (a.0, ((place a.0).resolve t a.1.0, (a.1.1.0, filled_elements t a.1.1.0 a.1.1.1)))

module _ (t : List ℕ) where
  active : (o : Span) (r : RefType) (xs : List Span) (b : Bool) → resolved t (active_item b o r xs) ≡ active_item b (slice_of t o) r (each (slice_of t) xs)
  active o r xs true = refl
  active o r xs false = refl

  -- the item is that of the record with its bytes
  pub item_filled : (a : Segment Span) → resolved t (item_of a) ≡ item_of (filled t a)
  item_filled a = go a.0 a.1.0 a.1.1.0 a.1.1.1
    where
      go : (m : Mode) (p : PlaceOf m Span) (e : Bool) (y : ElementsOf e Span)
          → resolved t (item_from m p e y) ≡ item_from m ((place m).resolve t p) e (filled_elements t e y)
      go Active p false y = refl
      go Passive p false y = refl
      go ActiveTable p false y = refl
      go Declared p false y = refl
      go Active p true y = active p y.0 y.1 (is_funcref y.0)
      go Passive p true y = refl
      go ActiveTable p true y = refl
      go Declared p true y = refl

  pub record_filled : (x : Item Span) → filled t (record_of x) ≡ record_of (resolved t x)
  record_filled x = go x.0.0 x.0.1 x.1.0 x.1.1
    where
      go : (m : Mode) (e : Bool) (p : PlaceOf m Span) (y : MembersOf e (is_typed m) Span) → filled t (record_from m e p y) ≡ record_of (resolved t ((m, e), (p, y)))
      go Active false p y = refl
      go Passive false p y = refl
      go ActiveTable false p y = refl
      go Declared false p y = refl
      go Active true p y = refl
      go Passive true p y = refl
      go ActiveTable true p y = refl
      go Declared true p y = refl

-- the record of an item holds its bytes where it points into them
pub read_filled : (q r : List ℕ) (x : Item (List ℕ)) → bytes.Ok x → filled (q ++ (bytes.print x ++ r)) (record_of (located (length q) x)) ≡ record_of x
read_filled q r x ok =
    let s = q ++ (bytes.print x ++ r) in
    let y = located (length q) x in
    record_filled s y ∙ ap record_of (ap (resolved s) (sym (item_record y)) ∙ resolve_located q r x ok)

-- and that of an added record's item is the record, with its bytes, but for the exception
pub added_filled : (t : List ℕ) (a : Segment Span) → record_of (resolved t (item_of a)) ≡ exception (filled t a)
added_filled t a = ap record_of (item_filled t a) ∙ record_item (filled t a)
