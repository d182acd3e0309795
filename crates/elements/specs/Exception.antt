-- The item of a record, and the record of an item (document 01, Items to bytes, Element flag: active without table; Answers by number, Exception). What is
-- written without a table and is not of nullable unshared func has flag 6 and table 0, and comes back with table 0 given. Assumes nothing.
use Rattle.std.specs.Prelude.{◌≡◌, refl, ◌↔◌, Bool, true, false, List, eqb}
use Rattle.std.proofs.Common.{sym, ap, ◌∙◌, arith, eqb-true}
use Rattle.format.specs.Basic.{bit_small}
use Rattle.format.specs.Leads.{some_is}
use Rattle.types.specs.Words.{heap_kind, heap_shared, heap_index, heap_kind_small, ref_to, ref_of, ref_of_to}
use Rattle.types.specs.declared.HeapType.{HeapType}
use Rattle.types.specs.declared.HeapType.TheVariants.{Abstract, Concrete, Exact}
use Rattle.types.specs.declared.RefType.{RefType}
use Rattle.modes.specs.Mode.{PlaceOf}
use Rattle.elements.specs.Members.{MembersOf, funcref}
use Rattle.elements.specs.Segment.{ElementsOf, Segment}
use Rattle.elements.specs.Item.{is_typed, Item}
use Rattle.modes.specs.declared.Mode.{Mode}
use Rattle.modes.specs.declared.Mode.TheVariants.{Active, Passive, ActiveTable, Declared}

-- nullable unshared func, by its word h: kind 0, bit 4 set, bit 5 not
abbrev pub is_funcref : RefType → Bool
is_funcref r = eqb (ref_to r).0 (ref_to funcref).0

-- ---- the item of a record

abbrev pub active_item : {S : Type 0} → Bool → S → RefType → List S → Item S
active_item true o r xs = ((Active, true), (o, xs))
active_item false o r xs = ((ActiveTable, true), ((0, o), (r, xs)))

abbrev pub expressions_item : {S : Type 0} (m : Mode) → PlaceOf m S → RefType × List S → Item S
expressions_item Active o y = active_item (is_funcref y.0) o y.0 y.1
expressions_item Passive p y = ((Passive, true), (p, y))
expressions_item ActiveTable p y = ((ActiveTable, true), (p, y))
expressions_item Declared p y = ((Declared, true), (p, y))

abbrev pub item_from : {S : Type 0} (m : Mode) → PlaceOf m S → (e : Bool) → ElementsOf e S → Item S
item_from m p false xs = ((m, false), (p, xs))
item_from m p true y = expressions_item m p y

abbrev pub item_of : {S : Type 0} → Segment S → Item S
item_of a = item_from a.0 a.1.0 a.1.1.0 a.1.1.1

-- ---- the record of an item

abbrev pub record_from : {S : Type 0} (m : Mode) (e : Bool) → PlaceOf m S → MembersOf e (is_typed m) S → Segment S
record_from m false p xs = (m, (p, (false, xs)))
record_from Active true o xs = (Active, (o, (true, (funcref, xs))))
record_from Passive true p y = (Passive, (p, (true, y)))
record_from ActiveTable true p y = (ActiveTable, (p, (true, y)))
record_from Declared true p y = (Declared, (p, (true, y)))

abbrev pub record_of : {S : Type 0} → Item S → Segment S
record_of x = record_from x.0.0 x.0.1 x.1.0 x.1.1

-- an item is that of its record
pub item_record : {S : Type 0} (x : Item S) → item_of (record_of x) ≡ x
item_record x = go x.0.0 x.0.1 x.1.0 x.1.1
  where
    go : {S : Type 0} (m : Mode) (e : Bool) (p : PlaceOf m S) (y : MembersOf e (is_typed m) S) → item_of (record_from m e p y) ≡ ((m, e), (p, y))
    go m false p xs = refl
    go Active true o xs = refl
    go Passive true p y = refl
    go ActiveTable true p y = refl
    go Declared true p y = refl

-- ---- the exception, and no other

-- an active segment without a table whose expressions are of another type is given table 0
abbrev pub with_table : {S : Type 0} → Bool → S → RefType → List S → Segment S
with_table true o r xs = (Active, (o, (true, (r, xs))))
with_table false o r xs = (ActiveTable, ((0, o), (true, (r, xs))))

abbrev pub exception_from : {S : Type 0} (m : Mode) → PlaceOf m S → (e : Bool) → ElementsOf e S → Segment S
exception_from m p false xs = (m, (p, (false, xs)))
exception_from Active o true y = with_table (is_funcref y.0) o y.0 y.1
exception_from Passive p true y = (Passive, (p, (true, y)))
exception_from ActiveTable p true y = (ActiveTable, (p, (true, y)))
exception_from Declared p true y = (Declared, (p, (true, y)))

abbrev pub exception : {S : Type 0} → Segment S → Segment S
exception a = exception_from a.0 a.1.0 a.1.1.0 a.1.1.1

-- an abstract heap type has no index
index_none : (t : HeapType) → heap_kind t ≡ 0 → heap_index t ≡ 0
index_none (Abstract s a) e = refl
index_none (Concrete x) e = absurd (omega arith)
index_none (Exact x) e = absurd (omega arith)

-- word h is 16 for no other type
pub funcref_only : (r : RefType) → (is_funcref r ≡ true) ↔ (r ≡ funcref)
funcref_only r = (there, λ e. rw e)
  where
    there : is_funcref r ≡ true → r ≡ funcref
    there h =
        let e : (ref_to r).0 ≡ 16 = eqb-true (ref_to r).0 16 h in
        let t = r.heap_type in
        let k : heap_kind t ≡ 0 = omega (arith, heap_kind_small t, bit_small r.nullable, bit_small (heap_shared t)) in
        let x = index_none t k in
        let p : ref_to r ≡ (16, 0) = λ i. (e i, x i) in
        some_is (sym (ref_of_to r) ∙ ap ref_of p)

-- the record of a record's item is the record but for the exception
pub record_item : {S : Type 0} (a : Segment S) → record_of (item_of a) ≡ exception a
record_item a = go a.0 a.1.0 a.1.1.0 a.1.1.1
  where
    active : {S : Type 0} (o : S) (r : RefType) (xs : List S) (b : Bool) → is_funcref r ≡ b → record_of (active_item b o r xs) ≡ with_table b o r xs
    active o r xs true e = ap (λ (k : RefType). (Active, (o, (true, (k, xs))))) (sym ((funcref_only r).0 e))
    active o r xs false e = refl

    go : {S : Type 0} (m : Mode) (p : PlaceOf m S) (e : Bool) (y : ElementsOf e S) → record_of (item_from m p e y) ≡ exception_from m p e y
    go m p false xs = refl
    go Active o true y = active o y.0 y.1 (is_funcref y.0) refl
    go Passive p true y = refl
    go ActiveTable p true y = refl
    go Declared p true y = refl
