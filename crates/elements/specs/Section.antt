-- The element section as a section (document 01, Records; Items to bytes; Answers by number, Reading): each flag's items are made of parts. Assumes nothing.
use Rattle.std.specs.Prelude.{◌≡◌, refl, Bool, true, false, List, [], ◌∷◌, ◌++◌, ℕ, ◌+◌, ◌≤◌, length}
use Rattle.std.proofs.Common.{sym, ap, subst, ◌∙◌, arith, length-append}
use Rattle.format.specs.Lists.{All}
use Rattle.texts.specs.Allowed.{Allowed}
use Rattle.texts.specs.Judge.{text_most}
use Rattle.texts.specs.Section as section
use Rattle.texts.specs.declared.Span.{Span}
use Rattle.types.specs.declared.RefType.{RefType}
use Rattle.parts.specs.Both.{second_stood, at_second}
use Rattle.modes.specs.Mode.{mode_words, mode_ok, PlaceOf}
use Rattle.elements.specs.Members.{MembersOf}
use Rattle.elements.specs.Segment.{ElementsOf, Segment, words}
use Rattle.elements.specs.Item.{code, is_typed, Item, body, bytes}
use Rattle.elements.specs.Exception.{is_funcref, active_item, item_from, item_of, record_from, record_of, item_record}
use Rattle.modes.specs.declared.Mode.{Mode}
use Rattle.modes.specs.declared.Mode.TheVariants.{Active, Passive, ActiveTable, Declared}

-- ---- the record of an item can be printed where its parts can, and it prints their words

pub record_prints : (x : Item Span) → words.print (record_of x) ≡ mode_words.print x.0.0 ++ (body x.0).words.print x.1
record_prints x = go x.0.0 x.0.1 x.1.0 x.1.1
  where
    go : (m : Mode) (e : Bool) (p : PlaceOf m Span) (y : MembersOf e (is_typed m) Span)
        → words.print (record_from m e p y) ≡ mode_words.print m ++ (body (m, e)).words.print (p, y)
    go Active false p y = refl
    go Passive false p y = refl
    go ActiveTable false p y = refl
    go Declared false p y = refl
    go Active true p y = refl
    go Passive true p y = refl
    go ActiveTable true p y = refl
    go Declared true p y = refl

pub record_ok : (x : Item Span) → (body x.0).words.Ok x.1 → words.Ok (record_of x)
record_ok x = go x.0.0 x.0.1 x.1.0 x.1.1
  where
    go : (m : Mode) (e : Bool) (p : PlaceOf m Span) (y : MembersOf e (is_typed m) Span) → (body (m, e)).words.Ok (p, y) → words.Ok (record_from m e p y)
    go Active false p y h = (mode_ok Active, (h.0, (tt, h.1)))
    go Passive false p y h = (mode_ok Passive, (h.0, (tt, h.1)))
    go ActiveTable false p y h = (mode_ok ActiveTable, (h.0, (tt, h.1)))
    go Declared false p y h = (mode_ok Declared, (h.0, (tt, h.1)))
    go Active true p y h = (mode_ok Active, (h.0, (tt, (omega arith, h.1))))
    go Passive true p y h = (mode_ok Passive, (h.0, (tt, h.1)))
    go ActiveTable true p y h = (mode_ok ActiveTable, (h.0, (tt, h.1)))
    go Declared true p y h = (mode_ok Declared, (h.0, (tt, h.1)))

-- ---- the item of a record can, and its own record has as many words

active_ok : (o : Span) (r : RefType) (xs : List Span) (b : Bool) → words.Ok (Active, (o, (true, (r, xs)))) → (body (active_item b o r xs).0).words.Ok (active_item b o r xs).1
active_ok o r xs true h = (h.1.0, h.1.1.1.1)
active_ok o r xs false h = ((omega arith, h.1.0), h.1.1.1)

pub item_ok : (a : Segment Span) → words.Ok a → (body (item_of a).0).words.Ok (item_of a).1
item_ok a = go a.0 a.1.0 a.1.1.0 a.1.1.1
  where
    go : (m : Mode) (p : PlaceOf m Span) (e : Bool) (y : ElementsOf e Span) → words.Ok (m, (p, (e, y))) → (body (item_from m p e y).0).words.Ok (item_from m p e y).1
    go Active p false y h = (h.1.0, h.1.1.1)
    go Passive p false y h = (h.1.0, h.1.1.1)
    go ActiveTable p false y h = (h.1.0, h.1.1.1)
    go Declared p false y h = (h.1.0, h.1.1.1)
    go Active p true y h = active_ok p y.0 y.1 (is_funcref y.0) h
    go Passive p true y h = (h.1.0, h.1.1.1)
    go ActiveTable p true y h = (h.1.0, h.1.1.1)
    go Declared p true y h = (h.1.0, h.1.1.1)

active_long : (o : Span) (r : RefType) (xs : List Span) (b : Bool) → length (words.print (record_of (active_item b o r xs))) ≡ length (words.print (Active, (o, (true, (r, xs)))))
active_long o r xs true = refl
active_long o r xs false = refl

pub same_long : (a : Segment Span) → length (words.print (record_of (item_of a))) ≡ length (words.print a)
same_long a = go a.0 a.1.0 a.1.1.0 a.1.1.1
  where
    go : (m : Mode) (p : PlaceOf m Span) (e : Bool) (y : ElementsOf e Span) → length (words.print (record_of (item_from m p e y))) ≡ length (words.print (m, (p, (e, y))))
    go m p false y = refl
    go Active p true y = active_long p y.0 y.1 (is_funcref y.0)
    go Passive p true y = refl
    go ActiveTable p true y = refl
    go Declared p true y = refl

-- ---- the section

abbrev pub resolved : List ℕ → Item Span → Item (List ℕ)
resolved t x = (x.0, (body x.0).resolve t x.1)

-- the item begins at n: its flag stands there
abbrev pub located : ℕ → Item (List ℕ) → Item Span
located n x = (x.0, (body x.0).locate (n + 1) x.1)

module _ (q r : List ℕ) (x : Item (List ℕ)) (ok : bytes.Ok x) where
  abbrev flag : List ℕ
  flag = code x.0 ∷ []

  abbrev rest : List ℕ
  rest = (body x.0).bytes.print x.1

  pub resolve_located : resolved (q ++ (bytes.print x ++ r)) (item_of (record_of (located (length q) x))) ≡ x
  resolve_located =
      let s = q ++ (bytes.print x ++ r) in
      let e = at_second q flag rest r (λ (l : List ℕ) (n : ℕ). (body x.0).resolve l ((body x.0).locate n x.1) ≡ x.1) ((body x.0).located (q ++ flag) r x.1 ok.1) in
      ap (resolved s) (item_record (located (length q) x)) ∙ (λ i. (x.0, e i))

  pub located_ok : length (q ++ (bytes.print x ++ r)) ≤ text_most → words.Ok (record_of (located (length q) x))
  located_ok h =
      record_ok (located (length q) x)
      (subst (λ (n : ℕ). (body x.0).words.Ok ((body x.0).locate n x.1)) (length-append q flag)
      ((body x.0).locate_ok (q ++ flag) r x.1 ok.1 (subst (λ (s : List ℕ). length s ≤ text_most) (sym (second_stood q flag rest r)) h)))

  pub located_texts : let y = item_of (record_of (located (length q) x)) in All (Allowed (q ++ (bytes.print x ++ r))) ((body y.0).texts y.1)
  located_texts =
      subst (λ (y : Item Span). All (Allowed (q ++ (bytes.print x ++ r))) ((body y.0).texts y.1)) (sym (item_record (located (length q) x)))
      (at_second q flag rest r (λ (s : List ℕ) (n : ℕ). All (Allowed s) ((body x.0).texts ((body x.0).locate n x.1))) ((body x.0).locate_texts (q ++ flag) r x.1 ok.1))

pub same_words : (t : List ℕ) (a : Segment Span) (n : ℕ) → length (words.print (record_of (located n (resolved t (item_of a))))) ≡ length (words.print a)
same_words t a n =
    let x = item_of a in
    let long : (y : Item Span) → length (words.print (record_of y)) ≡ length (mode_words.print y.0.0) + length ((body y.0).words.print y.1) =
    λ y. ap length (record_prints y) ∙ length-append (mode_words.print y.0.0) ((body y.0).words.print y.1) in
    long (located n (resolved t x))
    ∙ ap (λ (k : ℕ). length (mode_words.print x.0.0) + k) ((body x.0).same_words t x.1 (n + 1))
    ∙ sym (long x)
    ∙ same_long a

abbrev pub element_section : section.Section (Segment Span) (Item (List ℕ))
element_section =
    record {
      words = words;
      texts = λ a. (body (item_of a).0).texts (item_of a).1;
      bytes = bytes;
      resolve = λ t a. resolved t (item_of a);
      locate = λ n x. record_of (located n x);
      located = resolve_located;
      locate_ok = located_ok;
      locate_texts = located_texts;
      resolve_ok = λ t a ok h. (tt, (body (item_of a).0).resolve_ok t (item_of a).1 (item_ok a ok) h);
      same_words = same_words;
    }
