-- Reading and adding, for the records of all sections (document 01, Answers by number): each section's records are among them. Assumes nothing.
use Rattle.std.specs.Prelude.{◌≡◌, ◌↔◌, Bool, ℕ, suc, ◌≤◌, leb, length}
use Rattle.std.proofs.Math.Path.{refl}
use Rattle.std.proofs.Common.{sym, ap, subst, ◌∙◌}
use Rattle.std.proofs.Math.Bool.{true, false, cond}
use Rattle.std.proofs.Math.Option.{Option, none, some}
use mathlib.Core.List.{List, [], ◌∷◌, ◌++◌, append-nil}
use Rattle.format.specs.Parsed.{Parsed, fail, got, got_value, got_rest, fail_got, bind, map, map_inv}
use Rattle.format.specs.Basic.{find, find_only}
use Rattle.frames.specs.Ids.{id_of, ids, id_full}
use Rattle.frames.specs.declared.SectionId.{SectionId}
use Rattle.texts.specs.Judge.{words_most, text_most, record_in, item_in, why, record_inv}
use Rattle.texts.specs.Section.{Section, tagged, read_words, readable, Among}
use Rattle.texts.proofs.Reading as reading
use Rattle.texts.specs.declared.Span.{Span}
use Rattle.items.specs.Families.{family}
use Rattle.items.specs.Exception.{filled, exception}
use Rattle.items.specs.Record.{Body, ItemOf, section, Record, Item, words, texts_of, item_of, records, resolved, record_of, items_of, is_short, begins_in, read_in}

-- ---- one section among all

module _ (i : SectionId) where
  abbrev whole : Section (Body i Span) (ItemOf i)
  whole = tagged (id_of i) (section i)

  unfoldable whole_among : Among whole records
  unfolding words texts_of item_of
  whole_among = record { into = λ a. (i, a); ok = λ a. (λ h. h.1, λ h. (tt, h)); prints = λ a. refl; texts = λ a. refl; item = λ t a. refl }

  -- what is read of it is what is read of that section
  read_one : (s : List ℕ) → bind (items_of (some i) s) is_short ≡ map (λ x. (i, x)) ((readable whole).parse s)
  unfolding record_of
  read_one s = go ((section i).bytes.parse s)
    where
      short : (x : ItemOf i) (r : List ℕ) (c : Bool) → cond c (got (i, x) r) fail ≡ map {B = Item} (λ x. (i, x)) (cond c (got x r) fail)
      short x r true = refl
      short x r false = refl

      go : (m : Parsed (ItemOf i))
          → bind (map {B = Item} (λ x. (i, x)) m) is_short
          ≡ map {B = Item} (λ x. (i, x)) (bind m (λ x r. cond (leb (length (read_words whole x)) words_most) (got x r) fail))
      go fail = refl
      go (got x r) = short x r (leb (length (record_of (i, x))) words_most)

-- ---- all sections

-- what was added is read, whatever follows
pub add_reads : (w t : List ℕ) (a : Record Span) (r : List ℕ) → record_in records w ≡ some a → why records w t ≡ 0
    → read_in (id_of a.0) (item_in records w t ++ r) ≡ got (resolved t a) r
unfolding whole_among begins_in
add_reads w t a r p y =
    ap (λ (o : Option SectionId). bind (items_of o (item_in records w t ++ r)) is_short) (id_full a.0)
    ∙ read_one a.0 (item_in records w t ++ r)
    ∙ ap (map {B = Item} (λ x. (a.0, x))) (reading.add_reads (whole a.0) records (whole_among a.0) w t a.1 p y r)

-- the record of an item, with its bytes
abbrev held_by : Item → Record (List ℕ)
held_by x = (x.0, (family x.0).record_of x.1)

-- as many words are read as were added
pub as_many : (w t : List ℕ) (a : Record Span) → record_in records w ≡ some a → length (record_of (resolved t a)) ≡ length w
unfolding words record_of
as_many w t a p =
    let q : w ≡ id_of a.0 ∷ (section a.0).words.print a.1 = (record_inv records w a p).1 in
    ap suc ((section a.0).same_words t a.1 0) ∙ sym (ap length q)

-- adding the record that is read, with the bytes themselves as its text, writes the bytes that were taken
pub record ReadAdds (id : ℕ) (s : List ℕ) (x : Item) (r : List ℕ) : Type 0 where
  pub value : Record Span
  pub is : record_in records (record_of x) ≡ some value
  pub section : id_of value.0 ≡ id
  pub same : resolved s value ≡ x
  pub holds : filled s value ≡ (x.0, (family x.0).record_of x.1)
  pub accepted : why records (record_of x) s ≡ 0
  pub item : item_in records (record_of x) s ++ r ≡ s

one_adds : (i : SectionId) (s : List ℕ) (x : ItemOf i) (r : List ℕ) → (readable (whole i)).parse s ≡ got x r → length s ≤ text_most → ReadAdds (id_of i) s (i, x) r
unfolding whole_among record_of
one_adds i s x r e h =
    let g = reading.read_adds (whole i) records (whole_among i) s x r e h in
    let o = (readable (whole i)).only s x r e in
    let back : (section i).resolve s ((section i).locate 0 x) ≡ x = ap (λ (l : List ℕ). (section i).resolve l ((section i).locate 0 x)) o.1 ∙ (section i).located [] r x o.0.0 in
    let held : (family i).filled s ((section i).locate 0 x) ≡ (family i).record_of x = ap (λ (l : List ℕ). (family i).filled l ((section i).locate 0 x)) o.1 ∙ (family i).read_filled [] r x o.0.0 in
    record {
      value = (i, (section i).locate 0 x);
      is = g.is;
      section = refl;
      same = λ k. (i, back k);
      holds = λ k. (i, held k);
      accepted = g.accepted;
      item = ap (λ (l : List ℕ). l ++ r) g.item ∙ sym o.1;
    }

pub read_adds : (id : ℕ) (s : List ℕ) (x : Item) (r : List ℕ) → read_in id s ≡ got x r → length s ≤ text_most → ReadAdds id s x r
unfolding begins_in
read_adds id s x r e h = go (find id_of ids id) refl e
  where
    go : (o : Option SectionId) → find id_of ids id ≡ o → bind (items_of o s) is_short ≡ got x r → ReadAdds id s x r
    go none p q = absurd (fail_got _ x r refl q)
    go (some i) p q =
        let j = map_inv {B = Item} (λ y. (i, y)) ((readable (whole i)).parse s) x r (sym (read_one i s) ∙ q) in
        subst (λ (k : ℕ). ReadAdds k s x r) (sym (find_only id_of ids id i p)) (subst (λ (y : Item). ReadAdds (id_of i) s y r) j.2 (one_adds i s j.0 r j.1 h))

-- nothing is read exactly where no item of the section begins
pub none_begins : (id : ℕ) (s : List ℕ) → length s ≤ text_most
    → (read_in id s ≡ fail)
    ↔ ((w t r : List ℕ) (a : Record Span) → record_in records w ≡ some a → id_of a.0 ≡ id → why records w t ≡ 0 → s ≡ item_in records w t ++ r → ⊥)
none_begins id s h = (there, go (read_in id s) refl)
  where
    there : read_in id s ≡ fail → (w t r : List ℕ) (a : Record Span) → record_in records w ≡ some a → id_of a.0 ≡ id → why records w t ≡ 0
        → s ≡ item_in records w t ++ r → ⊥
    there e w t r a p i y q = fail_got (read_in id s) (resolved t a) r e (rw (← i, q) (add_reads w t a r p y))

    go : (m : Parsed Item) → read_in id s ≡ m
        → ((w t r : List ℕ) (a : Record Span) → record_in records w ≡ some a → id_of a.0 ≡ id → why records w t ≡ 0 → s ≡ item_in records w t ++ r → ⊥) → m ≡ fail
    go fail e n = refl
    go (got x r) e n = let g = read_adds id s x r e h in absurd (n (record_of x) s r g.value g.is g.section g.accepted (sym g.item))

-- an added record's item holds what the record holds in its text, but for the one exception
item_holds : (t : List ℕ) (a : Record Span) → held_by (resolved t a) ≡ exception (filled t a)
item_holds t a = let e = (family a.0).added_filled t a.1 in λ k. (a.0, e k)

-- and so does what is read of it there
pub record Back (t : List ℕ) (a : Record Span) (s : List ℕ) (words : List ℕ) : Type 0 where
  pub value : Record Span
  pub is : record_in records words ≡ some value
  pub same : filled s value ≡ exception (filled t a)

pub added_back : (w t : List ℕ) (a : Record Span) (r : List ℕ) → record_in records w ≡ some a → why records w t ≡ 0 → length (item_in records w t ++ r) ≤ text_most
    → Back t a (item_in records w t ++ r) (record_of (resolved t a))
added_back w t a r p y h =
    let s = item_in records w t ++ r in
    let g = read_adds (id_of a.0) s (resolved t a) r (add_reads w t a r p y) h in
    record { value = g.value; is = g.is; same = g.holds ∙ item_holds t a }

-- equal items of a section come from records that hold the same, wherever their spans lie, but for the exception
pub same_items : (w t v u : List ℕ) (a b : Record Span) → record_in records w ≡ some a → why records w t ≡ 0 → record_in records v ≡ some b → why records v u ≡ 0
    → a.0 ≡ b.0 → item_in records w t ≡ item_in records v u → exception (filled t a) ≡ exception (filled u b)
same_items w t v u a b p y q z same e =
    let f : read_in (id_of a.0) (item_in records w t ++ []) ≡ got (resolved t a) [] = add_reads w t a [] p y in
    let g : read_in (id_of b.0) (item_in records v u ++ []) ≡ got (resolved u b) [] = add_reads v u b [] q z in
    let x : resolved t a ≡ resolved u b = got_value (sym f ∙ ap (λ (k : SectionId). read_in (id_of k) (item_in records w t ++ [])) same ∙ ap (λ (l : List ℕ). read_in (id_of b.0) (l ++ [])) e ∙ g) in
    sym (item_holds t a) ∙ ap held_by x ∙ item_holds u b

-- no item of a section is the beginning of another one
pub none_longer : (w t w' t' : List ℕ) (a b : Record Span) (r : List ℕ) → record_in records w ≡ some a → why records w t ≡ 0 → record_in records w' ≡ some b
    → why records w' t' ≡ 0 → a.0 ≡ b.0 → item_in records w' t' ≡ item_in records w t ++ r → r ≡ []
none_longer w t w' t' a b r p y p' y' same e =
    let f : read_in (id_of a.0) (item_in records w t ++ r) ≡ got (resolved t a) r = add_reads w t a r p y in
    let g : read_in (id_of b.0) (item_in records w' t' ++ []) ≡ got (resolved t' b) [] = add_reads w' t' b [] p' y' in
    let i : item_in records w t ++ r ≡ item_in records w' t' ++ [] = sym e ∙ sym (append-nil (item_in records w' t')) in
    got_rest (sym f ∙ ap (λ (k : SectionId). read_in (id_of k) (item_in records w t ++ r)) same ∙ ap (read_in (id_of b.0)) i ∙ g)
