-- Reading and adding (demand 2): reading an item gives its record back but for where spans lie, and refuses with 11 exactly if no record begins the bytes.
-- Assumes nothing.
use Rattle.std.specs.Prelude.{◌≡◌, refl, ◌↔◌, true, false, List, ◌++◌, ℕ, ◌+◌, ◌-◌, ◌≤◌, length, take}
use Rattle.std.proofs.Common.{sym, ap, subst, ◌∙◌, true≢false, arith, length-take, length-append}
use Rattle.std.proofs.Math.Option.{some}
use Rattle.std.proofs.Math.Seq.{take-append-add}
use Rattle.format.specs.Parsed.{Parsed, fail, got}
use Rattle.format.specs.Read.{place_of}
use Rattle.frames.specs.Ids.{id_of}
use Rattle.texts.specs.Judge.{record_in, item_in, why, fine}
use Rattle.texts.specs.declared.Span.{Span}
use Rattle.items.specs.Record.{Record, Item, records, resolved, read_in, record_of}
use Rattle.items.specs.Reading.{add_reads, ReadAdds, read_adds, none_begins, Back, added_back}
use Rattle.thriftbell.specs.Read.{front_of, is_nothing, words_in, reading, eleven_exactly, no_item, item_read}

short : (bytes : List ℕ) → length (front_of bytes) ≤ 65536
short bytes = simp length-take (omega arith)

module _ (id : ℕ) (bytes out : List ℕ) where
  -- a record begins the bytes that are looked at: an add of it writes them
  abbrev pub Begins : List ℕ → List ℕ → List ℕ → Record Span → Type 0
  Begins w t r a = (record_in records w ≡ some a) × (id_of a.0 ≡ id) × (why records w t ≡ 0) × (front_of bytes ≡ item_in records w t ++ r)

  nothing_is : (is_nothing (words_in id bytes out) ≡ true) ↔ (read_in id (front_of bytes) ≡ fail)
  nothing_is = (go (read_in id (front_of bytes)) refl, λ e. ap is_nothing (no_item id bytes out e))
    where
      go : (m : Parsed Item) → read_in id (front_of bytes) ≡ m → is_nothing (words_in id bytes out) ≡ true → m ≡ fail
      go fail e h = refl
      go (got x r) e h = let z : false ≡ true = sym (ap is_nothing (item_read id bytes out x r e)) ∙ h in absurd (true≢false (sym z))

  -- 11 is given exactly if no record of the section begins them
  pub eleven_means : ((reading id bytes out).number ≡ 11) ↔ ((w t r : List ℕ) (a : Record Span) → Begins w t r a → ⊥)
  eleven_means =
      let n = none_begins id (front_of bytes) (short bytes) in (
        λ e w t r a (p, q, y, f). n.0 (nothing_is.0 ((eleven_exactly id bytes out).0 e).1) w t r a p q y f,
        λ h. (eleven_exactly id bytes out).1 (tt, nothing_is.1 (n.1 (λ w t r a p q y f. h w t r a (p, q, y, f)))),
      )

-- an item stands in the front, whatever follows it
module _ (w t r : List ℕ) (y : why records w t ≡ 0) where
  abbrev behind : List ℕ
  behind = take (65536 - length (item_in records w t)) r

  front : front_of (item_in records w t ++ r) ≡ item_in records w t ++ behind
  front =
      let b = item_in records w t in
      let f = fine records w t y in
      let l : length b ≤ 65536 = rw f.is f.fits in
      let long : 65536 ≡ length b + (65536 - length b) = omega arith in
      ap (λ (n : ℕ). take n (b ++ r)) long ∙ take-append-add b r (65536 - length b)

-- it is read back: its words, and as many bytes taken as it has
pub read_back : (w t r out : List ℕ) (a : Record Span) → record_in records w ≡ some a → why records w t ≡ 0
    → words_in (id_of a.0) (item_in records w t ++ r) out ≡ some (record_of (resolved t a), length (item_in records w t))
read_back w t r out a p y =
    let b = item_in records w t in
    let id = id_of a.0 in
    let q = behind w t r y in
    let e : read_in id (front_of (b ++ r)) ≡ got (resolved t a) q = ap (read_in id) (front w t r y) ∙ add_reads w t a q p y in
    let n : place_of (front_of (b ++ r)) q ≡ length b = ap (λ (s : List ℕ). place_of s q) (front w t r y) ∙ omega (arith, length-append b q) in
    item_read id (b ++ r) out (resolved t a) q e ∙ ap (λ (m : ℕ). some (record_of (resolved t a), m)) n

-- those words' spans hold in the bytes what the record's hold in its text: it is the same record but for where spans lie, and but for the one exception that
-- an active expression segment of another type than nullable unshared func, added without a table, comes back with table 0 given
pub read_same : (w t r : List ℕ) (a : Record Span) → record_in records w ≡ some a → why records w t ≡ 0
    → Back t a (front_of (item_in records w t ++ r)) (record_of (resolved t a))
read_same w t r a p y =
    let e = front w t r y in
    subst (λ (s : List ℕ). Back t a s (record_of (resolved t a))) (sym e) (added_back w t a (behind w t r y) p y (subst (λ (s : List ℕ). length s ≤ 65536) e (short (item_in records w t ++ r))))

-- what is read is the record of the bytes that were taken: added with the bytes as its text it writes them again
pub read_sound : (id : ℕ) (bytes : List ℕ) (x : Item) (r : List ℕ) → read_in id (front_of bytes) ≡ got x r → ReadAdds id (front_of bytes) x r
read_sound id bytes x r e = read_adds id (front_of bytes) x r e (short bytes)
