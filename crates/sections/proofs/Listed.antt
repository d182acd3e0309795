-- The sections of an order list, one after the other: how long they are, and how far their writing has come. Assumes nothing.
use mathlib.Core.Path.{◌≡◌, refl, sym, ap, ◌∙◌}
use mathlib.Core.Bool.{Bool, true, false, cond, true≢false}
use mathlib.Core.List.{List, [], ◌∷◌, ◌++◌, append-nil}
use Prim.Native.Nat.{ℕ, zero, suc, ◌+◌, ◌-◌, ◌*◌, ◌≤◌, ◌<◌}
use native.Mathlib.Numerals.{add-one}
use native.Mathlib.Omega.{arith}
use mir.Syntax.{w64}
use mir.Val.{Fits}
use lib.Dec.{eqb}
use lib.ListN.{length, take, drop, get_or, length-append, take-append-drop}
use lib.Seq.{take-suc}
use borrow.Author.Tests.{eqb-true}
use borrow.Rule.Slice.PartMut.{put_mid, mid_of}
use Rattle.format.specs.Lists.{All, prints, prints_append, prints_more}
use Rattle.format.specs.Runs.{run}
use Rattle.format.specs.Write.{Writes, writes, writes_as, writes_then, room_then}
use Rattle.std.specs.Prelude.{Ok, Some}
use Rattle.leb128.specs.Leb.{uleb}
use Rattle.frames.specs.Frames.{frame, frames_of, frames_ok}
use Rattle.frames.specs.Ids.{sections, among, among_each}
use Rattle.frames.specs.Builder.{store_most}
use Rattle.frames.specs.Tally.{items_of, item_bytes, tally_of, no_items, items_within, Tallies, tally_at, count_at, total_at}
use Rattle.sections.specs.declared.Given.{Given}
use Rattle.sections.specs.Section.{section, section_of, said_of, data_count}
use Rattle.sections.specs.Order.{order_most, order_ids, all_among}

-- ---- an id of an order list

both : (t u : Bool) → cond t u false ≡ true → (t ≡ true) × (u ≡ true)
both true u e = (refl, e)
both false u e = absurd (true≢false (sym e))

listed : (order : List ℕ) (j : ℕ) → all_among order_ids order ≡ true → j < length order → among order_ids (get_or order j 0) ≡ true
listed [] j e h = absurd (omega arith)
listed (i ∷ order) zero e h = (both (among order_ids i) (all_among order_ids order) e).0
listed (i ∷ order) (suc j) e h = listed order j (both (among order_ids i) (all_among order_ids order) e).1 (omega arith)

-- it is below 16
listed_below : (i : ℕ) → among order_ids i ≡ true → i < 16
listed_below i e = among_each (λ k. k < 16) order_ids i (omega arith, (omega arith, (omega arith, (omega arith, (omega arith, (omega arith, tt)))))) e

-- the next one, as the code takes it
module _ (order : List ℕ) (j : ℕ) (e : all_among order_ids order ≡ true) (h : j < length order) where
  pub next_below : get_or order j 0 < 16
  next_below = listed_below (get_or order j 0) (listed order j e h)

-- so what holds of ids below 16 holds of each
pub listed_all : (P : ℕ → Type 0) → ((i : ℕ) → i < 16 → P i) → (order : List ℕ) → all_among order_ids order ≡ true → All P order
listed_all P f [] e = tt
listed_all P f (i ∷ order) e = let (a, b) = both (among order_ids i) (all_among order_ids order) e in (f i (listed_below i a), listed_all P f order b)

-- ---- what a section says

-- the count that it says
abbrev said : Given → List ℕ → ℕ → ℕ
said given s i = said_of given i (length (items_of i (frames_of s)))

section_said : (given : Given) (s : List ℕ) (i : ℕ) → section_of given (frames_of s) i ≡ section i (uleb (said given s i) ++ item_bytes i s)
section_said given s i = go (eqb i data_count) refl
  where
    go : (t : Bool) → eqb i data_count ≡ t → section_of given (frames_of s) i ≡ section i (uleb (said given s i) ++ item_bytes i s)
    go true e =
        let z : items_of i (frames_of s) ≡ [] = no_items i (ap (among sections) (eqb-true i data_count e)) (frames_of s) (frames_ok s) in
        rw (e, z, append-nil)
    go false e = rw e

pub section_in : (s : List ℕ) (i : ℕ) (given : Given) {c : ℕ} → c ≡ said given s i → section i (uleb c ++ item_bytes i s) ≡ section_of given (frames_of s) i
section_in s i given w = ap (λ (x : ℕ). section i (uleb x ++ item_bytes i s)) w ∙ sym (section_said given s i)

-- and how a tally tells it
module _ (s : List ℕ) (t : Tallies) (e : Some t ≡ tally_of (run frame s)) (i : ℕ) (h : i < 16) where
  pub total_told : (tally_at t i).total ≡ length (item_bytes i s)
  total_told = total_at s e i h

  pub total_few : length s ≤ store_most → (tally_at t i).total ≤ store_most
  total_few l = omega (arith, total_told, items_within i s)

  pub section_is : (given : Given) {c : ℕ} → c ≡ said_of given i (tally_at t i).count → section i (uleb c ++ item_bytes i s) ≡ section_of given (frames_of s) i
  section_is given d = section_in s i given (d ∙ ap (said_of given i) (count_at s e i h))

-- ---- one section more

module _ (f : ℕ → List ℕ) (order : List ℕ) (j : ℕ) (h : j < length order) where
  more : prints f (take (j + 1) order) ≡ prints f (take j order) ++ f (get_or order j 0)
  more = rw (add-one j) (ap (prints f) (take-suc order j 0 h) ∙ prints_more f (take j order) (get_or order j 0))

  bounded : length (prints f (take j order) ++ f (get_or order j 0)) ≤ length (prints f order)
  bounded =
      let r = drop (j + 1) order in
      let e : prints f (take (j + 1) order) ++ prints f r ≡ prints f order = sym (prints_append f (take (j + 1) order) r) ∙ ap (prints f) (take-append-drop (j + 1) order) in
      omega (arith, ap length e, length-append (prints f (take (j + 1) order)) (prints f r), ap length more)

-- ---- their length

-- the first j of them have n bytes
pub record Measured (order : List ℕ) (given : Given) (t : Tallies) (n j : ℕ) : Type 0 where
  pub sum : (s : List ℕ) → Some t ≡ tally_of (run frame s) → n ≡ length (prints (section_of given (frames_of s)) (take j order))
  pub few : n ≤ j * (store_most + 21)
  pub within : j ≤ length order

-- the next one is not long
pub next_few : (order : List ℕ) (j : ℕ) (t : Tallies) → ((i : ℕ) → i < 16 → (tally_at t i).total ≤ store_most) → all_among order_ids order ≡ true → j < length order
    → (tally_at t (get_or order j 0)).total ≤ store_most
next_few order j t f a h = f (get_or order j 0) (next_below order j a h)

module _ {order : List ℕ} {given : Given} {t : Tallies} {n j : ℕ} (m : Measured order given t n j) where
  -- r is its length
  module _ (h : j < length order) (a : all_among order_ids order ≡ true) (f : (i : ℕ) → i < 16 → (tally_at t i).total ≤ store_most) {r : ℕ} (k : r ≤ (tally_at t (get_or order j 0)).total + 21) where
    pub measured_fits : length order ≤ order_most → Fits w64 (n + r)
    measured_fits l = record { fits = omega (arith, m.few, next_few order j t f a h) }

    pub measured_more : (c : ℕ) → c ≡ said_of given (get_or order j 0) ((tally_at t (get_or order j 0)).count)
        → ((i : ℕ) (items : List ℕ) → length items ≡ (tally_at t (get_or order j 0)).total → r ≡ length (section i (uleb c ++ items))) → Measured order given t (n + r) (j + 1)
    measured_more c d l = record { sum = sum; few = omega (arith, m.few, next_few order j t f a h); within = omega arith }
      where
        sum : (s : List ℕ) → Some t ≡ tally_of (run frame s) → n + r ≡ length (prints (section_of given (frames_of s)) (take (j + 1) order))
        sum s e =
            let i = get_or order j 0 in
            let b = next_below order j a h in
            let g = section_of given (frames_of s) in
            let u : r ≡ length (g i) = l i (item_bytes i s) (sym (total_told s t e i b)) ∙ ap length (section_is s t e i b given d) in
            omega (arith, m.sum s e, ap length (more g order j h), length-append (prints g (take j order)) (g i))

-- ---- their writing

-- the first j of them are written, n bytes
pub record Put (order : List ℕ) (given : Given) (s xs ys : List ℕ) (n j : ℕ) : Type 0 where
  pub done : Writes (prints (section_of given (frames_of s)) (take j order)) xs ys (Ok n)

pub put_none : {order : List ℕ} {given : Given} {s xs : List ℕ} → Put order given s xs xs 0 0
put_none = record { done = writes (omega arith) refl refl }

module _ {order : List ℕ} {given : Given} {s xs ys : List ℕ} {n j : ℕ} (p : Put order given s xs ys n j) where
  -- c is the count that the next section says
  module _ (h : j < length order) (a : all_among order_ids order ≡ true) (t : Tallies) (e : Some t ≡ tally_of (run frame s)) (c : ℕ)
      (d : c ≡ said_of given (get_or order j 0) ((tally_at t (get_or order j 0)).count)) where
    abbrev i : ℕ
    i = get_or order j 0

    next : section i (uleb c ++ item_bytes i s) ≡ section_of given (frames_of s) i
    next = section_is s t e i (next_below order j a h) given d

    pub put_room : length (prints (section_of given (frames_of s)) order) ≤ length xs → length (section i (uleb c ++ item_bytes i s)) ≤ length (mid_of n (length ys - n) ys)
    put_room k =
        let f = section_of given (frames_of s) in
        omega (arith, ap length next, (room_then (f i) p.done (omega (arith, bounded f order j h))).room)

    pub put_more : {zs : List ℕ} {m : ℕ} → Writes (section i (uleb c ++ item_bytes i s)) (mid_of n (length ys - n) ys) zs (Ok m)
        → Put order given s xs (put_mid n (length ys - n) ys zs) (n + m) (j + 1)
    put_more w = record { done = writes_as (sym (more (section_of given (frames_of s)) order j h)) (writes_then p.done (writes_as next w)) }
