-- What the bytes from a place on say of a character that begins there. Assumes nothing.
use mathlib.Core.Path.{◌≡◌, refl, sym, ap, ◌∙◌}
use mathlib.Core.Logic.{◌⊎◌, inl, inr, ⊎_elim}
use mathlib.Core.Bool.{Bool, true, false, cond, not, ◌&&◌, true≢false}
use mathlib.Core.List.{List}
use Prim.Native.Nat.{ℕ, ◌+◌, ◌-◌, ◌≤◌, ◌<◌}
use native.Mathlib.Omega.{arith}
use lib.Dec.{leb, ltb, eqb}
use lib.Bits.{bit_or, or_lt}
use lib.ListN.{length, get_or, drop, get_or-eq_default}
use borrow.Author.Tests.{lt-ltb, le-ltb, ltb-true, ltb-false, le-leb, lt-leb, eqb-true, eqb-false, ne_eqb}
use Rattle.format.specs.Parsed.{fail, got}
use Rattle.format.specs.Format.{Format}
use Rattle.format.specs.Alternatives.{union_first, union_second}
use Rattle.format.specs.Write.{fits_or}
use Rattle.format.specs.Read.{drop_more, drop_end, place_at}
use Rattle.plain.proofs.Blocks.{or_left, or_right}
use Rattle.std.specs.Prelude.{Option, Some, None}
use Rattle.std.specs.Bool.{then_some}
use Rattle.names.specs.Utf8.{surrogate}
use Rattle.names.specs.Char.{from, more, below, one, three, four, wide, char, apart_any, three_value, four_value}
use Rattle.names.specs.Place.{end_of, EndsAt, Leading, between, TellsMore, lowest, past, is_second}

abbrev is_more : ℕ → Bool
is_more b = between 0x80 0xC0 b

between_true : (lo hi b : ℕ) → between lo hi b ≡ true → (lo ≤ b) × (b < hi)
between_true lo hi b e = go (ltb b lo) refl (ltb b hi) refl e
  where
    go : (t : Bool) → ltb b lo ≡ t → (u : Bool) → ltb b hi ≡ u → (not t && u) ≡ true → (lo ≤ b) × (b < hi)
    go true p u q e = absurd (true≢false (sym e))
    go false p true q e = (ltb-false b lo p, ltb-true b hi q)
    go false p false q e = absurd (true≢false (sym e))

between_false : (lo hi b : ℕ) → between lo hi b ≡ false → (b < lo) ⊎ (hi ≤ b)
between_false lo hi b e = go (ltb b lo) refl (ltb b hi) refl e
  where
    go : (t : Bool) → ltb b lo ≡ t → (u : Bool) → ltb b hi ≡ u → (not t && u) ≡ false → (b < lo) ⊎ (hi ≤ b)
    go true p u q e = inl (ltb-true b lo p)
    go false p true q e = absurd (true≢false e)
    go false p false q e = inr (ltb-false b hi q)

-- ---- several bytes at once

more_of : {b x : ℕ} → TellsMore b x → x < 0x40 → is_more b ≡ true
more_of {x = x} p h = p.is ∙ lt-ltb x 0x40 h

less_of : {b x : ℕ} → TellsMore b x → is_more b ≡ true → x < 0x40
less_of {x = x} p m = ltb-true x 0x40 (sym p.is ∙ m)

none_past_end : (s : List ℕ) (i : ℕ) → length s ≤ i → 0 ≡ get_or s i 0
none_past_end s i h = sym (get_or-eq_default s 0 h)

-- a byte that is not 0 is there
there : (s : List ℕ) (i : ℕ) → 0 < get_or s i 0 → i < length s
there s i h = ⊎_elim (λ (k : length s ≤ i). absurd (omega (arith, none_past_end s i k))) (λ (k : i < length s). k) (fits_or (length s) i)

-- ---- one byte

module _ (lo n : ℕ) (s : List ℕ) (i : ℕ) {b : ℕ} (is : get_or s i 0 ≡ b) where
  from_got : 0 < lo → lo ≤ b → b < lo + n → (from lo n).parse (drop i s) ≡ got (b - lo) (drop (i + 1) s)
  from_got z k l = rw (drop_more s i (there s i (omega arith)), is, le-ltb b lo k, lt-ltb b (lo + n) l)

  from_fail : (b < lo) ⊎ (lo + n ≤ b) → (from lo n).parse (drop i s) ≡ fail
  from_fail e = ⊎_elim (λ (k : length s ≤ i). rw (drop_end s i k)) (λ (k : i < length s). rw (drop_more s i k, is) (⊎_elim low high e)) (fits_or (length s) i)
    where
      low : b < lo → cond (ltb b lo) fail (cond (ltb b (lo + n)) (got (b - lo) (drop (i + 1) s)) fail) ≡ fail
      low h = rw (lt-ltb b lo h)

      high : lo + n ≤ b → cond (ltb b lo) fail (cond (ltb b (lo + n)) (got (b - lo) (drop (i + 1) s)) fail) ≡ fail
      high h = rw (le-ltb b (lo + n) h, le-ltb b lo (omega arith))

more_got : (s : List ℕ) (i : ℕ) → is_more (get_or s i 0) ≡ true → more.parse (drop i s) ≡ got (get_or s i 0 - 0x80) (drop (i + 1) s)
more_got s i e = let (h, k) = between_true 0x80 0xC0 (get_or s i 0) e in from_got 0x80 64 s i refl (omega arith) h k

more_fail : (s : List ℕ) (i : ℕ) → is_more (get_or s i 0) ≡ false → more.parse (drop i s) ≡ fail
more_fail s i e = from_fail 0x80 64 s i refl (between_false 0x80 0xC0 (get_or s i 0) e)

-- ---- second bytes

-- x where b is k, else y
abbrev Picks : ℕ → ℕ → ℕ → ℕ → ℕ → Type 0
Picks r b k x y = ((b ≡ k) × (r ≡ x)) ⊎ ((b ≡ k → ⊥) × (r ≡ y))

picks : {r : ℕ} (b k x y : ℕ) → r ≡ cond (eqb b k) x y → Picks r b k x y
picks {r} b k x y e = go (eqb b k) refl e
  where
    go : (t : Bool) → eqb b k ≡ t → r ≡ cond t x y → Picks r b k x y
    go true p q = inl (eqb-true b k p, q)
    go false p q = inr (eqb-false b k p, q)

lowest_three : (b : ℕ) → b < 0xF0 → Picks (lowest b) b 0xE0 0xA0 0x80
lowest_three b h = picks b 0xE0 0xA0 0x80 (rw (ne_eqb b 0xF0 (λ q. omega arith)))

past_three : (b : ℕ) → b < 0xF0 → Picks (past b) b 0xED 0xA0 0xC0
past_three b h = picks b 0xED 0xA0 0xC0 (rw (ne_eqb b 0xF4 (λ q. omega arith)))

lowest_four : (b : ℕ) → 0xF0 ≤ b → Picks (lowest b) b 0xF0 0x90 0x80
lowest_four b h = picks b 0xF0 0x90 0x80 (rw (ne_eqb b 0xE0 (λ q. omega arith)))

past_four : (b : ℕ) → 0xF0 ≤ b → Picks (past b) b 0xF4 0x90 0xC0
past_four b h = picks b 0xF4 0x90 0xC0 (rw (ne_eqb b 0xED (λ q. omega arith)))

-- in either case
picked : {P : Type 0} {r b k x y : ℕ} → Picks r b k x y → (b ≡ k → r ≡ x → P) → ((b ≡ k → ⊥) → r ≡ y → P) → P
picked (inl (q, e)) f g = f q e
picked (inr (q, e)) f g = g q e

not_surrogate : (v : ℕ) → (v < 0xD800) ⊎ (0xE000 ≤ v) → surrogate v ≡ false
not_surrogate v (inl h) = rw (lt-leb 0xD800 v h)
not_surrogate v (inr h) = rw (le-leb 0xD800 v (omega arith), le-ltb v 0xE000 h)

module _ (s : List ℕ) (at : ℕ) where
  abbrev c : ℕ
  c = get_or s (at + 1) 0

  abbrev d : ℕ
  d = get_or s (at + 2) 0

  abbrev e : ℕ
  e = get_or s (at + 3) 0

  none : (F : Format ℕ) → F.parse (drop at s) ≡ fail → EndsAt F s at None
  none F p = record { is = sym (ap (end_of s) p) }

  ends : (F : Format ℕ) (v n : ℕ) → n ≤ length s → F.parse (drop at s) ≡ got v (drop n s) → EndsAt F s at (Some n)
  ends F v n k p = record { is = sym (ap (end_of s) p ∙ ap Some (place_at s n k)) }

  -- by whether there is one, r
  if_so : {F : Format ℕ} {n : ℕ} {r : Bool} {o : Option ℕ} → o ≡ then_some r n → (r ≡ true → EndsAt F s at (Some n)) → (r ≡ false → EndsAt F s at None) → EndsAt F s at o
  if_so {F} {n} {r} {o} q f g = go r refl q
    where
      go : (t : Bool) → r ≡ t → o ≡ then_some t n → EndsAt F s at o
      go true p q = rw q (f p)
      go false p q = rw q (g p)

  -- ---- three bytes

  module _ {b : ℕ} (B : Leading s at b 0xE0 0xF0) where
    abbrev v3 : ℕ
    v3 = three_value (b - 0xE0, (c - 0x80, d - 0x80))

    lead3 : (from 0xE0 16).parse (drop at s) ≡ got (b - 0xE0) (drop (at + 1) s)
    lead3 = from_got 0xE0 16 s at B.is (omega arith) B.from B.below

    second3 : lowest b ≤ c → c < past b → is_more c ≡ true
    second3 h i =
        let x : 0x80 ≤ c = picked (lowest_three b B.below) (λ q e. omega arith) (λ q e. omega arith) in
        let y : c < 0xC0 = picked (past_three b B.below) (λ q e. omega arith) (λ q e. omega arith) in
        rw (le-ltb c 0x80 x, lt-ltb c 0xC0 y)

    three_got : between (lowest b) (past b) c ≡ true → is_more d ≡ true → EndsAt three s at (Some (at + 3))
    three_got m n =
        let (h, i) = between_true (lowest b) (past b) c m in
        let o = second3 h i in
        let (p, q) = between_true 0x80 0xC0 c o in
        let (u, w) = between_true 0x80 0xC0 d n in
        let low : 0x800 ≤ v3 = picked (lowest_three b B.below) (λ q e. omega arith) (λ q e. omega arith) in
        let high : (v3 < 0xD800) ⊎ (0xE000 ≤ v3) =
        picked (past_three b B.below) (λ q e. inl (omega arith)) (λ q e. ⊎_elim (λ (m : 0xED ≤ b). inr (omega arith)) (λ (m : b < 0xED). inl (omega arith)) (fits_or 0xED b)) in
        let x : at + 1 + 1 ≡ at + 2 = omega arith in
        let y : at + 2 + 1 ≡ at + 3 = omega arith in
        let r = there s (at + 2) (omega arith) in
        ends three v3 (at + 3) (omega arith) (rw (lead3, more_got s (at + 1) o, x, more_got s (at + 2) n, le-leb 0x800 v3 low, not_surrogate v3 high, y))

    -- where c or d is none of theirs
    three_fail : (is_more c ≡ true → is_more d ≡ true → (leb 0x800 v3 && not (surrogate v3)) ≡ false) → three.parse (drop at s) ≡ fail
    three_fail f = go (is_more c) refl (is_more d) refl
      where
        x : at + 1 + 1 ≡ at + 2
        x = omega arith

        go : (t : Bool) → is_more c ≡ t → (u : Bool) → is_more d ≡ u → three.parse (drop at s) ≡ fail
        go false p u q = rw (lead3, more_fail s (at + 1) p)
        go true p false q = rw (lead3, more_got s (at + 1) p, x, more_fail s (at + 2) q)
        go true p true q = rw (lead3, more_got s (at + 1) p, x, more_got s (at + 2) q, f p q)

    three_over : between (lowest b) (past b) c ≡ false → EndsAt three s at None
    three_over m = none three (three_fail (λ o n. ⊎_elim (low o n) (high o n) (between_false (lowest b) (past b) c m)))
      where
        low : is_more c ≡ true → is_more d ≡ true → c < lowest b → (leb 0x800 v3 && not (surrogate v3)) ≡ false
        low o n h =
            let (p, q) = between_true 0x80 0xC0 c o in
            let (u, w) = between_true 0x80 0xC0 d n in
            let z : v3 < 0x800 = picked (lowest_three b B.below) (λ q e. omega arith) (λ q e. absurd (omega arith)) in
            rw (lt-leb 0x800 v3 z)

        high : is_more c ≡ true → is_more d ≡ true → past b ≤ c → (leb 0x800 v3 && not (surrogate v3)) ≡ false
        high o n h =
            let (p, q) = between_true 0x80 0xC0 c o in
            let (u, w) = between_true 0x80 0xC0 d n in
            let z : (0xD800 ≤ v3) × (v3 < 0xE000) = picked (past_three b B.below) (λ r e. (omega arith, omega arith)) (λ r e. absurd (omega arith)) in
            rw (le-leb 0x800 v3 (omega arith), le-leb 0xD800 v3 z.0, lt-ltb v3 0xE000 z.1)

    three_missing : (is_more c ≡ true → is_more d ≡ true → ⊥) → EndsAt three s at None
    three_missing f = none three (three_fail (λ o n. absurd (f o n)))

    pub three_cut : length s - at < 3 → EndsAt three s at None
    three_cut h = three_missing (λ o n. let (i, j) = between_true 0x80 0xC0 d n in omega (arith, there s (at + 2) (omega arith)))

    -- x and y tell of the bytes behind it, and r of the second one
    module _ {x y : ℕ} (p : TellsMore c x) (q : TellsMore d y) where
      pub three_none : 0x3F < bit_or x y → EndsAt three s at None
      three_none h = three_missing (λ o n. omega (arith, or_lt 6 x y (less_of p o) (less_of q n)))

      module _ (few : bit_or x y ≤ 0x3F) {r : Bool} (w : r ≡ is_second b c) where
        three_yes : r ≡ true → EndsAt three s at (Some (at + 3))
        unfolding is_second
        three_yes t = three_got (sym w ∙ t) (more_of q (omega (arith, or_right x y)))

        three_second : r ≡ false → EndsAt three s at None
        unfolding is_second
        three_second t = three_over (sym w ∙ t)

        pub three_if : {o : Option ℕ} → o ≡ then_some r (at + 3) → EndsAt three s at o
        three_if q = if_so q three_yes three_second

  -- ---- four bytes

  module _ {b : ℕ} (B : Leading s at b 0xF0 0x100) where
    abbrev v4 : ℕ
    v4 = four_value (b - 0xF0, (c - 0x80, (d - 0x80, e - 0x80)))

    module _ (l : b < 0xF8) where
      lead4 : (from 0xF0 8).parse (drop at s) ≡ got (b - 0xF0) (drop (at + 1) s)
      lead4 = from_got 0xF0 8 s at B.is (omega arith) B.from l

      x : at + 1 + 1 ≡ at + 2
      x = omega arith

      y : at + 2 + 1 ≡ at + 3
      y = omega arith

      four_got : b < 0xF5 → between (lowest b) (past b) c ≡ true → is_more d ≡ true → is_more e ≡ true → EndsAt four s at (Some (at + 4))
      four_got j m n o =
          let (h, i) = between_true (lowest b) (past b) c m in
          let lc : 0x80 ≤ c = picked (lowest_four b B.from) (λ q e. omega arith) (λ q e. omega arith) in
          let hc : c < 0xC0 = picked (past_four b B.from) (λ q e. omega arith) (λ q e. omega arith) in
          let mc : is_more c ≡ true = rw (le-ltb c 0x80 lc, lt-ltb c 0xC0 hc) in
          let (u, w) = between_true 0x80 0xC0 d n in
          let (u', w') = between_true 0x80 0xC0 e o in
          let low : 0x10000 ≤ v4 = picked (lowest_four b B.from) (λ q r. omega arith) (λ q r. omega arith) in
          let high : v4 < 0x110000 = picked (past_four b B.from) (λ q r. omega arith) (λ q r. omega arith) in
          let z : at + 3 + 1 ≡ at + 4 = omega arith in
          let r = there s (at + 3) (omega arith) in
          ends four v4 (at + 4) (omega arith) (rw (lead4, more_got s (at + 1) mc, x, more_got s (at + 2) n, y, more_got s (at + 3) o, le-leb 0x10000 v4 low, lt-ltb v4 0x110000 high, z))

      four_fail : (is_more c ≡ true → is_more d ≡ true → is_more e ≡ true → (leb 0x10000 v4 && ltb v4 0x110000) ≡ false) → four.parse (drop at s) ≡ fail
      four_fail f = go (is_more c) refl (is_more d) refl (is_more e) refl
        where
          go : (t : Bool) → is_more c ≡ t → (u : Bool) → is_more d ≡ u → (w : Bool) → is_more e ≡ w → four.parse (drop at s) ≡ fail
          go false p u q w r = rw (lead4, more_fail s (at + 1) p)
          go true p false q w r = rw (lead4, more_got s (at + 1) p, x, more_fail s (at + 2) q)
          go true p true q false r = rw (lead4, more_got s (at + 1) p, x, more_got s (at + 2) q, y, more_fail s (at + 3) r)
          go true p true q true r = rw (lead4, more_got s (at + 1) p, x, more_got s (at + 2) q, y, more_got s (at + 3) r, f p q r)

      four_over : between (lowest b) (past b) c ≡ false → EndsAt four s at None
      four_over m = none four (four_fail (λ o n w. ⊎_elim (low o n w) (high o n w) (between_false (lowest b) (past b) c m)))
        where
          low : is_more c ≡ true → is_more d ≡ true → is_more e ≡ true → c < lowest b → (leb 0x10000 v4 && ltb v4 0x110000) ≡ false
          low o n w h =
              let (_, hc) = between_true 0x80 0xC0 c o in
              let (lc, _) = between_true 0x80 0xC0 c o in
              let (_, hd) = between_true 0x80 0xC0 d n in
              let (_, he) = between_true 0x80 0xC0 e w in
              let z : v4 < 0x10000 = picked (lowest_four b B.from) (λ q r. omega arith) (λ q r. absurd (omega arith)) in
              rw (lt-leb 0x10000 v4 z)

          high : is_more c ≡ true → is_more d ≡ true → is_more e ≡ true → past b ≤ c → (leb 0x10000 v4 && ltb v4 0x110000) ≡ false
          high o n w h =
              let (_, hc) = between_true 0x80 0xC0 c o in
              let z : 0x110000 ≤ v4 = picked (past_four b B.from) (λ q r. omega arith) (λ q r. absurd (omega arith)) in
              rw (le-leb 0x10000 v4 (omega arith), le-ltb v4 0x110000 z)

      four_missing : (is_more c ≡ true → is_more d ≡ true → is_more e ≡ true → ⊥) → EndsAt four s at None
      four_missing f = none four (four_fail (λ o n w. absurd (f o n w)))

    module _ (l : b ≤ 0xF4) where
      pub four_cut : length s - at < 4 → EndsAt four s at None
      four_cut h = four_missing (omega arith) (λ o n w. let (i, j) = between_true 0x80 0xC0 e w in omega (arith, there s (at + 3) (omega arith)))

      module _ {x y z : ℕ} (p : TellsMore c x) (q : TellsMore d y) (u : TellsMore e z) where
        pub four_none : 0x3F < bit_or (bit_or x y) z → EndsAt four s at None
        four_none h = four_missing (omega arith) (λ o n w. omega (arith, or_lt 6 (bit_or x y) z (or_lt 6 x y (less_of p o) (less_of q n)) (less_of u w)))

        module _ (few : bit_or (bit_or x y) z ≤ 0x3F) {r : Bool} (w : r ≡ is_second b c) where
          four_yes : r ≡ true → EndsAt four s at (Some (at + 4))
          unfolding is_second
          four_yes t =
              let m = or_left (bit_or x y) z in
              four_got (omega arith) (omega arith) (sym w ∙ t) (more_of q (omega (arith, or_right x y))) (more_of u (omega (arith, or_right (bit_or x y) z)))

          four_second : r ≡ false → EndsAt four s at None
          unfolding is_second
          four_second t = four_over (omega arith) (sym w ∙ t)

          pub four_if : {o : Option ℕ} → o ≡ then_some r (at + 4) → EndsAt four s at o
          four_if q = if_so q four_yes four_second

-- ---- told apart by the first byte

module _ (s : List ℕ) (at : ℕ) (h : at < length s) where
  pub plain : get_or s at 0 < 0x80 → char.parse (drop at s) ≡ got (get_or s at 0) (drop (at + 1) s)
  plain k =
      let e = drop_more s at h in
      ap char.parse e ∙ union_first (below 0x80) (below 0x80) one wide apart_any (get_or s at 0) (drop (at + 1) s) (lt-ltb (get_or s at 0) 0x80 k) ∙ rw (lt-ltb (get_or s at 0) 0x80 k)

  pub is_wide : 0x80 ≤ get_or s at 0 → char.parse (drop at s) ≡ wide.parse (drop at s)
  is_wide k = rw (drop_more s at h) (union_second (below 0x80) (below 0x80) one wide apart_any (get_or s at 0) (drop (at + 1) s) (le-ltb (get_or s at 0) 0x80 k))
