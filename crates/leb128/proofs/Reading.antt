-- What the code of the readers comes to: groups of seven bits put together, a last byte taken by its sign, and the width and the shortest form tested by
-- shifts. Assumes nothing.
use mathlib.Core.Path.{◌≡◌, refl, sym, ap, ◌∙◌}
use mathlib.Core.Logic.{⊎_elim}
use mathlib.Core.Bool.{Bool, true, false, cond, ◌&&◌}
use Prim.Native.Nat.{ℕ, ◌+◌, ◌-◌, ◌*◌, ◌/◌, ◌%◌, ◌≤◌, ◌<◌, ◌^◌}
use native.Mathlib.Nat.{mul_assoc, add-mul, mul_comm, mod-lt, div-lt_iff_lt-mul, div-eq_of_lt}
use native.Mathlib.Omega.{arith}
use mir.Syntax.{w64}
use mir.Val.{Fits}
use borrow.Author.Tests.{lt-ltb, le-ltb, eq-eqb, ne_eqb, eqb-true, eqb-false, le-leb, lt-leb}
use lib.Arith.{digits_lt, digits_div}
use lib.Bits.{bit_and, bit_or, bit_xor, and_mask, or_shifted, or_shifted_r}
use lib.Dec.{ltb, eqb, leb as is_le}
use lib.IntN.{ℤ, pos, negsuc}
use lib.ListN.{length}
use lib.Pow.{pow-add, pow_pos, pow_mono, shl_exact, split}
use Rattle.format.specs.Write.{fits_or}
use Rattle.leb128.specs.Leb.{within, leb, sign_bits, last_of, join}
use Rattle.leb128.proofs.LebLaws.{leb_some, limit_of, limit_is, bytes_at_most, bytes_above}
use Rattle.leb128.specs.Parts.{by_sign, ones_of, join_by, parts, short_at, Topped, WholeByte, CutByte}
use Rattle.leb128.specs.declared.Parts.{Parts}
use Rattle.std.specs.Prelude.{Option, None, Some}
use Rattle.leb128.proofs.Writing.{turn_of, turned, length_sign}

-- ---- bits above a place

none_above : (b k : ℕ) → b / 2 ^ k ≡ 0 → b < 2 ^ k
none_above b k e = let h : b < 1 * 2 ^ k = (div-lt_iff_lt-mul (pow_pos k)).0 (omega arith) in omega arith

some_above : (b k : ℕ) → (b / 2 ^ k ≡ 0 → ⊥) → 2 ^ k ≤ b
some_above b k n = ⊎_elim (λ (h : 2 ^ k ≤ b). h) (λ (h : b < 2 ^ k). absurd (n (div-eq_of_lt h))) (fits_or (2 ^ k) b)

-- as a test
above_test : (b k : ℕ) → eqb (b / 2 ^ k) 0 ≡ ltb b (2 ^ k)
above_test b k = go (eqb (b / 2 ^ k) 0) refl
  where
    go : (t : Bool) → eqb (b / 2 ^ k) 0 ≡ t → t ≡ ltb b (2 ^ k)
    go true e = sym (lt-ltb b (2 ^ k) (none_above b k (eqb-true (b / 2 ^ k) 0 e)))
    go false e = sym (le-ltb b (2 ^ k) (some_above b k (eqb-false (b / 2 ^ k) 0 e)))

-- ---- groups put together

-- seven bits behind those that were read, as the code puts them there
pub behind : (k b v : ℕ) → 7 + k ≤ 64 → v < 2 ^ k → bit_or v (bit_and b 127 * 2 ^ k % 2 ^ 64) ≡ b % 128 * 2 ^ k + v
behind k b v l f = rw (and_mask b 7, shl_exact {a = b % 128} 7 k 64 (omega arith) l) (or_shifted_r (b % 128) k v f)

in_front : (j k d v : ℕ) → d < 2 ^ j → j + k ≤ 64 → v < 2 ^ k → bit_or (d * 2 ^ k % 2 ^ 64) v ≡ d * 2 ^ k + v
in_front j k d v h l g = rw (shl_exact j k 64 h l) (or_shifted d k v g)

pub below : (k d v : ℕ) → d < 128 → v < 2 ^ k → d * 2 ^ k + v < 2 ^ (k + 7)
below k d v h f =
    let e : 2 ^ (k + 7) ≡ 2 ^ k * 128 = pow-add 2 k 7 in
    let c : d * 2 ^ k + v < 128 * 2 ^ k = digits_lt h f in
    omega arith

pub join_start : (z : ℤ) → join_by 0 z 0 ≡ z
join_start (pos m) = ap pos (omega arith)
join_start (negsuc m) = ap negsuc (omega arith)

-- (127 - d) and d make 127, k bits further up
seven_up : (k d : ℕ) → d < 128 → 127 * 2 ^ k ≡ (127 - d) * 2 ^ k + d * 2 ^ k
seven_up k d h = let e : 127 - d + d ≡ 127 = omega arith in rw e at (add-mul (127 - d) d (2 ^ k))

pub join_more : (k : ℕ) (z : ℤ) (d v : ℕ) → d < 128 → v < 2 ^ k → join_by k (join z d) v ≡ join_by (k + 7) z (d * 2 ^ k + v)
join_more k z d v h f = go z
  where
    e : 2 ^ (k + 7) ≡ 2 ^ k * 128
    e = pow-add 2 k 7

    up : (m x : ℕ) → (m * 128 + x) * 2 ^ k ≡ m * (2 ^ k * 128) + x * 2 ^ k
    up m x = add-mul (m * 128) x (2 ^ k) ∙ ap (λ (y : ℕ). y + x * 2 ^ k) (mul_assoc m 128 (2 ^ k) ∙ ap (λ (y : ℕ). m * y) (mul_comm 128 (2 ^ k)))

    go : (z : ℤ) → join_by k (join z d) v ≡ join_by (k + 7) z (d * 2 ^ k + v)
    go (pos m) = ap pos (rw e (omega (arith, up m d)))
    go (negsuc m) = ap negsuc (rw e (omega (arith, up m (127 - d), seven_up k d h)))

-- ---- a last byte, by its sign

turn_small : (neg : Bool) (k x : ℕ) → x < 2 ^ k → turn_of neg k x < 2 ^ k
turn_small true k x h = omega arith
turn_small false k x h = h

sign_last : (s : Bool) (b : ℕ) → b < 128 → by_sign (s && is_le 64 b) (turn_of (s && is_le 64 b) 7 b) ≡ last_of s b
sign_last false b h = refl
sign_last true b h =
    ⊎_elim
    (λ (k : 64 ≤ b). rw (le-leb 64 b k, le-ltb b 64 k))
    (λ (k : b < 64). rw (lt-leb 64 b k, lt-ltb b 64 k))
    (fits_or 64 b)

join_sign : (k : ℕ) (neg : Bool) (t v : ℕ) → join_by k (by_sign neg t) v ≡ by_sign neg (t * 2 ^ k + turn_of neg k v)
join_sign k true t v = refl
join_sign k false t v = refl

-- only a number that has a sign is negative
within_sign : (s x : Bool) (N t : ℕ) → within s N (by_sign (s && x) t) ≡ ltb t (2 ^ (N - sign_bits s))
within_sign false x N t = let e : N - 0 ≡ N = omega arith in rw e
within_sign true true N t = refl
within_sign true false N t = refl

-- all seven bits are within the width
pub within_whole : (s : Bool) (N b : ℕ) → b < 128 → 7 ≤ N → within s N (last_of s b) ≡ true
within_whole false N b h l = lt-ltb b (2 ^ N) (omega (arith, pow_mono l))
within_whole true N b h l =
    let p : 6 ≤ N - 1 = omega arith in
    let w : 64 ≤ 2 ^ (N - 1) = pow_mono p in
    ⊎_elim
    (λ (k : 64 ≤ b). rw (le-ltb b 64 k) (lt-ltb (127 - b) (2 ^ (N - 1)) (omega arith)))
    (λ (k : b < 64). rw (lt-ltb b 64 k) (lt-ltb b (2 ^ (N - 1)) (omega arith)))
    (fits_or 64 b)

pub all_within : (s : Bool) (N b : ℕ) → b < 128 → 7 ≤ N → true ≡ within s N (last_of s b)
all_within s N b h l = sym (within_whole s N b h l)

-- all that was read, turned over at once
turn_whole : (neg : Bool) (k d v : ℕ) → d < 128 → v < 2 ^ k → turn_of neg (k + 7) (d * 2 ^ k + v) ≡ turn_of neg 7 d * 2 ^ k + turn_of neg k v
turn_whole false k d v h f = refl
turn_whole true k d v h f =
    let e : 2 ^ (k + 7) ≡ 2 ^ k * 128 = pow-add 2 k 7 in
    rw e (omega (arith, seven_up k d h))

-- the groups of v
split_at : (k v b : ℕ) → v / 2 ^ k ≡ b → v ≡ b * 2 ^ k + v % 2 ^ k
split_at k v b e = sym (split v k) ∙ ap (λ (x : ℕ). x * 2 ^ k + v % 2 ^ k) e

low_part : (k v : ℕ) → v % 2 ^ k < 2 ^ k
low_part k v = mod-lt v (pow_pos k)

-- ---- the shortest form: whether as few bytes as there are groups in k bits would do is told by the bits above those that they hold

pub shorter_none : (s : Bool) (a : ℕ) {k : ℕ} → k ≡ 0 → false ≡ is_le (7 * length (leb s (pos a))) k
shorter_none s a {k} e = sym (lt-leb (7 * length (leb s (pos a))) k (omega (arith, leb_some s (pos a))))

-- k bits of m + 1 groups
shorter_groups : (s : Bool) (a m j : ℕ) → j ≡ 7 * m + (7 - sign_bits s) → eqb (a / 2 ^ j) 0 ≡ is_le (7 * length (leb s (pos a))) (7 * (m + 1))
shorter_groups s a m j e =
    let l : limit_of s m ≡ 2 ^ j = limit_is s m ∙ ap (λ (x : ℕ). 2 ^ x) (sym e) in
    ⊎_elim
    (λ (g : 2 ^ j ≤ a).
    let n : a / 2 ^ j ≡ 0 → ⊥ = λ x. let y = none_above a j x in omega arith in
    ne_eqb (a / 2 ^ j) 0 n ∙ sym (lt-leb (7 * length (leb s (pos a))) (7 * (m + 1)) (omega (arith, bytes_above m s (pos a) (omega arith)))))
    (λ (g : a < 2 ^ j). eq-eqb (a / 2 ^ j) 0 (div-eq_of_lt g) ∙ sym (le-leb (7 * length (leb s (pos a))) (7 * (m + 1)) (omega (arith, bytes_at_most m s (pos a) (omega arith)))))
    (fits_or (2 ^ j) a)

module _ (s : Bool) (a k : ℕ) (some : k ≡ 0 → ⊥) (groups : k % 7 ≡ 0) where
  shorter_more : (j : ℕ) → j ≡ k - sign_bits s → eqb (a / 2 ^ j) 0 ≡ is_le (7 * length (leb s (pos a))) k
  shorter_more j e =
      let m = k / 7 - 1 in
      let x : 7 * (m + 1) ≡ k = omega (arith, some) in
      rw x at (shorter_groups s a m j (e ∙ bits s))
    where
      bits : (s : Bool) → k - sign_bits s ≡ 7 * (k / 7 - 1) + (7 - sign_bits s)
      bits true = omega (arith, some)
      bits false = omega (arith, some)

  pub shorter_signed : s ≡ true → eqb (a / 2 ^ (k - 1)) 0 ≡ is_le (7 * length (leb s (pos a))) k
  shorter_signed e = shorter_more (k - 1) (rw e)

  pub shorter_plain : s ≡ false → eqb (a / 2 ^ k) 0 ≡ is_le (7 * length (leb s (pos a))) k
  shorter_plain e = shorter_more k (rw e (omega arith))

-- with anything in its last group a number needs it
needs_top : (s : Bool) (a k : ℕ) → k % 7 ≡ 0 → (a / 2 ^ k ≡ 0 → ⊥) → is_le (7 * length (leb s (pos a))) k ≡ false
needs_top s a k h n = ⊎_elim none some (fits_or k 0)
  where
    none : k ≤ 0 → is_le (7 * length (leb s (pos a))) k ≡ false
    none z = lt-leb (7 * length (leb s (pos a))) k (omega (arith, leb_some s (pos a)))

    some : 0 < k → is_le (7 * length (leb s (pos a))) k ≡ false
    some z =
        let m = k / 7 - 1 in
        let b : limit_of s m ≤ 2 ^ k = rw (limit_is s m) (pow_mono (bits s)) in
        let g : 2 ^ k ≤ a = some_above a k n in
        lt-leb (7 * length (leb s (pos a))) k (omega (arith, bytes_above m s (pos a) (omega arith)))
      where
        bits : (s : Bool) → 7 * (k / 7 - 1) + (7 - sign_bits s) ≤ k
        bits true = omega arith
        bits false = omega arith

-- ---- a last byte as the code takes it: neg is its sign, and f the bits of it to turn over

module _ (s : Bool) (b : ℕ) {neg : Bool} {f : ℕ} (is : neg ≡ s && is_le 64 b) (seven : f ≡ ones_of neg 7) where
  top_is : b < 128 → bit_xor b f ≡ turn_of neg 7 b
  top_is small = rw seven (turned neg 7 b small)

  last-is : b < 128 → by_sign neg (bit_xor b f) ≡ last_of s b
  last-is small = rw (top_is small, is) (sign_last s b small)

  within_top : b < 128 → (N : ℕ) → within s N (last_of s b) ≡ ltb (bit_xor b f) (2 ^ (N - sign_bits s))
  within_top small N = sym (ap (within s N) (last-is small)) ∙ rw is (within_sign s (is_le 64 b) N (bit_xor b f))

  -- v in front of which the byte stands, turned over
  join_top : b < 128 → (k v : ℕ) → by_sign neg (bit_xor b f * 2 ^ k + turn_of neg k v) ≡ join_by k (last_of s b) v
  join_top small k v = sym (join_sign k neg (bit_xor b f) v) ∙ ap (λ (z : ℤ). join_by k z v) (last-is small)

  -- tested by the bits left for it
  pub within_is : (N : ℕ) {j : ℕ} → b < 128 → j ≡ N - sign_bits s → eqb (bit_xor b f / 2 ^ j) 0 ≡ within s N (last_of s b)
  within_is N {j} small e = above_test (bit_xor b f) j ∙ sym (within_top small N ∙ rw e)

  -- all seven bits within the width, and read already: o has the bits to turn over
  module _ {k v o : ℕ} (w : WholeByte k b v) (all : o ≡ ones_of neg (k + 7)) where
    whole_is : bit_xor v o ≡ bit_xor b f * 2 ^ k + turn_of neg k (v % 2 ^ k)
    whole_is =
        let small = w.small in
        let e : v ≡ b * 2 ^ k + v % 2 ^ k = split_at k v b w.is in
        let l : v < 2 ^ (k + 7) = rw e (below k b (v % 2 ^ k) small (low_part k v)) in
        rw (all, turned neg (k + 7) v l, top_is small) (ap (turn_of neg (k + 7)) e ∙ turn_whole neg k b (v % 2 ^ k) small (low_part k v))

    pub whole_topped : Topped k (bit_xor b f) (bit_xor v o)
    whole_topped = record { fits = omega (arith, w.fits); groups = w.groups; is = rw whole_is (digits_div (bit_xor b f) (turn_small neg k (v % 2 ^ k) (low_part k v))) }

    pub whole_value : (p : ℕ) {r : Option (Parts × ℕ)} → r ≡ short_at s k (by_sign neg (bit_xor v o)) p → r ≡ short_at s k (join_by k (last_of s b) (v % 2 ^ k)) p
    whole_value p e = e ∙ ap (λ (z : ℤ). short_at s k z p) (rw whole_is (join_top w.small k (v % 2 ^ k)))

  -- N bits of it within the width, and v read below it
  module _ {N k v j : ℕ} (c : CutByte N k b v) (left : j ≡ N - sign_bits s) where
    pub over_width : (p : ℕ) → (bit_xor b f / 2 ^ j ≡ 0 → ⊥) → None ≡ cond (within s N (last_of s b)) (short_at s k (join_by k (last_of s b) v) p) None
    over_width p n = rw (within_top c.small N, ← left, le-ltb _ _ (some_above (bit_xor b f) j n))

    module _ (none : bit_xor b f / 2 ^ j ≡ 0) where
      pub top_fits : Fits w64 (bit_xor b f)
      top_fits =
          let few : 2 ^ j ≤ 2 ^ 7 = pow_mono {i = j} {j = 7} (omega (arith, c.cut)) in
          record { fits = omega (arith, none_above (bit_xor b f) j none) }

      module _ {o : ℕ} (all : o ≡ ones_of neg k) where
        part_is : bit_or (bit_xor b f * 2 ^ k % 2 ^ 64) (bit_xor v o) ≡ bit_xor b f * 2 ^ k + turn_of neg k v
        part_is =
            rw (all, turned neg k v c.below)
            (in_front j k (bit_xor b f) (turn_of neg k v) (none_above (bit_xor b f) j none) (omega (arith, c.fits)) (turn_small neg k v c.below))

        pub part_topped : Topped k (bit_xor b f) (bit_or (bit_xor b f * 2 ^ k % 2 ^ 64) (bit_xor v o))
        part_topped = record { fits = omega (arith, c.some, c.fits); groups = c.groups; is = rw part_is (digits_div (bit_xor b f) (turn_small neg k v c.below)) }

        pub part_value : (p : ℕ) {r : Option (Parts × ℕ)} → r ≡ short_at s k (by_sign neg (bit_or (bit_xor b f * 2 ^ k % 2 ^ 64) (bit_xor v o))) p
            → r ≡ cond (within s N (last_of s b)) (short_at s k (join_by k (last_of s b) v) p) None
        part_value p e =
            rw (within_top c.small N, ← left, lt-ltb _ _ (none_above (bit_xor b f) j none))
            (e ∙ ap (λ (z : ℤ). short_at s k z p) (rw part_is (join_top c.small k v)))

-- ---- the bits to turn over

module _ (k : ℕ) (h : k < 64) where
  one_up : 1 * 2 ^ k % 2 ^ 64 ≡ 2 ^ k
  one_up = shl_exact {a = 1} 1 k 64 (omega arith) (omega arith) ∙ omega arith

  pub one_there : 1 ≤ 1 * 2 ^ k % 2 ^ 64
  one_there = omega (arith, one_up, pow_pos k)

  pub ones_turned : {neg : Bool} → neg ≡ true → 1 * 2 ^ k % 2 ^ 64 - 1 ≡ ones_of neg k
  ones_turned e = rw (e, one_up)

-- ---- the answer

module _ (s : Bool) (v : Parts) (k p : ℕ) where
  -- by the test
  short_is : {t : Bool} → is_le (7 * length (leb s (pos v.magnitude))) k ≡ t → short_at s k (by_sign v.neg v.magnitude) p ≡ cond t None (Some (v, p))
  short_is {t} e = rw (length_sign s v.neg v.magnitude, e) (ap (λ (x : Parts). cond t None (Some (x, p))) (back v.neg v.magnitude))
    where
      back : (neg : Bool) (a : ℕ) → parts (by_sign neg a) ≡ record { neg = neg; magnitude = a }
      back true a = refl
      back false a = refl

  pub short_less : {t : Bool} → t ≡ is_le (7 * length (leb s (pos v.magnitude))) k → t ≡ true → None ≡ short_at s k (by_sign v.neg v.magnitude) p
  short_less e y = sym (short_is (sym e ∙ y))

  pub short_enough : {t : Bool} → t ≡ is_le (7 * length (leb s (pos v.magnitude))) k → t ≡ false → Some (v, p) ≡ short_at s k (by_sign v.neg v.magnitude) p
  short_enough e n = sym (short_is (sym e ∙ n))

  pub short_topped : {top : ℕ} → Topped k top v.magnitude → (top ≡ 0 → ⊥) → Some (v, p) ≡ short_at s k (by_sign v.neg v.magnitude) p
  short_topped t n = sym (short_is (needs_top s v.magnitude k t.groups (λ e. n (sym t.is ∙ e))))
