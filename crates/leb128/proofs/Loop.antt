-- The readers' loop: how far it has come, and what its answer is once it meets a last byte, or none. Assumes nothing.
use mathlib.Core.Path.{◌≡◌, refl, sym, ap, ◌∙◌}
use mathlib.Core.Logic.{⊎_elim}
use mathlib.Core.Bool.{Bool, true, false, cond}
use mathlib.Core.List.{List, []}
use Prim.Native.Nat.{ℕ, ◌+◌, ◌-◌, ◌*◌, ◌%◌, ◌≤◌, ◌<◌, ◌^◌}
use native.Mathlib.Omega.{arith}
use mir.Syntax.{w8, w32, w64}
use mir.Val.{Fits}
use borrow.Author.Tests.{eq-eqb, ne_eqb, le-leb, lt-leb}
use lib.Arith.{digits_div, digits_mod}
use lib.Bits.{bit_and, bit_or}
use lib.IntN.{ℤ}
use lib.ListN.{length, drop, get_or, length-append, length-drop}
use lib.Pow.{pow_pos}
use Rattle.format.specs.Parsed.{Parsed, fail, got, map, map-map}
use Rattle.format.specs.Read.{place_at, drop_more, drop_end}
use Rattle.format.specs.Write.{fits_or}
use Rattle.leb128.specs.Leb.{within, leb, last_of, join, wide, short, taken}
use Rattle.leb128.proofs.LebLaws.{wide_last, wide_over, wide_more, wide_long, wide_form}
use Rattle.leb128.specs.Parts.{join_by, parts_of, short_at, WholeByte, CutByte}
use Rattle.leb128.specs.declared.Parts.{Parts}
use Rattle.std.specs.Prelude.{Option, None}
use Rattle.leb128.proofs.Reading.{join_start, join_more, below, behind, within_whole}

-- of a number that begins at `at`, k bits are read, v, and the rest stands from i on
pub record Reads (s : Bool) (N : ℕ) (xs : List ℕ) (at v k i : ℕ) : Type 0 where
  pub rest : wide s N (drop at xs) ≡ map (λ z. join_by k z v) (wide s (N - k) (drop i xs))
  pub small : v < 2 ^ k
  pub room : k < N
  pub after : at ≤ i
  pub groups : k ≡ 7 * (i - at)
  pub cut : 1 ≤ N % 7
  pub few : N ≤ 64

map_start : (m : Parsed ℤ) → m ≡ map (λ z. join_by 0 z 0) m
map_start fail = refl
map_start (got z r) = ap (λ (y : ℤ). got y r) (sym (join_start z))

map_same : (f g : ℤ → ℤ) → ((z : ℤ) → f z ≡ g z) → (m : Parsed ℤ) → map f m ≡ map g m
map_same f g e fail = refl
map_same f g e (got z r) = ap (λ (y : ℤ). got y r) (e z)

pub wide_none : (s : Bool) (N : ℕ) → wide s N [] ≡ fail
unfolding wide
wide_none s N = refl

pub reads_start : {s : Bool} {N : ℕ} {xs : List ℕ} {at : ℕ} → 1 ≤ N % 7 → N ≤ 64 → Reads s N xs at 0 0 at
reads_start {s} {N} {xs} {at} h l =
    let e : N - 0 ≡ N = omega arith in
    record { rest = rw e (map_start (wide s N (drop at xs))); small = pow_pos 0; room = omega arith; after = omega arith; groups = omega arith; cut = h; few = l }

-- nothing is read
none : (s : Bool) (N : ℕ) (xs : List ℕ) (at : ℕ) → wide s N (drop at xs) ≡ fail → None ≡ parts_of xs (short s N (drop at xs))
none s N xs at e = sym (rw e)

-- z is read, up to p, in n bytes: it is in its shortest form or not
found_at : (s : Bool) (N : ℕ) (xs : List ℕ) (at p : ℕ) (z : ℤ) → wide s N (drop at xs) ≡ got z (drop p xs) → p ≤ length xs → at < p
    → short_at s (7 * (p - at - 1)) z p ≡ parts_of xs (short s N (drop at xs))
found_at s N xs at p z e h l = ⊎_elim few all (fits_or (7 * length (leb s z)) (7 * (p - at - 1)))
  where
    count : taken (drop at xs) (drop p xs) ≡ p - at
    count = omega (arith, length-drop at xs, length-drop p xs)

    least : length (leb s z) ≤ p - at
    least =
        let f = wide_form s N (drop at xs) z (drop p xs) e in
        omega (arith, f.stands.shortest, simp length-append at (ap length f.front), length-drop at xs, length-drop p xs)

    few : 7 * length (leb s z) ≤ 7 * (p - at - 1) → short_at s (7 * (p - at - 1)) z p ≡ parts_of xs (short s N (drop at xs))
    few g =
        rw (le-leb (7 * length (leb s z)) (7 * (p - at - 1)) g)
        (sym (rw (e, ne_eqb (taken (drop at xs) (drop p xs)) (length (leb s z)) (λ (x : taken (drop at xs) (drop p xs) ≡ length (leb s z)). omega (arith, count)))))

    all : 7 * (p - at - 1) < 7 * length (leb s z) → short_at s (7 * (p - at - 1)) z p ≡ parts_of xs (short s N (drop at xs))
    all g =
        rw (lt-leb (7 * length (leb s z)) (7 * (p - at - 1)) g)
        (sym (rw (e, eq-eqb (taken (drop at xs) (drop p xs)) (length (leb s z)) (omega (arith, count, least)), place_at xs p h)))

module _ {s : Bool} {N : ℕ} {xs : List ℕ} {at v k i : ℕ} (R : Reads s N xs at v k i) where
  -- no byte is left
  pub reads_end : length xs ≤ i → None ≡ parts_of xs (short s N (drop at xs))
  reads_end h = none s N xs at (R.rest ∙ rw (drop_end xs i h, wide_none s (N - k)))

  -- a last byte
  reads-last : i < length xs → get_or xs i 0 < 128 → within s (N - k) (last_of s (get_or xs i 0)) ≡ true
      → short_at s k (join_by k (last_of s (get_or xs i 0)) v) (i + 1) ≡ parts_of xs (short s N (drop at xs))
  reads-last b h w =
      let z = join_by k (last_of s (get_or xs i 0)) v in
      let e : wide s N (drop at xs) ≡ got z (drop (i + 1) xs) = R.rest ∙ rw (drop_more xs i b, wide_last s (N - k) (get_or xs i 0) (drop (i + 1) xs) h w) in
      let g : 7 * (i + 1 - at - 1) ≡ k = omega (arith, R.groups, R.after) in
      rw g at (found_at s N xs at (i + 1) z e (omega arith) (omega (arith, R.after)))

  -- seven bits more are within the width
  module _ (more : k + 7 ≤ N) where
    pub shift_fits : Fits w64 k
    shift_fits = record { fits = omega (arith, R.few) }

    pub shift_small : k < 64
    shift_small = omega (arith, R.few)

    pub next_fits : Fits w32 (k + 7)
    next_fits = record { fits = omega (arith, R.few) }

    put : bit_or v (bit_and (get_or xs i 0) 127 * 2 ^ k % 2 ^ 64) ≡ get_or xs i 0 % 128 * 2 ^ k + v
    put = behind k (get_or xs i 0) v (omega (arith, R.few)) R.small

    module _ (h : get_or xs i 0 < 128) where
      same : get_or xs i 0 % 128 ≡ get_or xs i 0
      same = omega arith

      pub whole_asked : WholeByte k (get_or xs i 0) (bit_or v (bit_and (get_or xs i 0) 127 * 2 ^ k % 2 ^ 64))
      whole_asked = record { fits = omega (arith, R.few, R.cut, R.groups); groups = omega (arith, R.groups); small = h; is = rw (put, same) (digits_div (get_or xs i 0) R.small) }

      pub whole_read : i < length xs → {r : Option (Parts × ℕ)} → r ≡ short_at s k (join_by k (last_of s (get_or xs i 0)) (bit_or v (bit_and (get_or xs i 0) 127 * 2 ^ k % 2 ^ 64) % 2 ^ k)) (i + 1)
          → r ≡ parts_of xs (short s N (drop at xs))
      whole_read b e =
          let low : bit_or v (bit_and (get_or xs i 0) 127 * 2 ^ k % 2 ^ 64) % 2 ^ k ≡ v = rw (put, same) (digits_mod (get_or xs i 0) R.small) in
          e ∙ ap (λ (x : ℕ). short_at s k (join_by k (last_of s (get_or xs i 0)) x) (i + 1)) low ∙ reads-last b h (within_whole s (N - k) (get_or xs i 0) h (omega arith))

    -- one group more
    pub reads_more : i < length xs → ((j : ℕ) → Fits w8 (get_or xs j 0)) → 128 ≤ get_or xs i 0 → Reads s N xs at (bit_or v (bit_and (get_or xs i 0) 127 * 2 ^ k % 2 ^ 64)) (k + 7) (i + 1)
    reads_more b each h =
        let d = get_or xs i 0 - 128 in
        let g : get_or xs i 0 < 256 = omega (arith, each i) in
        let e : N - k - 7 ≡ N - (k + 7) = omega arith in
        let m : get_or xs i 0 % 128 ≡ get_or xs i 0 - 128 = omega arith in
        rw (put, m)
        (record {
          rest =
              R.rest
              ∙ rw (drop_more xs i b, wide_more s (N - k) (get_or xs i 0) (drop (i + 1) xs) h g (omega (arith, R.cut, R.groups)), e)
              (map-map (λ z. join_by k z v) (λ z. join z d) (wide s (N - (k + 7)) (drop (i + 1) xs))
              ∙ map_same (λ z. join_by k (join z d) v) (λ z. join_by (k + 7) z (d * 2 ^ k + v)) (λ z. join_more k z d v (omega arith) R.small) (wide s (N - (k + 7)) (drop (i + 1) xs)));
          small = below k d v (omega arith) R.small;
          room = omega (arith, R.cut, R.groups);
          after = omega (arith, R.after);
          groups = omega (arith, R.groups, R.after);
          cut = R.cut;
          few = R.few;
        })

  -- the last group that the width allows
  module _ (cut : N < k + 7) where
    -- too many bytes
    pub reads_long : i < length xs → 128 ≤ get_or xs i 0 → None ≡ parts_of xs (short s N (drop at xs))
    reads_long b h = none s N xs at (R.rest ∙ rw (drop_more xs i b, wide_long s (N - k) (get_or xs i 0) (drop (i + 1) xs) h (omega (arith, R.room))))

    pub last_asked : get_or xs i 0 < 128 → CutByte (N - k) k (get_or xs i 0) v
    last_asked h = record { some = omega (arith, R.room); cut = omega (arith, R.room); fits = omega (arith, R.room, R.few); groups = omega (arith, R.groups); below = R.small; small = h }

  pub bits_left : k ≤ N
  bits_left = omega (arith, R.room)

  pub last_read : i < length xs → get_or xs i 0 < 128
      → {r : Option (Parts × ℕ)} → r ≡ cond (within s (N - k) (last_of s (get_or xs i 0))) (short_at s k (join_by k (last_of s (get_or xs i 0)) v) (i + 1)) None → r ≡ parts_of xs (short s N (drop at xs))
  last_read b h e = e ∙ go (within s (N - k) (last_of s (get_or xs i 0))) refl
    where
      go : (t : Bool) → within s (N - k) (last_of s (get_or xs i 0)) ≡ t
          → cond t (short_at s k (join_by k (last_of s (get_or xs i 0)) v) (i + 1)) None ≡ parts_of xs (short s N (drop at xs))
      go true w = reads-last b h w
      go false w = none s N xs at (R.rest ∙ rw (drop_more xs i b, wide_over s (N - k) (get_or xs i 0) (drop (i + 1) xs) h w))
