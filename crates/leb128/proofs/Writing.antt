-- What the code of the writers comes to: groups of seven bits by masks and marks, and the room that a number needs. Assumes nothing.
use mathlib.Core.Path.{◌≡◌, refl, sym, ap, ◌∙◌}
use mathlib.Core.Logic.{⊎_elim}
use mathlib.Core.Bool.{Bool, true, false, not}
use mathlib.Core.List.{List, [], ◌∷◌}
use Prim.Native.Nat.{ℕ, ◌+◌, ◌-◌, ◌*◌, ◌/◌, ◌%◌, ◌≤◌, ◌<◌, ◌^◌}
use native.Mathlib.Nat.{mod-eq_of_lt, div-lt_self}
use native.Mathlib.Omega.{arith}
use mir.Syntax.{w8, w64}
use mir.Val.{Fits}
use lib.Bits.{bit_and, bit_or, bit_xor, and_le_r, and_mask, or_shifted_r, xor_zero_r, xor_add_and}
use borrow.Author.Tests.{le-leb, leb-true, leb-false, not-true, not-false}
use lib.Dec.{leb as le}
use lib.IntN.{ℤ, pos}
use lib.ListN.{length, set, length-set}
use lib.Signed.{mag, shr_z}
use Rattle.format.specs.Write.{Writes, over, writes, writes_not, write_one, todo, todo_start, todo_byte, todo_end, fits_or}
use Rattle.std.specs.Prelude.{Ok, Err}
use Rattle.format.specs.declared.refusal.Refusal.TheVariants.{OutputShort}
use Rattle.leb128.specs.Leb.{limit, low, leb}
use Rattle.leb128.proofs.LebLaws.{low_small, leb_last, leb_more, leb_some, limit_some, limit_of, bytes_at_most, bytes_above}
use Rattle.leb128.specs.Parts.{by_sign, mag_sign, ones_of}

-- ---- a group

-- k bits as they are, or turned over
abbrev pub turn_of : Bool → ℕ → ℕ → ℕ
turn_of false k x = x
turn_of true k x = 2 ^ k - 1 - x

pub turned : (neg : Bool) (k x : ℕ) → x < 2 ^ k → bit_xor x (ones_of neg k) ≡ turn_of neg k x
turned false k x h = xor_zero_r x
turned true k x h =
    let m : bit_and x (2 ^ k - 1) ≡ x = and_mask x k ∙ mod-eq_of_lt h in
    let s : bit_xor x (2 ^ k - 1) + bit_and x (2 ^ k - 1) * 2 ≡ x + (2 ^ k - 1) = xor_add_and x (2 ^ k - 1) in
    omega arith

group : (neg : Bool) (w : ℕ) → bit_xor (bit_and w 127) (ones_of neg 7) ≡ low (by_sign neg w)
group neg w = rw (and_mask w 7) (turned neg 7 (w % 128) (omega arith) ∙ same neg)
  where
    same : (neg : Bool) → turn_of neg 7 (w % 128) ≡ low (by_sign neg w)
    same true = refl
    same false = refl

marked : (d : ℕ) → d < 128 → bit_or d 128 ≡ d + 128
marked d h = or_shifted_r 1 7 d h ∙ omega arith

shr_sign : (neg : Bool) (w : ℕ) → shr_z (by_sign neg w) 128 ≡ by_sign neg (w / 128)
shr_sign true w = refl
shr_sign false w = refl

-- f is the group's bits to turn over, as the code has them
module _ (s neg : Bool) (w : ℕ) {f : ℕ} (is : f ≡ ones_of neg 7) where
  leb_end : w < limit s → leb s (by_sign neg w) ≡ bit_xor (bit_and w 127) f ∷ []
  leb_end h = leb_last s (by_sign neg w) (omega (arith, mag_sign neg w)) ∙ rw (is, group neg w)

  leb_step : limit s ≤ w → leb s (by_sign neg w) ≡ bit_or (bit_xor (bit_and w 127) f) 128 ∷ leb s (by_sign neg (w / 128))
  leb_step h =
      leb_more s (by_sign neg w) (omega (arith, mag_sign neg w))
      ∙ rw (is, group neg w, marked (low (by_sign neg w)) (low_small (by_sign neg w)), shr_sign neg w)

pub group_fits : (w : ℕ) → Fits w8 (bit_and w 127)
group_fits w = record { fits = omega (arith, and_le_r w 127) }

pub group_fits_wide : (w : ℕ) → Fits w64 (bit_and w 127)
group_fits_wide w = record { fits = omega (arith, and_le_r w 127) }

-- ---- room

-- the sign does not count
at_most : (s : Bool) (x y : ℤ) → mag x ≡ mag y → length (leb s x) ≤ length (leb s y)
at_most s x y e =
    let m = length (leb s y) - 1 in
    let some = leb_some s y in
    ⊎_elim
    (λ (h : limit_of s m ≤ mag y). absurd (omega (arith, bytes_above m s y h)))
    (λ (h : mag y < limit_of s m). omega (arith, bytes_at_most m s x (omega arith)))
    (fits_or (limit_of s m) (mag y))

pub length_sign : (s neg : Bool) (a : ℕ) → length (leb s (by_sign neg a)) ≡ length (leb s (pos a))
length_sign s neg a = omega (arith, at_most s (by_sign neg a) (pos a) (mag_sign neg a), at_most s (pos a) (by_sign neg a) (sym (mag_sign neg a)))

-- ten bytes are enough for any number of 64 bits
pub ten : (s : Bool) (a : ℕ) → a < 2 ^ 64 → length (leb s (pos a)) ≤ 10
ten true a h = bytes_at_most 9 true (pos a) (omega arith)
ten false a h = bytes_at_most 9 false (pos a) (omega arith)

pub ten_fits : (s : Bool) (a room : ℕ) → Fits w64 a → 10 ≤ room → true ≡ le (length (leb s (pos a))) room
ten_fits s a room f h = sym (le-leb (length (leb s (pos a))) room (omega (arith, ten s a f.fits)))

-- l is the limit of what a last byte holds, as the code has it
pub less_left : (s : Bool) (w n : ℕ) {l : ℕ} → l ≡ limit s → l ≤ w → 1 < n → w / n < w
less_left s w n e h m = div-lt_self (omega (arith, limit_some s)) m

-- ---- how many bytes: n are counted of those of a, and the last one of w, which is left, is among them

pub record Counted (s : Bool) (a w n : ℕ) : Type 0 where
  pub is : n + length (leb s (pos w)) ≡ 1 + length (leb s (pos a))

pub count_starts : {s : Bool} {a : ℕ} → Counted s a a 1
count_starts = record { is = refl }

module _ {s : Bool} {a w n : ℕ} (c : Counted s a w n) where
  pub count_fits : Fits w64 a → Fits w64 (n + 1)
  count_fits f = record { fits = omega (arith, c.is, ten s a f.fits) }

  pub count_goes_on : {l : ℕ} → l ≡ limit s → l ≤ w → Counted s a (w / 128) (n + 1)
  count_goes_on e h = record { is = omega (arith, c.is, ap length (leb_more s (pos w) (omega arith))) }

  pub count_ends : {l : ℕ} → l ≡ limit s → w < l → n ≡ length (leb s (pos a))
  count_ends e h = omega (arith, c.is, ap length (leb_last s (pos w) (omega arith)))

-- ---- what is written

-- of the number a, w is left to write, from place i on: what the buffer will be stays what it is to be
pub record PutTo (s neg : Bool) (a : ℕ) (xs : List ℕ) (w i : ℕ) (ys : List ℕ) : Type 0 where
  pub will : todo i (leb s (by_sign neg w)) ys ≡ over (leb s (by_sign neg a)) xs
  pub count : i + length (leb s (by_sign neg w)) ≡ length (leb s (by_sign neg a))
  pub room : length (leb s (by_sign neg a)) ≤ length xs
  pub kept : length ys ≡ length xs
  pub inside : i < length ys

-- t is what the test for room says
module _ (s neg : Bool) (a : ℕ) (xs : List ℕ) {t : Bool} (e : t ≡ le (length (leb s (pos a))) (length xs)) where
  pub put_short : not t ≡ true → Writes (leb s (by_sign neg a)) xs xs (Err OutputShort)
  put_short n = let h = leb-false (length (leb s (pos a))) (length xs) (sym e ∙ not-true t n) in writes_not (omega (arith, length_sign s neg a))

  pub put_starts : not t ≡ false → PutTo s neg a xs a 0 xs
  put_starts y =
      let h = leb-true (length (leb s (pos a))) (length xs) (sym e ∙ not-false t y) in
      let n = length_sign s neg a in
      record { will = todo_start (leb s (by_sign neg a)) xs; count = omega arith; room = omega arith; kept = refl; inside = omega (arith, leb_some s (pos a)) }

module _ {s neg : Bool} {a : ℕ} {xs : List ℕ} {w i : ℕ} {ys : List ℕ} (p : PutTo s neg a xs w i ys) where
  pub put_kept : (b : ℕ) → length (set ys i b) ≡ length xs
  put_kept b = simp length-set p.kept

  module _ {l : ℕ} (is : l ≡ limit s) {f : ℕ} (turn : f ≡ ones_of neg 7) where
    pub put_goes_on : l ≤ w → PutTo s neg a xs (w / 128) (i + 1) (set ys i (bit_or (bit_xor (bit_and w 127) f) 128))
    put_goes_on h =
        let step = leb_step s neg w turn (omega arith) in
        let n = ap length step in
        let rest = leb_some s (by_sign neg (w / 128)) in
        record {
          will = todo_byte i _ (leb s (by_sign neg (w / 128))) ys p.inside ∙ rw step at p.will;
          count = omega (arith, p.count);
          room = p.room;
          kept = put_kept _;
          inside = simp length-set (omega (arith, p.count, p.room, p.kept));
        }

    pub put_ends : w < l → Writes (leb s (by_sign neg a)) xs (set ys i (bit_xor (bit_and w 127) f)) (Ok (i + 1))
    put_ends h =
        let end = leb_end s neg w turn (omega arith) in
        writes p.room (omega (arith, p.count, ap length end))
        (sym (todo_end (i + 1) (set ys i _)) ∙ todo_byte i _ [] ys p.inside ∙ rw end at p.will)

-- a number that a last byte holds
module _ (s neg : Bool) (a : ℕ) (xs : List ℕ) where
  pub byte_short : length xs ≡ 0 → Writes (leb s (by_sign neg a)) xs xs (Err OutputShort)
  byte_short h = writes_not (omega (arith, leb_some s (by_sign neg a)))

  pub byte_put : {l : ℕ} → l ≡ limit s → a < l → (length xs ≡ 0 → ⊥) → {f : ℕ} → f ≡ ones_of neg 7 → Writes (leb s (by_sign neg a)) xs (set xs 0 (bit_xor (bit_and a 127) f)) (Ok 1)
  byte_put e h n {f} turn = rw (leb_end s neg a turn (omega arith)) (write_one (bit_xor (bit_and a 127) f) xs (omega (arith, n)))
