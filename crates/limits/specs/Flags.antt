-- The flags of limits (document 01, Records, Table; Core Specification 3.0, Binary Format, Types, Limits; shared is the threads rule's): bit 0 maximum present,
-- bit 1 shared, bit 2 64-bit, others 0. They are the same number as a word and as a byte. Assumes nothing.
use Rattle.std.specs.Prelude.{◌≡◌, Bool, ℕ, ◌+◌, ◌*◌, ◌/◌, ◌%◌, ◌<◌, eqb}
use Rattle.std.proofs.Common.{sym, ap, ◌∙◌, arith}
use Rattle.std.proofs.Math.Option.{some}
use Rattle.format.specs.Format.{Format}
use Rattle.format.specs.Basic.{number, via, bit, bit_small, bit_one, eqb_bit}

pub record Flags : Type 0 where
  pub present : Bool
  pub shared : Bool
  pub wide : Bool

abbrev pub flags_to : Flags → ℕ
flags_to f = bit f.present + 2 * bit f.shared + 4 * bit f.wide

abbrev pub flags_of : ℕ → Flags
flags_of x = record { present = eqb (x % 2) 1; shared = eqb (x / 2 % 2) 1; wide = eqb (x / 4) 1 }

pub flags_small : (f : Flags) → flags_to f < 8
flags_small f =
    let p = bit_small f.present in
    let s = bit_small f.shared in
    let w = bit_small f.wide in
    omega arith

pub flags_of_to : (f : Flags) → flags_of (flags_to f) ≡ f
flags_of_to f =
    let p = bit f.present in
    let s = bit f.shared in
    let w = bit f.wide in
    let hp : p < 2 = bit_small f.present in
    let hs : s < 2 = bit_small f.shared in
    let hw : w < 2 = bit_small f.wide in
    let e0 : (p + 2 * s + 4 * w) % 2 ≡ p = omega arith in
    let d : (p + 2 * s + 4 * w) / 2 ≡ s + 2 * w = omega arith in
    let d' : (p + 2 * s + 4 * w) / 2 / 2 ≡ w = omega arith in
    let e1 : (p + 2 * s + 4 * w) / 2 % 2 ≡ s = omega arith in
    let e2 : (p + 2 * s + 4 * w) / 4 ≡ w = omega arith in
    rw (e0, e1, e2, eqb_bit f.present, eqb_bit f.shared, eqb_bit f.wide)

pub flags_to_of : (x : ℕ) → x < 8 → flags_to (flags_of x) ≡ x
flags_to_of x h =
    let d : x / 4 ≡ x / 2 / 2 = omega arith in
    let p : bit (eqb (x % 2) 1) ≡ x % 2 = bit_one (x % 2) (omega arith) in
    let s : bit (eqb (x / 2 % 2) 1) ≡ x / 2 % 2 = bit_one (x / 2 % 2) (omega arith) in
    let w : bit (eqb (x / 4) 1) ≡ x / 4 = bit_one (x / 4) (omega arith) in
    omega arith

pub flags_only : (x : ℕ) (f : Flags) → x < 8 → some (flags_of x) ≡ some f → x ≡ flags_to f
flags_only x f h e = let o : flags_of x ≡ f = cc in sym (flags_to_of x h) ∙ ap flags_to o

abbrev pub flags : Format Flags
flags =
    via (number 8)
    (record {
      OkA = λ f. Unit {0};
      to = flags_to;
      of = λ x. some (flags_of x);
      fits = λ f h. flags_small f;
      of_to = λ f h. ap some (flags_of_to f);
      to_of = λ x f h e. (tt, flags_only x f h e);
    })
