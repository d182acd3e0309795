-- From a number by its sign and its magnitude to the answer of each reader. Assumes nothing.
use mathlib.Core.Path.{◌≡◌, refl, sym, ap, ◌∙◌}
use mathlib.Core.Bool.{Bool, true, false}
use mathlib.Core.List.{List, ◌∷◌, ◌++◌}
use Prim.Native.Nat.{ℕ, ◌+◌, ◌-◌, ◌≤◌, ◌<◌, ◌^◌}
use native.Mathlib.Omega.{arith}
use borrow.Author.Tests.{ltb-true, lt-ltb}
use lib.IntN.{ℤ, pos, negsuc}
use lib.ListN.{length, drop, get_or}
use native.Mathlib.Nat.{lt_of_lt_of_le}
use mir.Syntax.{w32, w64}
use mir.Val.{SFits, to_z, of_z}
use lib.Pow.{pow_mono}
use lib.Signed.{mag}
use Rattle.format.specs.Parsed.{Parsed, fail, got}
use Rattle.format.specs.Read.{found, nothing, reading, place_of, drop_more, drop_end, reads, reads_not, told_found}
use Rattle.leb128.proofs.LebLaws.{leb_last}
use Rattle.leb128.proofs.Loop.{wide_none}
use Rattle.leb128.specs.Leb.{uleb, unsigned, signed, within, short}
use Rattle.leb128.proofs.Formats.{natural, below, u_n, s32, short_only}
use Rattle.leb128.specs.Parts.{by_sign, parts, parts_of, mag_sign}
use Rattle.leb128.specs.declared.Parts.{Parts}
use Rattle.std.specs.Prelude.{Option, Some}
use Rattle.std.proofs.lemmas.Option.{some_pair_parts}
use Rattle.numbers.specs.Answers.{read_as}
use Rattle.numbers.proofs.Signs.{cast32, back32}

-- ---- an answer, turned back into what was read

parts_back : (z : ℤ) → by_sign (parts z).neg (parts z).magnitude ≡ z
parts_back (pos n) = refl
parts_back (negsuc n) = refl

parts_inv : (xs : List ℕ) (m : Parsed ℤ) (v : Parts) (p : ℕ) → parts_of xs m ≡ Some (v, p) → (q : List ℕ) × (m ≡ got (by_sign v.neg v.magnitude) q) × (p ≡ place_of xs q)
parts_inv xs fail v p e = cc
parts_inv xs (got z q) v p e =
    let (x, y) = some_pair_parts (parts z) v (place_of xs q) p e in
    (q, ap (λ (i : ℤ). got i q) (sym (parts_back z) ∙ ap (λ (w : Parts). by_sign w.neg w.magnitude) x), sym y)

module _ (xs : List ℕ) (m : Parsed ℤ) {r : Option (Parts × ℕ)} (said : r ≡ parts_of xs m) where
  pub said_value : {v : Parts} {p : ℕ} → r ≡ Some (v, p) → (q : List ℕ) × (m ≡ got (by_sign v.neg v.magnitude) q) × (p ≡ place_of xs q)
  said_value {v} {p} e = parts_inv xs m v p (sym said ∙ e)

-- what is read, and what is to be answered
module _ (s : Bool) (N : ℕ) (xs b : List ℕ) (neg : Bool) (a p : ℕ) (q : List ℕ) (e : short s N b ≡ got (by_sign neg a) q) (at : p ≡ place_of xs q) where
  module _ (M : ℕ) (fits : (n : ℕ) → n < M → within s N (pos n) ≡ true) where
    natural_is : neg ≡ false → a < M → found a p ≡ reading 0 xs ((natural s N M fits).parse b)
    natural_is n h = let g : short s N b ≡ got (pos a) q = e ∙ ap (λ (x : Bool). got (by_sign x a) q) n in rw (g, at, lt-ltb a M h)

module _ (s : Bool) (N : ℕ) (xs : List ℕ) (at : ℕ) {r : Option (Parts × ℕ)} (said : r ≡ parts_of xs (short s N (drop at xs))) where
  value_fits : {v : Parts} {p : ℕ} → r ≡ Some (v, p) → within s N (by_sign v.neg v.magnitude) ≡ true
  value_fits {v} e = let f = said_value xs (short s N (drop at xs)) said e in (short_only s N (drop at xs) (by_sign v.neg v.magnitude) f.0 f.1).0

-- ---- a natural number below M

module _ (s : Bool) (N M : ℕ) (fits : (n : ℕ) → n < M → within s N (pos n) ≡ true) (xs : List ℕ) (at : ℕ) {r : Option (Parts × ℕ)} (said : r ≡ parts_of xs (short s N (drop at xs))) where
  module _ {v : Parts} {p : ℕ} (e : r ≡ Some (v, p)) where
    natural_found : v.neg ≡ false → v.magnitude < M → found v.magnitude p ≡ reading 0 xs ((natural s N M fits).parse (drop at xs))
    natural_found n h = let f = said_value xs (short s N (drop at xs)) said e in natural_is s N xs (drop at xs) v.neg v.magnitude p f.0 f.1 f.2 M fits n h

-- ---- an integer of at most 64 bits

module _ (N : ℕ) (xs : List ℕ) (at : ℕ) {r : Option (Parts × ℕ)} (said : r ≡ parts_of xs (short signed N (drop at xs))) where
  module _ (most : N ≤ 64) {v : Parts} {p : ℕ} (e : r ≡ Some (v, p)) where
    pub integer_fits : v.magnitude < 2 ^ 63
    integer_fits =
        let h : mag (by_sign v.neg v.magnitude) < 2 ^ (N - 1) = ltb-true (mag (by_sign v.neg v.magnitude)) (2 ^ (N - 1)) (value_fits signed N xs at said e) in
        lt_of_lt_of_le (rw (mag_sign v.neg v.magnitude) at h) (pow_mono {i = N - 1} {j = 63} (omega arith))

-- ---- a number without a sign

unsigned_range : (N : ℕ) (neg : Bool) (a : ℕ) → within unsigned N (by_sign neg a) ≡ true → (neg ≡ false) × (a < 2 ^ N)
unsigned_range N false a w = (refl, ltb-true a (2 ^ N) w)
unsigned_range N true a w = let z : ◌≡◌ {A = ℕ} 0 1 = cc in absurd (omega arith)

module _ (N : ℕ) (xs : List ℕ) (at : ℕ) {r : Option (Parts × ℕ)} (said : r ≡ parts_of xs (short unsigned N (drop at xs))) where
  pub unsigned_found : {v : Parts} {p : ℕ} → r ≡ Some (v, p) → found v.magnitude p ≡ reading 0 xs ((u_n N).parse (drop at xs))
  unsigned_found {v} e = let f = unsigned_range N v.neg v.magnitude (value_fits unsigned N xs at said e) in natural_found unsigned N (2 ^ N) (below N) xs at said e f.0 f.1

-- none at all, and those of one byte

pub unsigned_none : (N : ℕ) (xs : List ℕ) (at : ℕ) → length xs ≤ at → nothing 0 ≡ reading 0 xs ((u_n N).parse (drop at xs))
unsigned_none N xs at h = reads_not 0 xs {m = (u_n N).parse (drop at xs)} (rw (drop_end xs at h, wide_none unsigned N))

-- of the byte x, which is the value v
pub unsigned_one : (N : ℕ) (xs : List ℕ) (at : ℕ) {x v : ℕ} → 7 ≤ N → at < length xs → x ≡ get_or xs at 0 → v ≡ x → x < 128 → found v (at + 1) ≡ reading 0 xs ((u_n N).parse (drop at xs))
unsigned_one N xs at {x} {v} w l y z h =
    let e : drop at xs ≡ uleb v ++ drop (at + 1) xs = drop_more xs at l ∙ rw (← y, z) (sym (rw (leb_last unsigned (pos x) h) (ap (λ (k : ℕ). k ∷ drop (at + 1) xs) (omega arith)))) in
    reads 0 xs (ap (u_n N).parse e ∙ (u_n N).back v (drop (at + 1) xs) (omega (arith, pow_mono w))) (omega arith)

-- ---- one of 32 bits is one of 64 that fits

module _ (xs : List ℕ) (at : ℕ) {r : Option (ℤ × ℕ)} (said : read_as (pos 0) r ≡ reading (pos 0) xs (s32.parse (drop at xs))) where
  module _ {z : ℤ} {p : ℕ} (e : r ≡ Some (z, p)) where
    told : found z p ≡ reading (pos 0) xs (s32.parse (drop at xs))
    told = sym (ap (read_as (pos 0)) e) ∙ said

    small : within signed 32 z ≡ true
    small = (s32.only (drop at xs) z (drop p xs) (told_found (pos 0) xs s32 at told).0).0

    pub fits_i32 : SFits w32 (to_z w64 (of_z w64 z))
    fits_i32 = cast32 z small

    pub found_i32 : found (to_z w32 (of_z w32 (to_z w64 (of_z w64 z)))) p ≡ reading (pos 0) xs (s32.parse (drop at xs))
    found_i32 = rw (back32 z small) told
