-- A character's bytes as a format: `utf8`, and how it is read back. Assumes nothing.
use Rattle.std.specs.Prelude.{◌≡◌, refl, Bool, true, false, cond, not, ◌&&◌, List, [], ◌∷◌, ◌++◌, ℕ, ◌+◌, ◌-◌, ◌*◌, ◌/◌, ◌%◌, ◌≤◌, ◌<◌, ltb, leb, length}
use Rattle.std.proofs.Common.{sym, ap, ◌∙◌, ⊎_elim, true≢false, arith, lt-ltb, le-ltb, ltb-true, ltb-false, le-leb, leb-true}
use Rattle.std.proofs.Math.Option.{Option, none, some, none-ne-some}
use Rattle.std.proofs.lemmas.Bool.{lt-leb}
use Rattle.format.specs.Parsed.{Parsed, fail, got, fail_got, got_value, got_rest}
use Rattle.format.specs.Format.{Format}
use Rattle.format.specs.Basic.{number, via}
use Rattle.format.specs.Combine.{pair}
use Rattle.format.specs.Alternatives.{Heads, Apart, union, union_each, heads_union, heads_number}
use Rattle.format.specs.Write.{fits_or}
use Rattle.names.specs.Utf8.{surrogate, scalar, utf8}

-- a byte from lo on, as what it is above it: a number below n
abbrev pub from_parse : ℕ → ℕ → List ℕ → Parsed ℕ
from_parse lo n [] = fail
from_parse lo n (b ∷ s) = cond (ltb b lo) fail (cond (ltb b (lo + n)) (got (b - lo) s) fail)

pub from_back : (lo n a : ℕ) (r : List ℕ) → a < n → from_parse lo n ((lo + a) ∷ r) ≡ got a r
from_back lo n a r h =
    let e : lo + a - lo ≡ a = omega arith in
    rw (le-ltb (lo + a) lo (omega arith), lt-ltb (lo + a) (lo + n) (omega arith), e)

pub from_only : (lo n : ℕ) (s : List ℕ) (a : ℕ) (r : List ℕ) → from_parse lo n s ≡ got a r → (a < n) × (s ≡ (lo + a) ∷ r)
from_only lo n [] a r e = absurd (fail_got _ a r refl e)
from_only lo n (b ∷ s) a r e = go (ltb b lo) refl (ltb b (lo + n)) refl e
  where
    go : (t : Bool) → ltb b lo ≡ t → (u : Bool) → ltb b (lo + n) ≡ u → cond t fail (cond u (got (b - lo) s) fail) ≡ got a r → (a < n) × (b ∷ s ≡ (lo + a) ∷ r)
    go true p u q e = absurd (fail_got _ a r refl e)
    go false p false q e = absurd (fail_got _ a r refl e)
    go false p true q e =
        let h = ltb-false b lo p in
        let k = ltb-true b (lo + n) q in
        let v : b - lo ≡ a = got_value e in
        let w : s ≡ r = got_rest e in
        let x : b ≡ lo + a = omega arith in
        (omega arith, cc)

abbrev pub from : ℕ → ℕ → Format ℕ
from lo n = record { Ok = λ a. a < n; print = λ a. (lo + a) ∷ []; parse = from_parse lo n; back = λ a r h. from_back lo n a r h; only = from_only lo n }

-- b2, b3, b4
abbrev pub more : Format ℕ
more = from 0x80 64

-- bytes that stand for a number, where it passes a test
module _ {B : Type 0} (F : Format B) (to : ℕ → B) (value : B → ℕ) (value_to : (c : ℕ) → value (to c) ≡ c) (to_value : (b : B) → F.Ok b → to (value b) ≡ b) (test : ℕ → Bool) where
  abbrev pub read_of : B → Option ℕ
  read_of b = cond (test (value b)) (some (value b)) none

  pub read_inv : (b : B) (c : ℕ) → F.Ok b → read_of b ≡ some c → (F.Ok (to c) × (test c ≡ true)) × (b ≡ to c)
  read_inv b c h e = go (test (value b)) refl e
    where
      go : (t : Bool) → test (value b) ≡ t → cond t (some (value b)) none ≡ some c → (F.Ok (to c) × (test c ≡ true)) × (b ≡ to c)
      go true p q =
          let v : value b ≡ c = cc in
          let w : b ≡ to c = sym (to_value b h) ∙ ap to v in
          ((rw (← w) h, sym (ap test v) ∙ p), w)
      go false p q = absurd (none-ne-some c q)

  abbrev pub tested : Format ℕ
  tested =
      via F
      (record {
        OkA = λ c. F.Ok (to c) × (test c ≡ true);
        to = to;
        of = read_of;
        fits = λ c h. h.0;
        of_to = λ c h. rw (value_to c, h.1);
        to_of = read_inv;
      })

-- groups of six bits
six_div : (x y : ℕ) → y < 64 → (x * 64 + y) / 64 ≡ x
six_div x y h = omega arith

six_mod : (x y : ℕ) → y < 64 → (x * 64 + y) % 64 ≡ y
six_mod x y h = omega arith

abbrev pub one : Format ℕ
one = number 128

abbrev pub two_to : ℕ → ℕ × ℕ
two_to c = (c / 64, c % 64)

abbrev pub two_value : ℕ × ℕ → ℕ
two_value p = p.0 * 64 + p.1

pub two_value_to : (c : ℕ) → two_value (two_to c) ≡ c
two_value_to c = omega arith

pub two_to_value : (p : ℕ × ℕ) → p.1 < 64 → two_to (two_value p) ≡ p
two_to_value p h = λ i. (six_div p.0 p.1 h i, six_mod p.0 p.1 h i)

abbrev pub two : Format ℕ
two = tested (pair (from 0xC0 32) more) two_to two_value two_value_to (λ p h. two_to_value p h.1) (λ c. leb 0x80 c)

abbrev pub three_to : ℕ → ℕ × (ℕ × ℕ)
three_to c = (c / 64 / 64, (c / 64 % 64, c % 64))

abbrev pub three_value : ℕ × (ℕ × ℕ) → ℕ
three_value p = (p.0 * 64 + p.1.0) * 64 + p.1.1

pub three_value_to : (c : ℕ) → three_value (three_to c) ≡ c
three_value_to c = omega arith

pub three_to_value : (p : ℕ × (ℕ × ℕ)) → p.1.0 < 64 → p.1.1 < 64 → three_to (three_value p) ≡ p
three_to_value p h k =
    let d = six_div (two_value (p.0, p.1.0)) p.1.1 k in
    let a : three_value p / 64 / 64 ≡ p.0 = ap (λ (x : ℕ). x / 64) d ∙ six_div p.0 p.1.0 h in
    let b : three_value p / 64 % 64 ≡ p.1.0 = ap (λ (x : ℕ). x % 64) d ∙ six_mod p.0 p.1.0 h in
    let c : three_value p % 64 ≡ p.1.1 = six_mod (two_value (p.0, p.1.0)) p.1.1 k in
    λ i. (a i, (b i, c i))

abbrev pub three : Format ℕ
three = tested (pair (from 0xE0 16) (pair more more)) three_to three_value three_value_to (λ p h. three_to_value p h.1.0 h.1.1) (λ c. leb 0x800 c && not (surrogate c))

abbrev pub four_to : ℕ → ℕ × (ℕ × (ℕ × ℕ))
four_to c = (c / 64 / 64 / 64, (c / 64 / 64 % 64, (c / 64 % 64, c % 64)))

abbrev pub four_value : ℕ × (ℕ × (ℕ × ℕ)) → ℕ
four_value p = ((p.0 * 64 + p.1.0) * 64 + p.1.1.0) * 64 + p.1.1.1

pub four_value_to : (c : ℕ) → four_value (four_to c) ≡ c
four_value_to c = omega arith

pub four_to_value : (p : ℕ × (ℕ × (ℕ × ℕ))) → p.1.0 < 64 → p.1.1.0 < 64 → p.1.1.1 < 64 → four_to (four_value p) ≡ p
four_to_value p h k l =
    let q = three_value (p.0, (p.1.0, p.1.1.0)) in
    let d = six_div q p.1.1.1 l in
    let t = three_to_value (p.0, (p.1.0, p.1.1.0)) h k in
    let a : four_value p / 64 / 64 / 64 ≡ p.0 = ap (λ (x : ℕ). x / 64 / 64) d ∙ ap (λ (w : ℕ × (ℕ × ℕ)). w.0) t in
    let b : four_value p / 64 / 64 % 64 ≡ p.1.0 = ap (λ (x : ℕ). x / 64 % 64) d ∙ ap (λ (w : ℕ × (ℕ × ℕ)). w.1.0) t in
    let c : four_value p / 64 % 64 ≡ p.1.1.0 = ap (λ (x : ℕ). x % 64) d ∙ ap (λ (w : ℕ × (ℕ × ℕ)). w.1.1) t in
    let e : four_value p % 64 ≡ p.1.1.1 = six_mod q p.1.1.1 l in
    λ i. (a i, (b i, (c i, e i)))

abbrev pub four : Format ℕ
four = tested (pair (from 0xF0 8) (pair more (pair more more))) four_to four_value four_value_to (λ p h. four_to_value p h.1.0 h.1.1.0 h.1.1.1) (λ c. leb 0x10000 c && ltb c 0x110000)

-- ---- told apart by the first byte

abbrev pub below : ℕ → ℕ → Bool
below n x = ltb x n

pub both_true : (a b : Bool) → (a && b) ≡ true → (a ≡ true) × (b ≡ true)
both_true true b e = (refl, e)
both_true false b e = absurd (true≢false (sym e))

heads_two : (n : ℕ) (v : Bool) → ((x : ℕ) → x < 32 → below n (0xC0 + x) ≡ v) → Heads two (below n) v
heads_two n v f c h = (0xC0 + c / 64, (0x80 + c % 64) ∷ [], refl, f (c / 64) h.0.0)

heads_three : (n : ℕ) (v : Bool) → ((x : ℕ) → x < 16 → below n (0xE0 + x) ≡ v) → Heads three (below n) v
heads_three n v f c h = (0xE0 + c / 64 / 64, (0x80 + c / 64 % 64) ∷ (0x80 + c % 64) ∷ [], refl, f (c / 64 / 64) h.0.0)

heads_four : (n : ℕ) (v : Bool) → ((x : ℕ) → x < 8 → below n (0xF0 + x) ≡ v) → Heads four (below n) v
heads_four n v f c h = (0xF0 + c / 64 / 64 / 64, (0x80 + c / 64 / 64 % 64) ∷ (0x80 + c / 64 % 64) ∷ (0x80 + c % 64) ∷ [], refl, f (c / 64 / 64 / 64) h.0.0)

three_from : (c : ℕ) → three.Ok c → 0x800 ≤ c
three_from c h = leb-true 0x800 c (both_true (leb 0x800 c) (not (surrogate c)) h.1).0

four_from : (c : ℕ) → four.Ok c → 0x10000 ≤ c
four_from c h = leb-true 0x10000 c (both_true (leb 0x10000 c) (ltb c 0x110000) h.1).0

pub apart_long : Apart (below 0xF0) (below 0x10000) three four
apart_long =
    record {
      first_heads = heads_three 0xF0 true (λ x k. lt-ltb (0xE0 + x) 0xF0 (omega arith));
      second_heads = heads_four 0xF0 false (λ x k. le-ltb (0xF0 + x) 0xF0 (omega arith));
      first_ok = λ c h. let k = h.0.0 in lt-ltb c 0x10000 (omega arith);
      second_ok = λ c h. le-ltb c 0x10000 (four_from c h);
    }

abbrev pub long : Format ℕ
long = union (below 0xF0) (below 0x10000) three four apart_long

heads_long : (n : ℕ) → n ≤ 0xE0 → Heads long (below n) false
heads_long n e =
    heads_union (below 0xF0) (below 0x10000) three four apart_long (below n) false
    (heads_three n false (λ x k. le-ltb (0xE0 + x) n (omega arith))) (heads_four n false (λ x k. le-ltb (0xF0 + x) n (omega arith)))

long_from : (c : ℕ) → long.Ok c → 0x800 ≤ c
long_from = union_each (below 0xF0) (below 0x10000) three four apart_long (λ c. 0x800 ≤ c) three_from (λ c h. omega (arith, four_from c h))

pub apart_wide : Apart (below 0xE0) (below 0x800) two long
apart_wide =
    record {
      first_heads = heads_two 0xE0 true (λ x k. lt-ltb (0xC0 + x) 0xE0 (omega arith));
      second_heads = heads_long 0xE0 (omega arith);
      first_ok = λ c h. let k = h.0.0 in lt-ltb c 0x800 (omega arith);
      second_ok = λ c h. le-ltb c 0x800 (long_from c h);
    }

-- of more than one byte
abbrev pub wide : Format ℕ
wide = union (below 0xE0) (below 0x800) two long apart_wide

wide_from : (c : ℕ) → wide.Ok c → 0x80 ≤ c
wide_from = union_each (below 0xE0) (below 0x800) two long apart_wide (λ c. 0x80 ≤ c) (λ c h. leb-true 0x80 c h.1) (λ c h. omega (arith, long_from c h))

pub apart_any : Apart (below 0x80) (below 0x80) one wide
apart_any =
    record {
      first_heads = heads_number 128 (below 0x80) true (λ x h. lt-ltb x 0x80 h);
      second_heads =
          heads_union (below 0xE0) (below 0x800) two long apart_wide (below 0x80) false (heads_two 0x80 false (λ x k. le-ltb (0xC0 + x) 0x80 (omega arith))) (heads_long 0x80 (omega arith));
      first_ok = λ c h. lt-ltb c 0x80 h;
      second_ok = λ c h. le-ltb c 0x80 (wide_from c h);
    }

abbrev pub any : Format ℕ
any = union (below 0x80) (below 0x80) one wide apart_any

-- ---- that is `utf8` of the scalar values

-- of one, two, three or four bytes
pub by_range : {P : Type 0} (c : ℕ) → (c < 0x80 → P) → (0x80 ≤ c → c < 0x800 → P) → (0x80 ≤ c → 0x800 ≤ c → c < 0x10000 → P) → (0x80 ≤ c → 0x800 ≤ c → 0x10000 ≤ c → P) → P
by_range {P} c w x y z = ⊎_elim (λ (h : 0x80 ≤ c). ⊎_elim (λ (k : 0x800 ≤ c). ⊎_elim (z h k) (y h k) (fits_or 0x10000 c)) (x h) (fits_or 0x800 c)) w (fits_or 0x80 c)

pub any_print : (c : ℕ) → any.print c ≡ utf8 c
unfolding utf8
any_print c =
    by_range c
    (λ h. rw (lt-ltb c 0x80 h))
    (λ h k. rw (le-ltb c 0x80 h, lt-ltb c 0x800 k))
    (λ h k l. rw (le-ltb c 0x80 h, le-ltb c 0x800 k, lt-ltb c 0x10000 l))
    (λ h k l. rw (le-ltb c 0x80 h, le-ltb c 0x800 k, le-ltb c 0x10000 l))

pub char_some : (c : ℕ) → scalar c ≡ true → 0 < length (utf8 c)
unfolding utf8
char_some c _ =
    by_range c
    (λ h. rw (lt-ltb c 0x80 h) (omega arith))
    (λ h k. rw (le-ltb c 0x80 h, lt-ltb c 0x800 k) (omega arith))
    (λ h k l. rw (le-ltb c 0x80 h, le-ltb c 0x800 k, lt-ltb c 0x10000 l) (omega arith))
    (λ h k l. rw (le-ltb c 0x80 h, le-ltb c 0x800 k, le-ltb c 0x10000 l) (omega arith))

-- the values are the scalar values
any_scalar : (c : ℕ) → any.Ok c → scalar c ≡ true
any_scalar =
    union_each (below 0x80) (below 0x80) one wide apart_any (λ c. scalar c ≡ true) (λ c h. small c (omega arith))
    (union_each (below 0xE0) (below 0x800) two long apart_wide (λ c. scalar c ≡ true) (λ c h. let k = h.0.0 in small c (omega arith))
    (union_each (below 0xF0) (below 0x10000) three four apart_long (λ c. scalar c ≡ true) in_three in_four))
  where
    small : (c : ℕ) → c < 0xD800 → scalar c ≡ true
    small c h = rw (lt-ltb c 0x110000 (omega arith), lt-leb 0xD800 c h)

    in_three : (c : ℕ) → three.Ok c → scalar c ≡ true
    in_three c h = let k = h.0.0 in rw (lt-ltb c 0x110000 (omega arith)) (both_true (leb 0x800 c) (not (surrogate c)) h.1).1

    in_four : (c : ℕ) → four.Ok c → scalar c ≡ true
    in_four c h =
        let (k, l) = both_true (leb 0x10000 c) (ltb c 0x110000) h.1 in
        let m = leb-true 0x10000 c k in
        rw (l, le-leb 0xD800 c (omega arith), le-ltb c 0xE000 (omega arith))

scalar_any : (c : ℕ) → scalar c ≡ true → any.Ok c
scalar_any c e =
    let (p, q) = both_true (ltb c 0x110000) (not (surrogate c)) e in
    let top = ltb-true c 0x110000 p in
    by_range c
    (λ h. rw (lt-ltb c 0x80 h) h)
    (λ h k. rw (le-ltb c 0x80 h, lt-ltb c 0x800 k) ((omega arith, omega arith), le-leb 0x80 c h))
    (λ h k l. rw (le-ltb c 0x80 h, le-ltb c 0x800 k, lt-ltb c 0x10000 l) ((omega arith, (omega arith, omega arith)), rw (le-leb 0x800 c k) q))
    (λ h k l. rw (le-ltb c 0x80 h, le-ltb c 0x800 k, le-ltb c 0x10000 l) ((omega arith, (omega arith, (omega arith, omega arith))), rw (le-leb 0x10000 c l, p)))

pub char_back : (c : ℕ) (r : List ℕ) → scalar c ≡ true → any.parse (utf8 c ++ r) ≡ got c r
char_back c r h = rw (← (any_print c)) (any.back c r (scalar_any c h))

pub char_only : (s : List ℕ) (c : ℕ) (r : List ℕ) → any.parse s ≡ got c r → (scalar c ≡ true) × (s ≡ utf8 c ++ r)
char_only s c r e = let o = any.only s c r e in (any_scalar c o.0, o.1 ∙ ap (λ (l : List ℕ). l ++ r) (any_print c))

abbrev pub char : Format ℕ
char = record { Ok = λ c. scalar c ≡ true; print = utf8; parse = any.parse; back = char_back; only = char_only }
