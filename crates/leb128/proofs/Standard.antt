-- The reading is the standard's: it finds a value exactly where the grammar of uN or sN has one, of those bytes; and the form that is written is the
-- shortest that the grammar has. Assumes nothing.
use Rattle.std.specs.Prelude.{◌≡◌, refl, List, [], ◌∷◌, ◌++◌, true, ℕ, suc, ◌+◌, ◌-◌, ◌*◌, ◌≤◌, ◌<◌, ◌^◌, ℤ, pos, negsuc, ◌+ℤ◌, ◌-ℤ◌, ◌*ℤ◌, length}
use Rattle.std.proofs.Common.{sym, ap, subst, ◌∙◌, ⊎_elim, append-nil, arith, lt-ltb, le-ltb, ltb-true}
use Rattle.std.proofs.Math.IntN.{sub_ℕ}
use Rattle.format.specs.Parsed.{got}
use Rattle.format.specs.Write.{fits_or}
use Rattle.leb128.specs.Integers.{U, u_last, u_more, S, s_low, s_high, s_more}
use Rattle.leb128.specs.Leb.{unsigned, signed, within, last_of, join, wide, uleb, sleb}
use Rattle.leb128.proofs.LebLaws.{wide_last, wide_more, wide_back, wide_front, Front, wide_form}

-- ---- the values, in the integers' own sum and product

sub_below : (d k : ℕ) → d < suc k → sub_ℕ d (suc k) ≡ negsuc (k - d)
sub_below d k h = rw (lt-ltb d (suc k) h) (ap negsuc (omega arith))

sub_above : (d k : ℕ) → k ≤ d → sub_ℕ d k ≡ pos (d - k)
sub_above d k h = rw (le-ltb d k h)

join_is : (z : ℤ) (n : ℕ) → 128 ≤ n → n < 256 → pos 128 *ℤ z +ℤ (pos n -ℤ pos 128) ≡ join z (n - 128)
join_is (pos m) n h k = rw (sub_above n 128 h) (ap pos (omega arith))
join_is (negsuc m) n h k =
    let e : 128 * suc m ≡ suc (m * 128 + 127) = omega arith in
    let f : m * 128 + 127 - (n - 128) ≡ m * 128 + (127 - (n - 128)) = omega arith in
    rw (sub_above n 128 h, e) (sub_below (n - 128) (m * 128 + 127) (omega arith) ∙ ap negsuc f)

last_high : (n : ℕ) → 64 ≤ n → n < 128 → pos n -ℤ pos 128 ≡ last_of signed n
last_high n h k = sub_below n 127 k ∙ sym (rw (le-ltb n 64 h))

-- ---- uN

pub u_wide : {N n : ℕ} {s : List ℕ} → U N s n → (r : List ℕ) → wide unsigned N (s ++ r) ≡ got (pos n) r
u_wide (u_last N n h k) r = wide_last unsigned N n r h (lt-ltb n (2 ^ N) k)
u_wide (u_more N n m s k h l u) r =
    let e : m * 128 + (n - 128) ≡ 128 * m + (n - 128) = omega arith in
    wide_more unsigned N n (s ++ r) h k l ∙ rw (u_wide u r, e)

-- the bytes are a uN, whose value is the integer z
pub record Unsigned (N : ℕ) (s : List ℕ) (z : ℤ) : Type 0 where
  pub value : ℕ
  pub natural : z ≡ pos value
  pub grammar : U N s value

unsigned_last : (N b : ℕ) → b < 128 → within unsigned N (last_of unsigned b) ≡ true → Unsigned N (b ∷ []) (last_of unsigned b)
unsigned_last N b h w = record { value = b; natural = refl; grammar = u_last N b h (ltb-true b (2 ^ N) w) }

unsigned_more : (N b : ℕ) (p : List ℕ) (z : ℤ) → 128 ≤ b → b < 256 → 7 < N → Unsigned (N - 7) p z → Unsigned N (b ∷ p) (join z (b - 128))
unsigned_more N b p z h k l u =
    let m = u.value in
    let e : m * 128 + (b - 128) ≡ 128 * m + (b - 128) = omega arith in
    record { value = 128 * m + (b - 128); natural = rw u.natural (ap pos e); grammar = u_more N b m p k h l u.grammar }

pub wide_u : (N : ℕ) (b : List ℕ) (z : ℤ) (r : List ℕ) → wide unsigned N b ≡ got z r → Front Unsigned N b z r
wide_u N b z r e = wide_front unsigned Unsigned unsigned_last unsigned_more N b z r e

-- ---- sN

pub s_wide : {N : ℕ} {z : ℤ} {s : List ℕ} → S N s z → (r : List ℕ) → wide signed N (s ++ r) ≡ got z r
s_wide (s_low N n h k) r =
    let e : last_of signed n ≡ pos n = rw (lt-ltb n 64 h) in
    wide_last signed N n r (omega arith) (rw e (lt-ltb n (2 ^ (N - 1)) k)) ∙ rw e
s_wide (s_high N n h k l) r =
    let e : last_of signed n ≡ negsuc (127 - n) = rw (le-ltb n 64 h) in
    wide_last signed N n r k (rw e (lt-ltb (127 - n) (2 ^ (N - 1)) (omega arith))) ∙ ap (λ (z : ℤ). got z r) (sym (last_high n h k))
s_wide (s_more N n m s k h l u) r = wide_more signed N n (s ++ r) h k l ∙ rw (s_wide u r) (ap (λ (z : ℤ). got z r) (sym (join_is m n h k)))

signed_last : (N b : ℕ) → b < 128 → within signed N (last_of signed b) ≡ true → S N (b ∷ []) (last_of signed b)
signed_last N b h w = ⊎_elim high low (fits_or 64 b)
  where
    high : 64 ≤ b → S N (b ∷ []) (last_of signed b)
    high k =
        let e : last_of signed b ≡ negsuc (127 - b) = rw (le-ltb b 64 k) in
        let l : 127 - b < 2 ^ (N - 1) = ltb-true (127 - b) (2 ^ (N - 1)) (rw e at w) in
        rw (← (last_high b k h)) (s_high N b k h (omega arith))

    low : b < 64 → S N (b ∷ []) (last_of signed b)
    low k =
        let e : last_of signed b ≡ pos b = rw (lt-ltb b 64 k) in
        rw e (s_low N b k (ltb-true b (2 ^ (N - 1)) (rw e at w)))

signed_more : (N b : ℕ) (p : List ℕ) (z : ℤ) → 128 ≤ b → b < 256 → 7 < N → S (N - 7) p z → S N (b ∷ p) (join z (b - 128))
signed_more N b p z h k l u = rw (← (join_is z b h k)) (s_more N b z p k h l u)

pub wide_s : (N : ℕ) (b : List ℕ) (z : ℤ) (r : List ℕ) → wide signed N b ≡ got z r → Front S N b z r
wide_s N b z r e = wide_front signed S signed_last signed_more N b z r e

-- ---- the written form is the grammar's, and the shortest that it has

whole : {G : ℕ → List ℕ → ℤ → Type 0} {N : ℕ} (p : List ℕ) {z : ℤ} → Front G N (p ++ []) z [] → G N p z
whole {G} {N} p {z} f =
    let e : f.bytes ≡ p = sym (append-nil f.bytes) ∙ sym f.front ∙ append-nil p in
    subst (λ (q : List ℕ). G N q z) e f.stands

pub u_written : (N n : ℕ) → n < 2 ^ N → U N (uleb n) n
u_written N n h =
    let u = whole (uleb n) (wide_u N (uleb n ++ []) (pos n) [] (wide_back unsigned N (pos n) [] (lt-ltb n (2 ^ N) h))) in
    let e : u.value ≡ n = cc u.natural in
    subst (λ (m : ℕ). U N (uleb n) m) e u.grammar

pub s_written : (N : ℕ) (z : ℤ) → within signed N z ≡ true → S N (sleb z) z
s_written N z w = whole (sleb z) (wide_s N (sleb z ++ []) z [] (wide_back signed N z [] w))

pub u_shortest : {N n : ℕ} {p : List ℕ} → U N p n → length (uleb n) ≤ length p
u_shortest {N} {n} {p} u = (whole p (wide_form unsigned N (p ++ []) (pos n) [] (u_wide u []))).shortest

pub s_shortest : {N : ℕ} {z : ℤ} {p : List ℕ} → S N p z → length (sleb z) ≤ length p
s_shortest {N} {z} {p} u = (whole p (wide_form signed N (p ++ []) z [] (s_wide u []))).shortest
