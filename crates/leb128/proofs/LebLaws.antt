-- The laws of LEB128, over the kind of number and the width: what is written is read back, whatever follows; what is read stands there in a form of which
-- the written one is the shortest; and when a number takes how many bytes. Assumes nothing.
use Rattle.std.specs.Prelude.{◌≡◌, Bool, ◌&&◌, ℕ, zero, suc, ◌+◌, ◌-◌, ◌*◌, ◌/◌, ◌%◌, ◌≤◌, ◌<◌, ◌^◌, ℤ, pos, negsuc, length}
use Rattle.std.proofs.Math.Path.{refl, ap}
use Rattle.std.proofs.Common.{sym, ◌∙◌, ⊎_elim, arith, lt-ltb, le-ltb, ltb-true, ltb-false, pow-add, pow_mono}
use mathlib.Core.List.{List, [], ◌∷◌, ◌++◌}
use Rattle.std.proofs.Math.Bool.{true, false, cond, and-eq-true_iff}
use Rattle.std.proofs.Math.Dec.{ltb}
use Rattle.std.specs.Int.Signed.{mag, shr_z}
use Rattle.std.proofs.Math.Arith.{digits_div, digits_mod}
use Rattle.format.specs.Parsed.{Parsed, fail, got, got_value, got_rest, fail_got, map, map_inv, cond_inv}
use Rattle.format.specs.Write.{fits_or}
use Rattle.leb128.specs.Leb.{within, limit, sign_bits, low, leb, leb_by, last_of, join, wide}

-- ---- seven bits, taken off and put back

pub low_small : (z : ℤ) → low z < 128
low_small (pos a) = omega arith
low_small (negsuc a) = omega arith

pub mag_shr : (z : ℤ) → mag (shr_z z 128) ≡ mag z / 128
mag_shr (pos a) = refl
mag_shr (negsuc a) = refl

pub join-split : (z : ℤ) → join (shr_z z 128) (low z) ≡ z
join-split (pos a) = ap pos (omega arith)
join-split (negsuc a) = ap negsuc (omega arith)

pub shr_join : (z : ℤ) (d : ℕ) → d < 128 → shr_z (join z d) 128 ≡ z
shr_join (pos m) d h = ap pos (digits_div m h)
shr_join (negsuc m) d h = ap negsuc (digits_div m (omega arith))

pub low_join : (z : ℤ) (d : ℕ) → d < 128 → low (join z d) ≡ d
low_join (pos m) d h = digits_mod m h
low_join (negsuc m) d h = let e : (m * 128 + (127 - d)) % 128 ≡ 127 - d = digits_mod m (omega arith) in omega arith

pub limit_small : (s : Bool) → limit s ≤ 128
limit_small true = omega arith
limit_small false = omega arith

pub limit_some : (s : Bool) → 0 < limit s
limit_some true = omega arith
limit_some false = omega arith

-- ---- a last byte

last_high : (d : ℕ) → 64 ≤ d → last_of true d ≡ negsuc (127 - d)
last_high d h = rw (le-ltb d 64 h)

last_low : (d : ℕ) → d < 64 → last_of true d ≡ pos d
last_low d h = rw (lt-ltb d 64 h)

pub mag_last : (s : Bool) (d : ℕ) → d < 128 → mag (last_of s d) < limit s
mag_last false d h = h
mag_last true d h = ⊎_elim (λ (k : 64 ≤ d). rw (last_high d k) (omega arith)) (λ (k : d < 64). rw (last_low d k) (omega arith)) (fits_or 64 d)

pub low_last : (s : Bool) (d : ℕ) → d < 128 → low (last_of s d) ≡ d
low_last false d h = omega arith
low_last true d h = ⊎_elim (λ (k : 64 ≤ d). ap low (last_high d k) ∙ omega arith) (λ (k : d < 64). ap low (last_low d k) ∙ omega arith) (fits_or 64 d)

pub last_of_low : (s : Bool) (N : ℕ) (z : ℤ) → within s N z ≡ true → mag z < limit s → last_of s (low z) ≡ z
last_of_low false N (pos a) w h = ap pos (omega arith)
last_of_low false N (negsuc a) w h = cc
last_of_low true N (pos a) w h = last_low (a % 128) (omega arith) ∙ ap pos (omega arith)
last_of_low true N (negsuc a) w h = last_high (127 - a % 128) (omega arith) ∙ ap negsuc (omega arith)

-- ---- the width

pow_split : (N : ℕ) → 7 ≤ N → 2 ^ N ≡ 2 ^ (N - 7) * 128
pow_split N h = let e : N - 7 + 7 ≡ N = omega arith in rw e at (pow-add 2 (N - 7) 7)

-- a bound on a number, and on what is left of it
below : (m d p : ℕ) → d < 128 → ltb (m * 128 + d) (p * 128) ≡ ltb m p
below m d p h =
    ⊎_elim
    (λ (k : p ≤ m). le-ltb (m * 128 + d) (p * 128) (omega arith) ∙ sym (le-ltb m p k))
    (λ (k : m < p). lt-ltb (m * 128 + d) (p * 128) (omega arith) ∙ sym (lt-ltb m p k))
    (fits_or p m)

pub within_join : (s : Bool) (N : ℕ) (z : ℤ) (d : ℕ) → 7 < N → d < 128 → within s N (join z d) ≡ within s (N - 7) z
within_join false N (pos m) d h k = rw (pow_split N (omega arith)) (below m d (2 ^ (N - 7)) k)
within_join false N (negsuc m) d h k = refl
within_join true N z d h k = go z
  where
    e : 2 ^ (N - 1) ≡ 2 ^ (N - 7 - 1) * 128
    e = let f : N - 1 - 7 ≡ N - 7 - 1 = omega arith in rw f at (pow_split (N - 1) (omega arith))

    go : (z : ℤ) → within true N (join z d) ≡ within true (N - 7) z
    go (pos m) = rw e (below m d (2 ^ (N - 7 - 1)) k)
    go (negsuc m) = rw e (below m (127 - d) (2 ^ (N - 7 - 1)) (omega arith))

-- a number that no last byte holds has more than seven bits
pub within_more : (s : Bool) (N : ℕ) (z : ℤ) → within s N z ≡ true → limit s ≤ mag z → 7 < N
within_more false N (pos n) w h = ⊎_elim (λ (l : N ≤ 7). absurd (never l)) (λ (l : 7 < N). l) (fits_or N 7)
  where
    never : N ≤ 7 → ⊥
    never l = omega (arith, pow_mono l, ltb-true n (2 ^ N) w)
within_more false N (negsuc n) w h = let z : ◌≡◌ {A = ℕ} 0 1 = cc in absurd (omega arith)
within_more true N z w h = ⊎_elim (λ (l : N ≤ 7). absurd (never l)) (λ (l : 7 < N). l) (fits_or N 7)
  where
    never : N ≤ 7 → ⊥
    never l = let m : N - 1 ≤ 6 = omega arith in omega (arith, pow_mono m, ltb-true (mag z) (2 ^ (N - 1)) w)

-- ---- the written form, one byte at a time

by_last : (k : ℕ) (s : Bool) (z : ℤ) → mag z < limit s → leb_by k s z ≡ low z ∷ []
unfolding leb_by
by_last zero s z h = refl
by_last (suc k) s z h = rw (lt-ltb (mag z) (limit s) h, leb_by)

by_more : (k : ℕ) (s : Bool) (z : ℤ) → limit s ≤ mag z → leb_by (suc k) s z ≡ (low z + 128) ∷ leb_by k s (shr_z z 128)
unfolding leb_by
by_more k s z h = rw (le-ltb (mag z) (limit s) h, leb_by)

-- as soon as k is enough, it does not matter
by_any : (k j : ℕ) (s : Bool) (z : ℤ) → mag z ≤ k → mag z ≤ j → leb_by k s z ≡ leb_by j s z
by_any zero j s z p q = let l = limit_some s in by_last zero s z (omega arith) ∙ sym (by_last j s z (omega arith))
by_any (suc k) zero s z p q = let l = limit_some s in by_last (suc k) s z (omega arith) ∙ sym (by_last zero s z (omega arith))
by_any (suc k) (suc j) s z p q =
    ⊎_elim
    (λ (h : limit s ≤ mag z). by_more k s z h ∙ ap (λ (l : List ℕ). (low z + 128) ∷ l) (by_any k j s (shr_z z 128) (omega (arith, mag_shr z, limit_some s)) (omega (arith, mag_shr z, limit_some s))) ∙ sym (by_more j s z h))
    (λ (h : mag z < limit s). by_last (suc k) s z h ∙ sym (by_last (suc j) s z h))
    (fits_or (limit s) (mag z))

pub leb_last : (s : Bool) (z : ℤ) → mag z < limit s → leb s z ≡ low z ∷ []
unfolding leb
leb_last s z h = by_last (mag z) s z h

pub leb_more : (s : Bool) (z : ℤ) → limit s ≤ mag z → leb s z ≡ (low z + 128) ∷ leb s (shr_z z 128)
unfolding leb
leb_more s z h = go (mag z) refl
  where
    go : (n : ℕ) → mag z ≡ n → leb_by (mag z) s z ≡ (low z + 128) ∷ leb_by (mag (shr_z z 128)) s (shr_z z 128)
    go zero e = let l = limit_some s in absurd (omega arith)
    go (suc n) e =
        rw e (by_more n s z h ∙ ap (λ (l : List ℕ). (low z + 128) ∷ l) (by_any n (mag (shr_z z 128)) s (shr_z z 128) (omega (arith, mag_shr z)) (omega arith)))

-- what is in front of a number is in front of its form
pub leb_join : (s : Bool) (z : ℤ) (d : ℕ) → d < 128 → limit s ≤ mag (join z d) → leb s (join z d) ≡ (d + 128) ∷ leb s z
leb_join s z d h l = rw (leb_more s (join z d) l, low_join z d h, shr_join z d h)

pub leb_some : (s : Bool) (z : ℤ) → 0 < length (leb s z)
leb_some s z =
    ⊎_elim (λ (h : limit s ≤ mag z). rw (leb_more s z h) (omega arith)) (λ (h : mag z < limit s). rw (leb_last s z h) (omega arith)) (fits_or (limit s) (mag z))

-- ---- the cases of the standard's reading

pub wide_last : (s : Bool) (N b : ℕ) (t : List ℕ) → b < 128 → within s N (last_of s b) ≡ true → wide s N (b ∷ t) ≡ got (last_of s b) t
unfolding wide
wide_last s N b t h w = rw (lt-ltb b 128 h, w, wide)

pub wide_over : (s : Bool) (N b : ℕ) (t : List ℕ) → b < 128 → within s N (last_of s b) ≡ false → wide s N (b ∷ t) ≡ fail
unfolding wide
wide_over s N b t h w = rw (lt-ltb b 128 h, w, wide)

pub wide_more : (s : Bool) (N b : ℕ) (t : List ℕ) → 128 ≤ b → b < 256 → 7 < N → wide s N (b ∷ t) ≡ map (λ z. join z (b - 128)) (wide s (N - 7) t)
unfolding wide
wide_more s N b t h k l = rw (le-ltb b 128 h, lt-ltb b 256 k, lt-ltb 7 N l, wide)

pub wide_long : (s : Bool) (N b : ℕ) (t : List ℕ) → 128 ≤ b → N ≤ 7 → wide s N (b ∷ t) ≡ fail
unfolding wide
wide_long s N b t h l =
    ⊎_elim (λ (k : 256 ≤ b). rw (le-ltb b 128 h, le-ltb b 256 k, wide)) (λ (k : b < 256). rw (le-ltb b 128 h, lt-ltb b 256 k, le-ltb 7 N l, wide)) (fits_or 256 b)

-- ---- what is written is read back, whatever follows

back_last : (s : Bool) (N : ℕ) (z : ℤ) (r : List ℕ) → within s N z ≡ true → mag z < limit s → wide s N (leb s z ++ r) ≡ got z r
back_last s N z r w h = let q = last_of_low s N z w h in rw (leb_last s z h) (wide_last s N (low z) r (low_small z) (rw q w) ∙ rw q)

back_more : (s : Bool) (N : ℕ) (z : ℤ) (r : List ℕ) → within s N z ≡ true → limit s ≤ mag z
    → (within s (N - 7) (shr_z z 128) ≡ true → wide s (N - 7) (leb s (shr_z z 128) ++ r) ≡ got (shr_z z 128) r) → wide s N (leb s z ++ r) ≡ got z r
back_more s N z r w h rest =
    let l : 7 < N = within_more s N z w h in
    let d : low z + 128 - 128 ≡ low z = omega arith in
    let whole : join (shr_z z 128) (low z) ≡ z = join-split z in
    let w' : within s (N - 7) (shr_z z 128) ≡ true = sym (within_join s N (shr_z z 128) (low z) l (low_small z)) ∙ rw whole w in
    rw (leb_more s z h) (wide_more s N (low z + 128) (leb s (shr_z z 128) ++ r) (omega arith) (omega (arith, low_small z)) l ∙ rw (rest w', d, whole))

back_by : (f : ℕ) (s : Bool) (N : ℕ) (z : ℤ) (r : List ℕ) → mag z ≤ f → within s N z ≡ true → wide s N (leb s z ++ r) ≡ got z r
back_by zero s N z r e w = let l = limit_some s in back_last s N z r w (omega arith)
back_by (suc f) s N z r e w =
    ⊎_elim
    (λ (h : limit s ≤ mag z). back_more s N z r w h (back_by f s (N - 7) (shr_z z 128) r (omega (arith, mag_shr z, limit_some s))))
    (λ (h : mag z < limit s). back_last s N z r w h)
    (fits_or (limit s) (mag z))

pub wide_back : (s : Bool) (N : ℕ) (z : ℤ) (r : List ℕ) → within s N z ≡ true → wide s N (leb s z ++ r) ≡ got z r
wide_back s N z r w = back_by (mag z) s N z r (omega arith) w

-- ---- what is read stands at the front: any grammar G that has the two cases of the reading has the bytes that were taken

pub record Front (G : ℕ → List ℕ → ℤ → Type 0) (N : ℕ) (b : List ℕ) (z : ℤ) (r : List ℕ) : Type 0 where
  pub bytes : List ℕ
  pub front : b ≡ bytes ++ r
  pub stands : G N bytes z

module _ (s : Bool) (G : ℕ → List ℕ → ℤ → Type 0)
    (last : (N b : ℕ) → b < 128 → within s N (last_of s b) ≡ true → G N (b ∷ []) (last_of s b))
    (more : (N b : ℕ) (p : List ℕ) (z : ℤ) → 128 ≤ b → b < 256 → 7 < N → G (N - 7) p z → G N (b ∷ p) (join z (b - 128))) where
  pub wide_front : (N : ℕ) (b : List ℕ) (z : ℤ) (r : List ℕ) → wide s N b ≡ got z r → Front G N b z r
  unfolding wide
  wide_front N [] z r e = absurd (fail_got fail z r refl e)
  wide_front N (b ∷ t) z r e = go (ltb b 128) refl (wide s (N - 7) t) (wide_front (N - 7) t) e
    where
      go : (c : Bool) → ltb b 128 ≡ c → (m : Parsed ℤ) → ((y : ℤ) (q : List ℕ) → m ≡ got y q → Front G (N - 7) t y q)
          → cond c (cond (within s N (last_of s b)) (got (last_of s b) t) fail) (cond (ltb b 256 && ltb 7 N) (map (λ z. join z (b - 128)) m) fail) ≡ got z r → Front G N (b ∷ t) z r
      go true h m f e =
          let i = cond_inv (within s N (last_of s b)) (got (last_of s b) t) z r e in
          rw (← (got_value i.1), ← (got_rest i.1)) (record { bytes = b ∷ []; front = refl; stands = last N b (ltb-true b 128 h) i.0 })
      go false h m f e =
          let i = cond_inv (ltb b 256 && ltb 7 N) (map (λ z. join z (b - 128)) m) z r e in
          let w = (and-eq-true_iff (ltb b 256) (ltb 7 N)).0 i.0 in
          let j = map_inv (λ z. join z (b - 128)) m z r i.1 in
          let g = f j.0 r j.1 in
          rw (← j.2) (record {
            bytes = b ∷ g.bytes;
            front = ap (λ (x : List ℕ). b ∷ x) g.front;
            stands = more N b g.bytes j.0 (ltb-false b 128 h) (ltb-true b 256 w.0) (ltb-true 7 N w.1) g.stands;
          })

-- ---- what is read has N bits, and no form of it is shorter than the written one, which is the only one of its length

pub record Form (s : Bool) (N : ℕ) (p : List ℕ) (z : ℤ) : Type 0 where
  pub fits : within s N z ≡ true
  pub shortest : length (leb s z) ≤ length p
  pub one : length p ≤ length (leb s z) → p ≡ leb s z

form_last : (s : Bool) (N b : ℕ) → b < 128 → within s N (last_of s b) ≡ true → Form s N (b ∷ []) (last_of s b)
form_last s N b h w =
    let e : leb s (last_of s b) ≡ b ∷ [] = leb_last s (last_of s b) (mag_last s b h) ∙ ap (λ (x : ℕ). x ∷ []) (low_last s b h) in
    record { fits = w; shortest = rw e (omega arith); one = λ l. sym e }

-- the number b is put in front of is one that a last byte holds, or it is not
form_more : (s : Bool) (N b : ℕ) (p : List ℕ) (z : ℤ) → 128 ≤ b → b < 256 → 7 < N → Form s (N - 7) p z → Form s N (b ∷ p) (join z (b - 128))
form_more s N b p z h k l f = ⊎_elim above under (fits_or (limit s) (mag y))
  where
    y : ℤ
    y = join z (b - 128)

    d : b - 128 < 128
    d = omega arith

    fits : within s N (join z (b - 128)) ≡ true
    fits = within_join s N z (b - 128) l d ∙ f.fits

    above : limit s ≤ mag (join z (b - 128)) → Form s N (b ∷ p) (join z (b - 128))
    above g =
        let x : b - 128 + 128 ≡ b = omega arith in
        let e : leb s (join z (b - 128)) ≡ b ∷ leb s z = leb_join s z (b - 128) d g ∙ ap (λ (x : ℕ). x ∷ leb s z) x in
        record {
          fits = fits;
          shortest = rw e (omega (arith, f.shortest));
          one = λ n. rw e (ap (λ (x : List ℕ). b ∷ x) (f.one (omega (arith, ap length e))));
        }

    under : mag (join z (b - 128)) < limit s → Form s N (b ∷ p) (join z (b - 128))
    under g =
        let e : leb s (join z (b - 128)) ≡ low (join z (b - 128)) ∷ [] = leb_last s (join z (b - 128)) g in
        record { fits = fits; shortest = rw e (omega arith); one = λ n. absurd (omega (arith, ap length e, f.shortest, leb_some s z)) }

pub wide_form : (s : Bool) (N : ℕ) (b : List ℕ) (z : ℤ) (r : List ℕ) → wide s N b ≡ got z r → Front (Form s) N b z r
wide_form s N b z r e = wide_front s (Form s) (form_last s) (form_more s) N b z r e

-- ---- at most 5 bytes are taken for 32 bits, and 10 for 64

pub record Wide (N : ℕ) (p : List ℕ) (z : ℤ) : Type 0 where
  pub most : 7 * length p ≤ N + 7

pub wide_most : (s : Bool) (N : ℕ) (b : List ℕ) (z : ℤ) (r : List ℕ) → wide s N b ≡ got z r → Front Wide N b z r
wide_most s N b z r e = wide_front s Wide (λ N b h w. record { most = omega arith }) (λ N b p z h k l f. record { most = omega (arith, f.most) }) N b z r e

-- ---- how many bytes a number takes: at most m + 1 exactly if it is below the limit of m + 1 bytes

abbrev pub limit_of : Bool → ℕ → ℕ
limit_of s zero = limit s
limit_of s (suc m) = limit_of s m * 128

pub bytes_at_most : (m : ℕ) (s : Bool) (z : ℤ) → mag z < limit_of s m → length (leb s z) ≤ m + 1
bytes_at_most zero s z h = rw (leb_last s z h) (omega arith)
bytes_at_most (suc m) s z h =
    ⊎_elim
    (λ (g : limit s ≤ mag z). rw (leb_more s z g) (omega (arith, bytes_at_most m s (shr_z z 128) (omega (arith, mag_shr z)))))
    (λ (g : mag z < limit s). rw (leb_last s z g) (omega arith))
    (fits_or (limit s) (mag z))

limit_first : (s : Bool) (m : ℕ) → limit s ≤ limit_of s m
limit_first s zero = omega arith
limit_first s (suc m) = omega (arith, limit_first s m)

pub bytes_above : (m : ℕ) (s : Bool) (z : ℤ) → limit_of s m ≤ mag z → m + 1 < length (leb s z)
bytes_above zero s z h = rw (leb_more s z h) (omega (arith, leb_some s (shr_z z 128)))
bytes_above (suc m) s z h =
    let g : limit s ≤ mag z = omega (arith, limit_first s m) in
    rw (leb_more s z g) (omega (arith, bytes_above m s (shr_z z 128) (omega (arith, mag_shr z))))

pub limit_is : (s : Bool) (m : ℕ) → limit_of s m ≡ 2 ^ (7 * m + (7 - sign_bits s))
limit_is false zero = refl
limit_is true zero = refl
limit_is s (suc m) =
    let e : 7 * suc m + (7 - sign_bits s) ≡ 7 * m + (7 - sign_bits s) + 7 = omega arith in
    rw (e, pow-add 2 (7 * m + (7 - sign_bits s)) 7, limit_is s m)
