-- Numbers as formats, in the shortest form: u32, u64, s32, s64, and an index as a signed 64-bit number (document 01, Types to bytes, kind 14); and what
-- their first bytes can be. Assumes nothing.
use Rattle.std.specs.Prelude.{◌≡◌, refl, List, [], ◌∷◌, ◌++◌, Bool, true, false, cond, ℕ, ◌+◌, ◌-◌, ◌≤◌, ◌<◌, ◌^◌, ltb, eqb, ℤ, pos, negsuc, length}
use Rattle.std.proofs.Common.{sym, ap, ◌∙◌, ⊎_elim, arith, lt-ltb, ltb-true, eq-eqb, eqb-true, length-append}
use Rattle.std.proofs.Math.Option.{Option, none, some, none-ne-some}
use Rattle.std.specs.Int.Signed.{mag, shr_z}
use Rattle.format.specs.Parsed.{fail, got, got_value, got_rest, bind_inv, cond_inv}
use Rattle.format.specs.Format.{Format}
use Rattle.format.specs.Basic.{Part, via}
use Rattle.format.specs.Alternatives.{Heads}
use Rattle.format.specs.Write.{fits_or}
use Rattle.leb128.specs.Leb.{unsigned, signed, within, limit, low, leb, wide, short, taken}
use Rattle.leb128.proofs.LebLaws.{wide_back, wide_form, leb_last, leb_more, low_small}

-- ---- a number of N bits

pub short_back : (s : Bool) (N : ℕ) (z : ℤ) (r : List ℕ) → within s N z ≡ true → short s N (leb s z ++ r) ≡ got z r
short_back s N z r w =
    let e : taken (leb s z ++ r) r ≡ length (leb s z) = rw (length-append (leb s z) r) (omega arith) in
    rw (wide_back s N z r w, eq-eqb (taken (leb s z ++ r) r) (length (leb s z)) e)

pub short_only : (s : Bool) (N : ℕ) (b : List ℕ) (z : ℤ) (r : List ℕ) → short s N b ≡ got z r → (within s N z ≡ true) × (b ≡ leb s z ++ r)
short_only s N b z r e =
    let i = bind_inv (wide s N b) (λ z r. cond (eqb (taken b r) (length (leb s z))) (got z r) fail) z r e in
    let j = cond_inv (eqb (taken b i.1) (length (leb s i.0))) (got i.0 i.1) z r i.3 in
    let f = wide_form s N b i.0 i.1 i.2 in
    let l : length b ≡ length f.bytes + length i.1 = ap length f.front ∙ length-append f.bytes i.1 in
    let n : length b - length i.1 ≡ length (leb s i.0) = eqb-true (taken b i.1) (length (leb s i.0)) j.0 in
    let g : b ≡ leb s i.0 ++ i.1 = f.front ∙ ap (λ (p : List ℕ). p ++ i.1) (f.stands.one (omega arith)) in
    let ze : i.0 ≡ z = got_value j.1 in
    (ap (within s N) (sym ze) ∙ f.stands.fits, g ∙ ap (λ (y : ℤ). leb s y ++ i.1) ze ∙ ap (λ (l : List ℕ). leb s z ++ l) (got_rest j.1))

abbrev pub integer : Bool → ℕ → Format ℤ
integer s N = record { Ok = λ z. within s N z ≡ true; print = leb s; parse = short s N; back = short_back s N; only = short_only s N }

abbrev pub s_n : ℕ → Format ℤ
s_n N = integer signed N

abbrev pub s32 : Format ℤ
s32 = s_n 32

abbrev pub s64 : Format ℤ
s64 = s_n 64

-- ---- the natural numbers below M among those of N bits

abbrev pub natural_of : ℕ → ℤ → Option ℕ
natural_of M (pos n) = cond (ltb n M) (some n) none
natural_of M (negsuc n) = none

pub natural_inv : (M : ℕ) (z : ℤ) (n : ℕ) → natural_of M z ≡ some n → (n < M) × (z ≡ pos n)
natural_inv M (pos a) n e = go (ltb a M) refl e
  where
    go : (c : Bool) → ltb a M ≡ c → cond c (some a) none ≡ some n → (n < M) × (pos a ≡ pos n)
    go true h q = let an : a ≡ n = cc in (rw (← an) (ltb-true a M h), ap pos an)
    go false h q = absurd (none-ne-some n q)
natural_inv M (negsuc a) n e = absurd (none-ne-some n e)

module _ (s : Bool) (N M : ℕ) (fits : (n : ℕ) → n < M → within s N (pos n) ≡ true) where
  abbrev pub naturals : Part ℕ ℤ (λ z. within s N z ≡ true)
  naturals =
      record {
        OkA = λ n. n < M;
        to = pos;
        of = natural_of M;
        fits = fits;
        of_to = λ n h. rw (lt-ltb n M h);
        to_of = λ z n w e. natural_inv M z n e;
      }

  abbrev pub natural : Format ℕ
  natural = via (integer s N) naturals

pub below : (N n : ℕ) → n < 2 ^ N → within unsigned N (pos n) ≡ true
below N n h = lt-ltb n (2 ^ N) h

abbrev pub u_n : ℕ → Format ℕ
u_n N = natural unsigned N (2 ^ N) (below N)

abbrev pub u32 : Format ℕ
u32 = u_n 32

abbrev pub u64 : Format ℕ
u64 = u_n 64

pub index_fits : (n : ℕ) → n < 2 ^ 32 → within signed 64 (pos n) ≡ true
index_fits n h = lt-ltb n (2 ^ 63) (omega arith)

abbrev pub index : Format ℕ
index = natural signed 64 (2 ^ 32) index_fits

-- ---- the first byte: a last one, or one with the high bit set

first : (s : Bool) (z : ℤ) (p : ℕ → Bool) (v : Bool) → (mag z < limit s → p (low z) ≡ v) → ((x : ℕ) → 128 ≤ x → x < 256 → p x ≡ v)
    → (x : ℕ) × (t : List ℕ) × (leb s z ≡ x ∷ t) × (p x ≡ v)
first s z p v h k =
    ⊎_elim
    (λ (g : limit s ≤ mag z). (low z + 128, leb s (shr_z z 128), leb_more s z g, k (low z + 128) (omega arith) (omega (arith, low_small z))))
    (λ (g : mag z < limit s). (low z, [], leb_last s z g, h g))
    (fits_or (limit s) (mag z))

-- uN and sN: any byte
pub heads_integer : (s : Bool) (N : ℕ) (p : ℕ → Bool) (v : Bool) → ((x : ℕ) → x < 256 → p x ≡ v) → Heads (integer s N) p v
heads_integer s N p v h z ok = first s z p v (λ g. h (low z) (omega (arith, low_small z))) (λ x a b. h x b)

pub heads_natural : (s : Bool) (N M : ℕ) (fits : (n : ℕ) → n < M → within s N (pos n) ≡ true) (p : ℕ → Bool) (v : Bool)
    → ((x : ℕ) → x < limit s → p x ≡ v) → ((x : ℕ) → 128 ≤ x → x < 256 → p x ≡ v) → Heads (natural s N M fits) p v
heads_natural s N M fits p v h k n ok = first s (pos n) p v (λ g. h (low (pos n)) (omega arith)) k

-- an index never begins with 40 to 7F
pub heads_index : (p : ℕ → Bool) (v : Bool) → ((x : ℕ) → x < 0x40 → p x ≡ v) → ((x : ℕ) → 0x80 ≤ x → x < 0x100 → p x ≡ v) → Heads index p v
heads_index p v h k = heads_natural signed 64 (2 ^ 32) index_fits p v h k
