-- Reading at a place of a slice: what stands from there on, what a reader answers, and what its answer tells. Assumes nothing.
use Rattle.std.specs.Prelude.{◌↔◌, ◌≡◌, refl, List, [], ◌∷◌, ◌++◌, ℕ, ◌+◌, ◌-◌, ◌<◌, ◌≤◌, cond, eqb, length, get_or, take, drop}
use Rattle.std.proofs.Common.{sym, ◌∙◌, ap, append_assoc, add-one, arith, length-append, length-drop, take-append-drop, drop_of_length-le, drop-cons}
use Rattle.std.proofs.Math.Seq.{drop-append_seam}
use Rattle.format.specs.Parsed.{Parsed, fail, got, got_rest}
use Rattle.format.specs.Format.{Format, refuses}

-- ---- what stands from a place on

pub drop_more : (s : List ℕ) (n : ℕ) → n < length s → drop n s ≡ get_or s n 0 ∷ drop (n + 1) s
drop_more s n h = rw (add-one n) (drop-cons s n 0 h)

pub drop_end : (s : List ℕ) (n : ℕ) → length s ≤ n → drop n s ≡ []
drop_end s n h = drop_of_length-le s h

pub drop_two : (s : List ℕ) (p : ℕ) → p + 2 ≤ length s → drop p s ≡ get_or s p 0 ∷ get_or s (p + 1) 0 ∷ drop (p + 2) s
drop_two s p h =
    let e : p + 1 + 1 ≡ p + 2 = omega arith in
    rw (drop_more s p (omega arith), drop_more s (p + 1) (omega arith), e)

-- a value that takes one number, by the number that stands there; and none, where that number is no value's
pub one_read : {A : Type 0} (F : Format A) (a : A) (x : ℕ) → F.Ok a → F.print a ≡ x ∷ [] → (w : List ℕ) (at : ℕ) → at < length w → get_or w at 0 ≡ x
    → F.parse (drop at w) ≡ got a (drop (at + 1) w)
one_read F a x ok e w at h q = rw (drop_more w at h, q) (ap (λ (l : List ℕ). F.parse (l ++ drop (at + 1) w)) (sym e) ∙ F.back a (drop (at + 1) w) ok)

pub none_read : {A : Type 0} (F : Format A) (code : A → ℕ) → ((a : A) → F.print a ≡ code a ∷ []) → (w : List ℕ) (at : ℕ) → at < length w
    → ((a : A) → get_or w at 0 ≡ code a → ⊥) → F.parse (drop at w) ≡ fail
none_read F code one w at h n = (refuses F (drop at w)).1 go
  where
    go : (a : _) (r : List ℕ) → F.Ok a → drop at w ≡ F.print a ++ r → ⊥
    go a r ok e =
        let q : get_or w at 0 ∷ drop (at + 1) w ≡ code a ∷ r = sym (drop_more w at h) ∙ e ∙ ap (λ (l : List ℕ). l ++ r) (one a) in
        n a (cc q)

-- fewer than every value takes
pub too_few : {A : Type 0} (F : Format A) (n : ℕ) → 0 < n → ((a : A) → F.Ok a → n ≤ length (F.print a)) → (w : List ℕ) (at : ℕ) → length w < at + n
    → F.parse (drop at w) ≡ fail
too_few F n k long w at h =
    (refuses F (drop at w)).1 (λ x r ok e. omega (arith, ap length e ∙ length-append (F.print x) r, long x ok, length-drop at w))

-- the place of what is left
abbrev pub place_of : List ℕ → List ℕ → ℕ
place_of s r = length s - length r

pub place_at : (s : List ℕ) (n : ℕ) → n ≤ length s → place_of s (drop n s) ≡ n
place_at s n h = rw (length-drop n s) (omega arith)

-- and that of what stands from a place on is that place
pub same_place : (s : List ℕ) {p q : ℕ} → p ≤ length s → q ≤ length s → drop p s ≡ drop q s → p ≡ q
same_place s {p} {q} h k e = sym (place_at s p h) ∙ ap (place_of s) e ∙ place_at s q k

-- what a format leaves is what stands from its place on
pub rest_at : {A : Type 0} (F : Format A) (s : List ℕ) (at : ℕ) (a : A) (t : List ℕ) → F.parse (drop at s) ≡ got a t
    → (t ≡ drop (place_of s t) s) × (place_of s t ≤ length s)
rest_at F s at a t e =
    let q = take at s ++ F.print a in
    let d : drop at s ≡ F.print a ++ t = (F.only (drop at s) a t e).1 in
    let se : s ≡ q ++ t = sym (take-append-drop at s) ∙ ap (λ (l : List ℕ). take at s ++ l) d ∙ sym (append_assoc (take at s) (F.print a) t) in
    let l : length s ≡ length q + length t = ap length se ∙ length-append q t in
    let n : place_of s t ≡ length q = omega arith in
    (sym (rw n (ap (drop (length q)) se ∙ drop-append_seam q t)), omega arith)

-- which is so many numbers behind as the value takes
pub read_on : {A : Type 0} (F : Format A) (s : List ℕ) (at : ℕ) (a : A) (t : List ℕ) → at ≤ length s → F.parse (drop at s) ≡ got a t
    → (F.parse (drop at s) ≡ got a (drop (at + length (F.print a)) s)) × (at + length (F.print a) ≤ length s)
read_on F s at a t h e =
    let l : length (drop at s) ≡ length (F.print a) + length t = ap length (F.only (drop at s) a t e).1 ∙ length-append (F.print a) t in
    let n : length (drop at s) ≡ length s - at = length-drop at s in
    let p : place_of s t ≡ at + length (F.print a) = omega arith in
    (e ∙ ap (λ (r : List ℕ). got a r) ((rest_at F s at a t e).0 ∙ ap (λ (i : ℕ). drop i s) p), omega arith)

-- a value that takes some numbers begins within
pub begins : {A : Type 0} (F : Format A) (s : List ℕ) (at : ℕ) (a : A) (t : List ℕ) → 0 < length (F.print a) → F.parse (drop at s) ≡ got a t → at ≤ length s
begins F s at a t k e =
    let l : length (drop at s) ≡ length (F.print a) + length t = ap length (F.only (drop at s) a t e).1 ∙ length-append (F.print a) t in
    omega (arith, length-drop at s)

-- so it ends as many numbers behind where it began as it prints
pub ends_at : {A : Type 0} (F : Format A) (s : List ℕ) (at p : ℕ) (a : A) → F.parse (drop at s) ≡ got a (drop p s) → at ≤ length s → p ≤ length s → p ≡ at + length (F.print a)
ends_at F s at p a e h k = let on = read_on F s at a (drop p s) h e in same_place s k on.1 (got_rest (sym e ∙ on.0))

-- ---- answers

-- document 01, Answers by number: a number of the table, the value and where it ended, both 0 beside a refusal
pub record Outcome (A : Type 0) : Type 0 where
  pub number : ℕ
  pub value : A
  pub place : ℕ

abbrev pub found : {A : Type 0} → A → ℕ → Outcome A
found a p = record { number = 0; value = a; place = p }

-- 11: nothing of that kind begins the bytes. `zero` is A's 0
abbrev pub nothing : {A : Type 0} → A → Outcome A
nothing zero = record { number = 11; value = zero; place = 0 }

-- what is right where m was read of s
abbrev pub reading : {A : Type 0} → A → List ℕ → Parsed A → Outcome A
reading zero s fail = nothing zero
reading zero s (got a r) = found a (place_of s r)

module _ {A : Type 0} (zero : A) (s : List ℕ) where
  -- how a reader meets its contract
  pub reads : {m : Parsed A} {a : A} {p : ℕ} → m ≡ got a (drop p s) → p ≤ length s → found a p ≡ reading zero s m
  reads {m} {a} {p} e h = rw (e, place_at s p h)

  pub reads_not : {m : Parsed A} → m ≡ fail → nothing zero ≡ reading zero s m
  reads_not e = rw e

  -- what its answer tells
  pub told_found : (F : Format A) (at : ℕ) {a : A} {p : ℕ} → found a p ≡ reading zero s (F.parse (drop at s))
      → (F.parse (drop at s) ≡ got a (drop p s)) × (p ≤ length s)
  told_found F at {a} {p} w = go (F.parse (drop at s)) refl w
    where
      go : (m : Parsed A) → F.parse (drop at s) ≡ m → found a p ≡ reading zero s m → (F.parse (drop at s) ≡ got a (drop p s)) × (p ≤ length s)
      go fail e w = let z : ◌≡◌ {A = ℕ} 0 11 = ap (λ (o : Outcome A). o.number) w in absurd (omega arith)
      go (got b t) e w =
          let ab : a ≡ b = ap (λ (o : Outcome A). o.value) w in
          let pt : p ≡ place_of s t = ap (λ (o : Outcome A). o.place) w in
          let ra = rest_at F s at b t e in
          (rw (e, ab, pt) (ap (λ (l : List ℕ). got b l) ra.0), rw pt ra.1)

  pub told_nothing : {m : Parsed A} → nothing zero ≡ reading zero s m → m ≡ fail
  told_nothing {m} w = go m w
    where
      go : (m : Parsed A) → nothing zero ≡ reading zero s m → m ≡ fail
      go fail w = refl
      go (got b t) w = let z : ◌≡◌ {A = ℕ} 11 0 = ap (λ (o : Outcome A). o.number) w in absurd (omega arith)

-- 11 is given exactly where nothing that the format prints begins the numbers t
pub eleven_exactly : {A : Type 0} (F : Format A) (zero : A) (s t : List ℕ)
    → ((reading zero s (F.parse t)).number ≡ 11) ↔ ((a : A) (r : List ℕ) → F.Ok a → t ≡ F.print a ++ r → ⊥)
eleven_exactly {A} F zero s t = (λ e. (refuses F t).0 (only (F.parse t) e), λ h. ap (λ (m : Parsed A). (reading zero s m).number) ((refuses F t).1 h))
  where
    only : (m : Parsed A) → (reading zero s m).number ≡ 11 → m ≡ fail
    only fail e = refl
    only (got a r) e = absurd (omega arith)

-- a value that the format prints begins the numbers t
pub record BegunBy {A : Type 0} (F : Format A) (t : List ℕ) : Type 0 where
  pub value : A
  pub rest : List ℕ
  pub ok : F.Ok value
  pub is : t ≡ F.print value ++ rest

module _ {A : Type 0} (F : Format A) (zero : A) (s t : List ℕ) where
  -- it is what is answered
  pub begins_read : (b : BegunBy F t) → reading zero s (F.parse t) ≡ found b.value (place_of s b.rest)
  begins_read b = ap (reading zero s) (ap F.parse b.is ∙ F.back b.value b.rest b.ok)

  -- 0 is given exactly where there is one
  pub zero_exactly : ((reading zero s (F.parse t)).number ≡ 0) ↔ BegunBy F t
  zero_exactly = (go (F.parse t) refl, λ b. ap (λ (o : Outcome A). o.number) (begins_read b))
    where
      go : (m : Parsed A) → F.parse t ≡ m → (reading zero s m).number ≡ 0 → BegunBy F t
      go fail e z = absurd (omega arith)
      go (got a r) e z = let o = F.only t a r e in record { value = a; rest = r; ok = o.0; is = o.1 }

-- ---- an answer by its outcome: any two that stand for the same outcome are equal

abbrev pub answer_of : {A R : Type 0} → (A → ℕ → R) → R → Outcome A → R
answer_of value none o = cond (eqb o.number 0) (value o.value o.place) none

pub one_answer : {A R : Type 0} (stands : R → Outcome A) (value : A → ℕ → R) (none : R) → ((r : R) → answer_of value none (stands r) ≡ r)
    → {w : Outcome A} {r s : R} → stands r ≡ w → stands s ≡ w → r ≡ s
one_answer stands value none back {w} {r} {s} p q = sym (back r) ∙ ap (answer_of value none) (p ∙ sym q) ∙ back s
