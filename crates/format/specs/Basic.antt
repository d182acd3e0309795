-- The formats that everything else is made of: a number in one place, a fixed number, one out of a table, and nothing at all. Assumes nothing.
use Rattle.std.specs.Prelude.{◌≡◌, refl, Bool, true, false, cond, List, [], ◌∷◌, ◌++◌, ℕ, zero, suc, ◌<◌, ◌≤◌, ltb, eqb}
use Rattle.std.proofs.Common.{◌∙◌, ap, arith, lit<, ltb-true, lt-ltb, le-ltb, eqb-true, eq-eqb, ne_eqb}
use Rattle.std.proofs.Math.Option.{Option, none, some, none-ne-some}
use Rattle.format.specs.Parsed.{Parsed, fail, got, got_value, got_rest, fail_got, bind, bind_inv, cond_inv, from_option, from_option_inv}
use Rattle.format.specs.Format.{Format}

-- a number below n, in one place
abbrev pub number_parse : ℕ → List ℕ → Parsed ℕ
number_parse n [] = fail
number_parse n (x ∷ s) = cond (ltb x n) (got x s) fail

pub number_only : (n : ℕ) (s : List ℕ) (a : ℕ) (r : List ℕ) → number_parse n s ≡ got a r → (a < n) × (s ≡ a ∷ r)
number_only n [] a r e = absurd (fail_got _ a r refl e)
number_only n (x ∷ s) a r e =
    let i = cond_inv (ltb x n) (got x s) a r e in
    let h : x < n = ltb-true x n i.0 in
    let xa : x ≡ a = got_value i.1 in
    let sr : s ≡ r = got_rest i.1 in
    (omega arith, cc)

abbrev pub number : ℕ → Format ℕ
number n = record { Ok = λ a. a < n; print = λ a. a ∷ []; parse = number_parse n; back = λ a r h. rw (lt-ltb a n h); only = number_only n }

-- the one number k, and then a value
module _ {A : Type 0} (k : ℕ) (F : Format A) where
  abbrev pub tag_parse : List ℕ → Parsed A
  tag_parse [] = fail
  tag_parse (x ∷ s) = cond (eqb x k) (F.parse s) fail

  pub tag_back : (a : A) (r : List ℕ) → F.Ok a → tag_parse (k ∷ (F.print a ++ r)) ≡ got a r
  tag_back a r h = rw (eq-eqb k k refl, F.back a r h)

  pub tag_only : (s : List ℕ) (a : A) (r : List ℕ) → tag_parse s ≡ got a r → F.Ok a × (s ≡ k ∷ (F.print a ++ r))
  tag_only [] a r e = absurd (fail_got _ a r refl e)
  tag_only (x ∷ s) a r e =
      let i = cond_inv (eqb x k) (F.parse s) a r e in
      let f = F.only s a r i.1 in
      let xk : x ≡ k = eqb-true x k i.0 in
      let se : s ≡ F.print a ++ r = f.1 in
      (f.0, cc)

  abbrev pub tag : Format A
  tag = record { Ok = F.Ok; print = λ a. k ∷ F.print a; parse = tag_parse; back = tag_back; only = tag_only }

-- nothing
abbrev pub empty : Format (Unit {0})
empty = record { Ok = λ a. Unit {0}; print = λ a. []; parse = λ s. got tt s; back = λ a r h. refl; only = λ s a r e. (tt, got_rest e) }

-- no value at all
abbrev pub never : Format ⊥
never =
    record { Ok = λ a. Unit {0}; print = λ a. absurd a; parse = λ s. fail; back = λ a r h. absurd a; only = λ s a r e. absurd (fail_got _ a r refl e) }

-- the one number k, which says nothing
abbrev pub lit : ℕ → Format (Unit {0})
lit k = tag k empty

-- a format of B as one of A, where A is the part of B that `of` takes
pub record Part (A B : Type 0) (OkB : B → Type 0) : Type 1 where
  pub OkA : A → Type 0
  pub to : A → B
  pub of : B → Option A
  pub fits : (a : A) → OkA a → OkB (to a)
  pub of_to : (a : A) → OkA a → of (to a) ≡ some a
  pub to_of : (b : B) (a : A) → OkB b → of b ≡ some a → OkA a × (b ≡ to a)

module _ {A B : Type 0} (F : Format B) (P : Part A B F.Ok) where
  abbrev pub via_parse : List ℕ → Parsed A
  via_parse s = bind (F.parse s) (λ b r. from_option (P.of b) r)

  pub via_back : (a : A) (r : List ℕ) → P.OkA a → via_parse (F.print (P.to a) ++ r) ≡ got a r
  via_back a r h = rw (F.back (P.to a) r (P.fits a h), P.of_to a h)

  pub via_only : (s : List ℕ) (a : A) (r : List ℕ) → via_parse s ≡ got a r → P.OkA a × (s ≡ F.print (P.to a) ++ r)
  via_only s a r e =
      let i = bind_inv (F.parse s) (λ b r. from_option (P.of b) r) a r e in
      let o = from_option_inv (P.of i.0) i.1 a r i.3 in
      let f = F.only s i.0 i.1 i.2 in
      let q = P.to_of i.0 a f.0 o.0 in
      (q.0, f.1 ∙ ap (λ (b : B). F.print b ++ i.1) q.1 ∙ ap (λ (l : List ℕ). F.print (P.to a) ++ l) o.1)

  abbrev pub via : Format A
  via = record { Ok = P.OkA; print = λ a. F.print (P.to a); parse = via_parse; back = via_back; only = via_only }

-- the entry of a list whose code is n
abbrev pub find : {A : Type 0} → (A → ℕ) → List A → ℕ → Option A
find code [] n = none
find code (a ∷ xs) n = cond (eqb n (code a)) (some a) (find code xs n)

pub find_only : {A : Type 0} (code : A → ℕ) (l : List A) (n : ℕ) (a : A) → find code l n ≡ some a → n ≡ code a
find_only code [] n a e = absurd (none-ne-some a e)
find_only code (b ∷ l) n a e = go (eqb n (code b)) refl (find_only code l n a) e
  where
    go : (c : Bool) → eqb n (code b) ≡ c → (find code l n ≡ some a → n ≡ code a) → cond c (some b) (find code l n) ≡ some a → n ≡ code a
    go true t h q =
        let nb : n ≡ code b = eqb-true n (code b) t in
        let ba : b ≡ a = cc in
        nb ∙ ap code ba
    go false t h q = h q

pub find_none : {A : Type 0} (code : A → ℕ) (l : List A) (n : ℕ) → ((a : A) → n ≡ code a → ⊥) → find code l n ≡ none
find_none code [] n h = refl
find_none code (a ∷ l) n h = rw (ne_eqb n (code a) (h a)) (find_none code l n h)

-- a table of codes, in one place: n bounds the codes, and every value is found by its code
abbrev pub table : {A : Type 0} (n : ℕ) (code : A → ℕ) (l : List A) → ((a : A) → code a < n) → ((a : A) → find code l (code a) ≡ some a) → Format A
table {A} n code l small full =
    via (number n)
    (record {
      OkA = λ a. Unit {0};
      to = code;
      of = find code l;
      fits = λ a h. small a;
      of_to = λ a h. full a;
      to_of = λ b a h e. (tt, find_only code l b a e);
    })

-- what it reads, by what is found
pub table_found : {A : Type 0} (n : ℕ) (code : A → ℕ) (l : List A) (small : (a : A) → code a < n) (full : (a : A) → find code l (code a) ≡ some a) (x : ℕ) (s : List ℕ) (o : Option A) → find code l x ≡ o
    → (table n code l small full).parse (x ∷ s) ≡ from_option o s
table_found n code l small full x s (some a) e = let i : x ≡ code a = find_only code l x a e in rw (lt-ltb x n (omega (arith, small a)), e)
table_found n code l small full x s none e = go (ltb x n) refl
  where
    go : (c : Bool) → ltb x n ≡ c → (table n code l small full).parse (x ∷ s) ≡ fail
    go true h = rw (h, e)
    go false h = rw h

-- a flag, 0 or 1
abbrev pub bit : Bool → ℕ
bit true = 1
bit false = 0

pub bit_small : (b : Bool) → bit b < 2
bit_small true = lit< tt
bit_small false = lit< tt

pub bit_one : (n : ℕ) → n < 2 → bit (eqb n 1) ≡ n
bit_one zero h = refl
bit_one (suc zero) h = refl
bit_one (suc (suc n)) h = omega arith

pub eqb_bit : (b : Bool) → eqb (bit b) 1 ≡ b
eqb_bit true = refl
eqb_bit false = refl

pub bit_full : (b : Bool) → find bit (false ∷ true ∷ []) (bit b) ≡ some b
bit_full true = refl
bit_full false = refl

abbrev pub flag : Format Bool
flag = table 2 bit (false ∷ true ∷ []) bit_small bit_full

-- by the number that stands there
pub flag_at : (x : ℕ) (s : List ℕ) → x ≤ 1 → flag.parse (x ∷ s) ≡ got (eqb x 1) s
flag_at zero s h = refl
flag_at (suc zero) s h = refl
flag_at (suc (suc x)) s h = absurd (omega arith)

pub flag_print : (x : ℕ) → x ≤ 1 → x ∷ [] ≡ flag.print (eqb x 1)
flag_print zero h = refl
flag_print (suc zero) h = refl
flag_print (suc (suc x)) h = absurd (omega arith)

pub flag_large : (x : ℕ) (s : List ℕ) → 1 < x → flag.parse (x ∷ s) ≡ fail
flag_large x s h = rw (le-ltb x 2 (omega arith))
