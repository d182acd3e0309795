-- A list: its count, and then its members. Assumes nothing.
use Rattle.std.specs.Prelude.{◌≡◌, refl, List, [], ◌∷◌, ◌++◌, ℕ, zero, suc, ◌<◌, ◌≤◌, length}
use Rattle.std.proofs.Common.{sym, ◌∙◌, ap, subst, append_assoc, append-nil, arith, length-append}
use Rattle.format.specs.Parsed.{Parsed, fail, got, got_value, got_rest, bind, bind_inv}
use Rattle.format.specs.Format.{Format}

-- n members, one after the other
abbrev pub times : {A : Type 0} → (List ℕ → Parsed A) → ℕ → List ℕ → Parsed (List A)
times p zero s = got [] s
times p (suc n) s = bind (p s) (λ a r. bind (times p n r) (λ xs t. got (a ∷ xs) t))

abbrev pub prints : {A : Type 0} → (A → List ℕ) → List A → List ℕ
prints f [] = []
prints f (a ∷ xs) = f a ++ prints f xs

pub prints_append : {A : Type 0} (f : A → List ℕ) (xs ys : List A) → prints f (xs ++ ys) ≡ prints f xs ++ prints f ys
prints_append f [] ys = refl
prints_append f (x ∷ xs) ys = rw (prints_append f xs ys) (sym (append_assoc (f x) (prints f xs) (prints f ys)))

pub prints_more : {A : Type 0} (f : A → List ℕ) (xs : List A) (a : A) → prints f (xs ++ (a ∷ [])) ≡ prints f xs ++ f a
prints_more f xs a = rw (prints_append f xs (a ∷ []), append-nil)

abbrev pub All : {A : Type 0} → (A → Type 0) → List A → Type 0
All P [] = Unit {0}
All P (a ∷ xs) = P a × All P xs

pub all_more : {A : Type 0} (P : A → Type 0) (xs : List A) (a : A) → All P xs → P a → All P (xs ++ (a ∷ []))
all_more P [] a h k = (k, tt)
all_more P (x ∷ xs) a h k = (h.0, all_more P xs a h.1 k)

module _ {A : Type 0} (F : Format A) where
  pub times_back : (xs : List A) (r : List ℕ) → All F.Ok xs → times F.parse (length xs) (prints F.print xs ++ r) ≡ got xs r
  times_back [] r h = refl
  times_back (a ∷ xs) r h =
      rw (append_assoc (F.print a) (prints F.print xs) r, F.back a (prints F.print xs ++ r) h.0, times_back xs r h.1)

  pub times_only : (n : ℕ) (s : List ℕ) (xs : List A) (r : List ℕ) → times F.parse n s ≡ got xs r
      → (length xs ≡ n) × All F.Ok xs × (s ≡ prints F.print xs ++ r)
  times_only zero s xs r e =
      let q : [] ≡ xs = got_value e in
      (sym (ap length q), subst (All F.Ok) q tt, got_rest e ∙ ap (λ (l : List A). prints F.print l ++ r) q)
  times_only (suc n) s xs r e =
      let i = bind_inv (F.parse s) (λ a r. bind (times F.parse n r) (λ xs t. got (a ∷ xs) t)) xs r e in
      let j = bind_inv (times F.parse n i.1) (λ xs t. got (i.0 ∷ xs) t) xs r i.3 in
      let f = F.only s i.0 i.1 i.2 in
      let g = times_only n i.1 j.0 j.1 j.2 in
      let q : i.0 ∷ j.0 ≡ xs = got_value j.3 in (
        sym (ap length q) ∙ ap suc g.0,
        subst (All F.Ok) q (f.0, g.1),
        f.1
            ∙ ap (λ (l : List ℕ). F.print i.0 ++ l) g.2
            ∙ sym (append_assoc (F.print i.0) (prints F.print j.0) j.1)
            ∙ ap (λ (l : List A). prints F.print l ++ j.1) q
            ∙ ap (λ (l : List ℕ). prints F.print xs ++ l) (got_rest j.3),
      )

  -- where each member takes a number at least, there are no more members than numbers
  module _ (long : (a : A) → F.Ok a → 0 < length (F.print a)) where
    prints_long : (xs : List A) → All F.Ok xs → length xs ≤ length (prints F.print xs)
    prints_long [] h = omega arith
    prints_long (a ∷ xs) h = omega (arith, prints_long xs h.1, long a h.0, length-append (F.print a) (prints F.print xs))

    pub times_short : (n : ℕ) (s : List ℕ) → length s < n → times F.parse n s ≡ fail
    times_short n s h = go (times F.parse n s) refl
      where
        go : (m : Parsed (List A)) → times F.parse n s ≡ m → m ≡ fail
        go fail e = refl
        go (got xs r) e =
            let (l, ok, q) = times_only n s xs r e in
            absurd (omega (arith, prints_long xs ok, ap length q, length-append (prints F.print xs) r))

-- the count by N, the members by F
module _ {A : Type 0} (N : Format ℕ) (F : Format A) where
  abbrev pub many_print : List A → List ℕ
  many_print xs = N.print (length xs) ++ prints F.print xs

  abbrev pub many_ok : List A → Type 0
  many_ok xs = N.Ok (length xs) × All F.Ok xs

  abbrev pub many_parse : List ℕ → Parsed (List A)
  many_parse s = bind (N.parse s) (times F.parse)

  pub many_back : (xs : List A) (r : List ℕ) → many_ok xs → many_parse (many_print xs ++ r) ≡ got xs r
  many_back xs r h =
      rw (append_assoc (N.print (length xs)) (prints F.print xs) r, N.back (length xs) (prints F.print xs ++ r) h.0) (times_back F xs r h.1)

  pub many_only : (s : List ℕ) (xs : List A) (r : List ℕ) → many_parse s ≡ got xs r → many_ok xs × (s ≡ many_print xs ++ r)
  many_only s xs r e =
      let i = bind_inv (N.parse s) (times F.parse) xs r e in
      let f = N.only s i.0 i.1 i.2 in
      let g = times_only F i.0 i.1 xs r i.3 in (
        (subst N.Ok (sym g.0) f.0, g.1),
        f.1
            ∙ ap (λ (l : List ℕ). N.print i.0 ++ l) g.2
            ∙ sym (append_assoc (N.print i.0) (prints F.print xs) r)
            ∙ ap (λ (n : ℕ). (N.print n ++ prints F.print xs) ++ r) (sym g.0),
      )

  abbrev pub many : Format (List A)
  many = record { Ok = many_ok; print = many_print; parse = many_parse; back = many_back; only = many_only }
