-- One format or another, told apart by the first number; what may be missing; a prefix that may be missing. Assumes nothing.
use Rattle.std.specs.Prelude.{◌≡◌, refl, ◌⊎◌, Bool, true, false, cond, List, [], ◌∷◌, ◌++◌, ℕ, ◌<◌, eqb, length}
use Rattle.std.proofs.Common.{◌∙◌, ap, subst, inl, inr, arith, eq-eqb}
use Rattle.std.proofs.Math.Option.{Option, none, some}
use Rattle.format.specs.Parsed.{Parsed, fail, got, fail_got, bind, map, map_inv, from_option}
use Rattle.format.specs.Format.{Format}
use Rattle.format.specs.Basic.{number, tag, lit, via}
use Rattle.format.specs.Combine.{dep, pair, iso}

-- everything that F prints begins with a number at which p is v
abbrev pub Heads : {A : Type 0} → Format A → (ℕ → Bool) → Bool → Type 0
Heads {A} F p v = (a : A) → F.Ok a → (x : ℕ) × (t : List ℕ) × (F.print a ≡ x ∷ t) × (p x ≡ v)

-- so it prints something
pub heads_long : {A : Type 0} (F : Format A) (p : ℕ → Bool) (v : Bool) → Heads F p v → (a : A) → F.Ok a → 0 < length (F.print a)
heads_long F p v h a ok = let (x, t, e, _) = h a ok in omega (arith, ap length e)

-- whether a number is k
abbrev pub is : ℕ → ℕ → Bool
is k x = eqb x k

pub is_self : (k : ℕ) → is k k ≡ true
is_self k = eq-eqb k k refl

-- ---- one of two

module _ {A B : Type 0} (p : ℕ → Bool) (F : Format A) (G : Format B) where
  abbrev pub alt_ok : A ⊎ B → Type 0
  alt_ok (inl a) = F.Ok a
  alt_ok (inr b) = G.Ok b

  abbrev pub alt_print : A ⊎ B → List ℕ
  alt_print (inl a) = F.print a
  alt_print (inr b) = G.print b

  abbrev pub alt_pick : Bool → List ℕ → Parsed (A ⊎ B)
  alt_pick true s = map inl (F.parse s)
  alt_pick false s = map inr (G.parse s)

  abbrev pub alt_parse : List ℕ → Parsed (A ⊎ B)
  alt_parse [] = fail
  alt_parse (x ∷ s) = alt_pick (p x) (x ∷ s)

  alt_pick_only : (c : Bool) (s : List ℕ) (a : A ⊎ B) (r : List ℕ) → alt_pick c s ≡ got a r → alt_ok a × (s ≡ alt_print a ++ r)
  alt_pick_only true s a r e =
      let i = map_inv {B = A ⊎ B} inl (F.parse s) a r e in
      let h = F.only s i.0 r i.1 in
      (subst alt_ok i.2 h.0, h.1 ∙ ap (λ (b : A ⊎ B). alt_print b ++ r) i.2)
  alt_pick_only false s a r e =
      let i = map_inv {B = A ⊎ B} inr (G.parse s) a r e in
      let h = G.only s i.0 r i.1 in
      (subst alt_ok i.2 h.0, h.1 ∙ ap (λ (b : A ⊎ B). alt_print b ++ r) i.2)

  pub alt_only : (s : List ℕ) (a : A ⊎ B) (r : List ℕ) → alt_parse s ≡ got a r → alt_ok a × (s ≡ alt_print a ++ r)
  alt_only [] a r e = absurd (fail_got _ a r refl e)
  alt_only (x ∷ s) a r e = alt_pick_only (p x) (x ∷ s) a r e

  alt_at : (s : List ℕ) (x : ℕ) (t : List ℕ) (v : Bool) → s ≡ x ∷ t → p x ≡ v → alt_parse s ≡ alt_pick v s
  alt_at s x t v e h = rw (e, h)

  pub alt_back : Heads F p true → Heads G p false → (a : A ⊎ B) (r : List ℕ) → alt_ok a → alt_parse (alt_print a ++ r) ≡ got a r
  alt_back hf hg (inl a) r h =
      let w = hf a h in
      alt_at (F.print a ++ r) w.0 (w.1 ++ r) true (ap (λ (l : List ℕ). l ++ r) w.2) w.3 ∙ rw (F.back a r h)
  alt_back hf hg (inr b) r h =
      let w = hg b h in
      alt_at (G.print b ++ r) w.0 (w.1 ++ r) false (ap (λ (l : List ℕ). l ++ r) w.2) w.3 ∙ rw (G.back b r h)

  abbrev pub alt : Heads F p true → Heads G p false → Format (A ⊎ B)
  alt hf hg = record { Ok = alt_ok; print = alt_print; parse = alt_parse; back = alt_back hf hg; only = alt_only }

-- ---- one of two of the same values, which q tells apart as p tells the first numbers

pub record Apart {A : Type 0} (p : ℕ → Bool) (q : A → Bool) (F G : Format A) : Type 0 where
  pub first_heads : Heads F p true
  pub second_heads : Heads G p false
  pub first_ok : (a : A) → F.Ok a → q a ≡ true
  pub second_ok : (a : A) → G.Ok a → q a ≡ false

module _ {A : Type 0} (p : ℕ → Bool) (q : A → Bool) (F G : Format A) (apart : Apart p q F G) where
  abbrev pub side_of : A → A ⊎ A
  side_of a = cond (q a) (inl a) (inr a)

  abbrev pub of_side : A ⊎ A → Option A
  of_side (inl a) = some a
  of_side (inr a) = some a

  pub side_back : (a : A) → of_side (side_of a) ≡ some a
  side_back a = go (q a)
    where
      go : (t : Bool) → of_side (cond t (inl a) (inr a)) ≡ some a
      go true = refl
      go false = refl

  pub side_only : (w : A ⊎ A) (a : A) → alt_ok p F G w → of_side w ≡ some a → alt_ok p F G (side_of a) × (w ≡ side_of a)
  side_only (inl b) a h e = let v : b ≡ a = cc in let w : inl b ≡ side_of a = rw (← v, apart.first_ok b h) in (subst (alt_ok p F G) w h, w)
  side_only (inr b) a h e = let v : b ≡ a = cc in let w : inr b ≡ side_of a = rw (← v, apart.second_ok b h) in (subst (alt_ok p F G) w h, w)

  abbrev pub union : Format A
  union =
      via (alt p F G apart.first_heads apart.second_heads)
      (record { OkA = λ a. alt_ok p F G (side_of a); to = side_of; of = of_side; fits = λ a h. h; of_to = λ a h. side_back a; to_of = side_only })

  -- it reads as the one or the other does
  pub union_first : (x : ℕ) (s : List ℕ) → p x ≡ true → union.parse (x ∷ s) ≡ F.parse (x ∷ s)
  union_first x s h = rw h (go (F.parse (x ∷ s)))
    where
      go : (m : Parsed A) → bind (map inl m) (λ w r. from_option (of_side w) r) ≡ m
      go fail = refl
      go (got a r) = refl

  pub union_second : (x : ℕ) (s : List ℕ) → p x ≡ false → union.parse (x ∷ s) ≡ G.parse (x ∷ s)
  union_second x s h = rw h (go (G.parse (x ∷ s)))
    where
      go : (m : Parsed A) → bind (map inr m) (λ w r. from_option (of_side w) r) ≡ m
      go fail = refl
      go (got a r) = refl

  -- what holds of the values of both holds of these
  pub union_each : (P : A → Type 0) → ((a : A) → F.Ok a → P a) → ((a : A) → G.Ok a → P a) → (a : A) → union.Ok a → P a
  union_each P f g a h = go (q a) h
    where
      go : (t : Bool) → alt_ok p F G (cond t (inl a) (inr a)) → P a
      go true h = f a h
      go false h = g a h

  pub heads_union : (o : ℕ → Bool) (v : Bool) → Heads F o v → Heads G o v → Heads union o v
  heads_union o v f g a h = go (q a) h
    where
      go : (t : Bool) → alt_ok p F G (cond t (inl a) (inr a)) → (x : ℕ) × (l : List ℕ) × (alt_print p F G (cond t (inl a) (inr a)) ≡ x ∷ l) × (o x ≡ v)
      go true h = f a h
      go false h = g a h

-- ---- the first numbers that a format prints

pub heads_tag : {A : Type 0} (k : ℕ) (F : Format A) (p : ℕ → Bool) (v : Bool) → p k ≡ v → Heads (tag k F) p v
heads_tag k F p v h a ok = (k, F.print a, refl, h)

pub heads_number : (n : ℕ) (p : ℕ → Bool) (v : Bool) → ((x : ℕ) → x < n → p x ≡ v) → Heads (number n) p v
heads_number n p v h a ok = (a, [], refl, h a ok)

pub heads_code : {A : Type 0} (code : A → ℕ) (p : ℕ → Bool) (v : Bool) → ((a : A) → p (code a) ≡ v)
    → (a : A) → Unit {0} → (x : ℕ) × (t : List ℕ) × (code a ∷ [] ≡ x ∷ t) × (p x ≡ v)
heads_code code p v h a ok = (code a, [], refl, h a)

pub heads_iso : {A B : Type 0} (F : Format B) (f : A → B) (p : ℕ → Bool) (v : Bool) → Heads F p v
    → (a : A) → F.Ok (f a) → (x : ℕ) × (t : List ℕ) × (F.print (f a) ≡ x ∷ t) × (p x ≡ v)
heads_iso F f p v h a ok = h (f a) ok

pub heads_alt : {A B : Type 0} (q : ℕ → Bool) (F : Format A) (G : Format B) (p : ℕ → Bool) (v : Bool) → Heads F p v → Heads G p v
    → (a : A ⊎ B) → alt_ok q F G a → (x : ℕ) × (t : List ℕ) × (alt_print q F G a ≡ x ∷ t) × (p x ≡ v)
heads_alt q F G p v hf hg (inl a) ok = hf a ok
heads_alt q F G p v hf hg (inr b) ok = hg b ok

pub heads_dep : {A : Type 0} {B : A → Type 0} (F : Format A) (G : (a : A) → Format (B a)) (p : ℕ → Bool) (v : Bool) → Heads F p v → Heads (dep F G) p v
heads_dep F G p v h q ok =
    let w = h q.0 ok.0 in
    (w.0, w.1 ++ (G q.0).print q.1, ap (λ (l : List ℕ). l ++ (G q.0).print q.1) w.2, w.3)

pub heads_pair : {A B : Type 0} (F : Format A) (G : Format B) (p : ℕ → Bool) (v : Bool) → Heads F p v → Heads (pair F G) p v
heads_pair F G p v h = heads_dep F (λ a. G) p v h

-- ---- what may be missing, behind a flag: 0 and an unused 0, or 1 and the value

module _ {A : Type 0} (F : Format A) where
  abbrev pub opt_to : Option A → Unit {0} ⊎ A
  opt_to none = inl tt
  opt_to (some a) = inr a

  abbrev pub opt_of : Unit {0} ⊎ A → Option A
  opt_of (inl u) = none
  opt_of (inr a) = some a

  pub opt_of_to : (o : Option A) → opt_of (opt_to o) ≡ o
  opt_of_to none = refl
  opt_of_to (some a) = refl

  pub opt_to_of : (w : Unit {0} ⊎ A) → opt_to (opt_of w) ≡ w
  opt_to_of (inl u) = refl
  opt_to_of (inr a) = refl

  abbrev pub opt : Format (Option A)
  opt =
      iso (alt (is 0) (tag 0 (lit 0)) (tag 1 F) (heads_tag 0 (lit 0) (is 0) true refl) (heads_tag 1 F (is 0) false refl))
      opt_to opt_of opt_of_to opt_to_of
