-- A lead: what may be missing in front of a format, told by the first number. Alone it is no format, since nothing tells where a missing one ends; with what
-- follows it is one. Assumes nothing.
use Rattle.std.specs.Prelude.{◌≡◌, refl, ◌⊎◌, Bool, true, false, ◌||◌, List, [], ◌∷◌, ◌++◌, ℕ}
use Rattle.std.proofs.Common.{sym, ◌∙◌, ap, subst, inl, inr, true≢false, append_assoc, ne_eqb, eq-eqb, eqb-true}
use Rattle.std.proofs.Math.Option.{Option, none, some}
use Rattle.format.specs.Parsed.{Parsed, fail, got, got_rest, fail_got, bind, bind_inv, map, map_inv, from_option, from_option_inv}
use Rattle.format.specs.Format.{Format}
use Rattle.format.specs.Basic.{Part, empty}
use Rattle.format.specs.Alternatives.{Heads, is}
use Rattle.format.specs.Answers.{neither}
use Rattle.format.specs.Count.{silent}
use Rattle.format.specs.Sequence.{Joins, joins_map}
use Rattle.format.specs.Walk.{Walking}
use Rattle.format.specs.declared.Done.{Done}
use Rattle.format.specs.Walk.{Walk}

-- begins: the numbers that it begins with where it is there. What follows begins with none of them
pub record Lead (A : Type 0) : Type 1 where
  pub Ok : A → Type 0
  pub print : A → List ℕ
  pub parse : List ℕ → Parsed A
  pub begins : ℕ → Bool
  pub back : (a : A) (x : ℕ) (r : List ℕ) → Ok a → begins x ≡ false → parse (print a ++ (x ∷ r)) ≡ got a (x ∷ r)
  pub only : (s : List ℕ) (a : A) (r : List ℕ) → parse s ≡ got a r → Ok a × (s ≡ print a ++ r)
  pub first : (a : A) → Ok a → (print a ≡ []) ⊎ ((x : ℕ) × (t : List ℕ) × (print a ≡ x ∷ t) × (begins x ≡ true))

-- ---- a lead and what follows it

module _ {A B : Type 0} (L : Lead A) (G : Format B) where
  abbrev pub led_parse : List ℕ → Parsed (A × B)
  led_parse s = bind (L.parse s) (λ a r. map (λ b. (a, b)) (G.parse r))

  abbrev pub led_print : A × B → List ℕ
  led_print p = L.print p.0 ++ G.print p.1

  abbrev pub led_ok : A × B → Type 0
  led_ok p = L.Ok p.0 × G.Ok p.1

  pub led_back : Heads G L.begins false → (p : A × B) (r : List ℕ) → led_ok p → led_parse (led_print p ++ r) ≡ got p r
  led_back h p r ok =
      let (x, t, e, n) = h p.1 ok.1 in
      let f : G.print p.1 ++ r ≡ x ∷ (t ++ r) = ap (λ (l : List ℕ). l ++ r) e in
      let g : L.parse (L.print p.0 ++ (G.print p.1 ++ r)) ≡ got p.0 (G.print p.1 ++ r) = rw f (L.back p.0 x (t ++ r) ok.0 n) in
      rw (append_assoc (L.print p.0) (G.print p.1) r, g, G.back p.1 r ok.1)

  pub led_only : (s : List ℕ) (p : A × B) (r : List ℕ) → led_parse s ≡ got p r → led_ok p × (s ≡ led_print p ++ r)
  led_only s p r e =
      let i = bind_inv (L.parse s) (λ a r. map (λ b. (a, b)) (G.parse r)) p r e in
      let j = map_inv {B = A × B} (λ b. (i.0, b)) (G.parse i.1) p r i.3 in
      let f = L.only s i.0 i.1 i.2 in
      let g = G.only i.1 j.0 r j.1 in (
        subst led_ok j.2 (f.0, g.0),
        f.1
            ∙ ap (λ (l : List ℕ). L.print i.0 ++ l) g.1
            ∙ sym (append_assoc (L.print i.0) (G.print j.0) r)
            ∙ ap (λ (q : A × B). led_print q ++ r) j.2,
      )

  abbrev pub led : Heads G L.begins false → Format (A × B)
  led h = record { Ok = led_ok; print = led_print; parse = led_parse; back = led_back h; only = led_only }

  -- it begins with the lead's numbers or what follows it
  pub heads_led : (h : Heads G L.begins false) (p : ℕ → Bool) (v : Bool) → ((x : ℕ) → L.begins x ≡ true → p x ≡ v) → Heads G p v → Heads (led h) p v
  heads_led h p v k g q ok = go (L.first q.0 ok.0)
    where
      go : (L.print q.0 ≡ []) ⊎ ((x : ℕ) × (t : List ℕ) × (L.print q.0 ≡ x ∷ t) × (L.begins x ≡ true)) → (x : ℕ) × (t : List ℕ) × (led_print q ≡ x ∷ t) × (p x ≡ v)
      go (inl e) = let (x, t, f, n) = g q.1 ok.1 in (x, t, ap (λ (l : List ℕ). l ++ G.print q.1) e ∙ f, n)
      go (inr (x, t, e, n)) = (x, t ++ G.print q.1, ap (λ (l : List ℕ). l ++ G.print q.1) e, k x n)

-- a walk over a lead: it is read, or missing, and what is written of it is appended
abbrev pub LeadWalks : {A : Type 0} → Lead A → (A → List ℕ) → List ℕ → ℕ → List ℕ → Done → List ℕ → Walk → Type 0
LeadWalks L f = Walking L.parse f silent

-- so a lead and what follows it are walked by walking the two, one behind the other
module _ {A B : Type 0} (L : Lead A) (f : A → List ℕ) (G : Format B) (f' : B → List ℕ) (h : Heads G L.begins false) where
  pub led_joins : Joins L.parse f silent G.parse f' silent (led L G h).parse (λ p. f p.0 ++ f' p.1) silent
  led_joins = record { ends = λ s a r e. (L.print a, (L.only s a r e).1); join = λ a b. (a, b); reads = λ s. refl; writes = λ a b. refl; draws = λ a b. refl }

  -- and what is made of them
  pub led_made : {C : Type 0} (X : Format C) (f'' : C → List ℕ) (m : A × B → C) → ((s : List ℕ) → X.parse s ≡ map m ((led L G h).parse s))
      → ((a : A) (b : B) → f a ++ f' b ≡ f'' (m (a, b))) → Joins L.parse f silent G.parse f' silent X.parse f'' silent
  led_made X f'' m e w =
      joins_map L.parse f silent G.parse f' silent (led L G h).parse (λ p. f p.0 ++ f' p.1) silent X.parse f'' silent m e (λ p. w p.0 p.1) (λ p. refl)
      led_joins

-- ---- none; k and a value, or another lead; and along a part

-- something follows it
abbrev pub none_parse : List ℕ → Parsed (Unit {0})
none_parse [] = fail
none_parse (x ∷ s) = got tt (x ∷ s)

pub none_only : (s : List ℕ) (a : Unit {0}) (r : List ℕ) → none_parse s ≡ got a r → Unit {0} × (s ≡ r)
none_only [] a r e = absurd (fail_got _ a r refl e)
none_only (x ∷ s) a r e = (tt, got_rest e)

abbrev pub no_lead : Lead (Unit {0})
no_lead =
    record {
      Ok = λ a. Unit {0};
      print = λ a. [];
      parse = none_parse;
      begins = λ x. false;
      back = λ a x r h n. refl;
      only = none_only;
      first = λ a h. inl refl;
    }

module _ {A B : Type 0} (k : ℕ) (F : Format A) (L : Lead B) where
  abbrev pub or_print : A ⊎ B → List ℕ
  or_print (inl a) = k ∷ F.print a
  or_print (inr b) = L.print b

  abbrev pub or_ok : A ⊎ B → Type 0
  or_ok (inl a) = F.Ok a
  or_ok (inr b) = L.Ok b

  abbrev pub or_pick : Bool → ℕ → List ℕ → Parsed (A ⊎ B)
  or_pick true x s = map inl (F.parse s)
  or_pick false x s = map inr (L.parse (x ∷ s))

  abbrev pub or_parse : List ℕ → Parsed (A ⊎ B)
  or_parse [] = fail
  or_parse (x ∷ s) = or_pick (is k x) x s

  abbrev pub or_begins : ℕ → Bool
  or_begins x = is k x || L.begins x

  pub or_only : (s : List ℕ) (a : A ⊎ B) (r : List ℕ) → or_parse s ≡ got a r → or_ok a × (s ≡ or_print a ++ r)
  or_only [] a r e = absurd (fail_got _ a r refl e)
  or_only (x ∷ s) a r e = go (is k x) refl e
    where
      go : (c : Bool) → is k x ≡ c → or_pick c x s ≡ got a r → or_ok a × (x ∷ s ≡ or_print a ++ r)
      go true q e =
          let i = map_inv {B = A ⊎ B} inl (F.parse s) a r e in
          let f = F.only s i.0 r i.1 in
          let xk : x ≡ k = eqb-true x k q in
          let se : s ≡ F.print i.0 ++ r = f.1 in
          let xs : x ∷ s ≡ k ∷ (F.print i.0 ++ r) = cc in
          (subst or_ok i.2 f.0, xs ∙ ap (λ (w : A ⊎ B). or_print w ++ r) i.2)
      go false q e =
          let i = map_inv {B = A ⊎ B} inr (L.parse (x ∷ s)) a r e in
          let f = L.only (x ∷ s) i.0 r i.1 in
          (subst or_ok i.2 f.0, f.1 ∙ ap (λ (w : A ⊎ B). or_print w ++ r) i.2)

  -- where the number is not k, it reads as the other
  or_other : (x : ℕ) (s : List ℕ) → is k x ≡ false → or_parse (x ∷ s) ≡ map inr (L.parse (x ∷ s))
  or_other x s e = rw e

  module _ (apart : L.begins k ≡ false) where
    not_k : (y : ℕ) → L.begins y ≡ true → is k y ≡ false
    not_k y h = ne_eqb y k (λ e. true≢false (sym h ∙ ap L.begins e ∙ apart))

    pub or_back : (a : A ⊎ B) (x : ℕ) (r : List ℕ) → or_ok a → or_begins x ≡ false → or_parse (or_print a ++ (x ∷ r)) ≡ got a (x ∷ r)
    or_back (inl a) x r ok n = rw (eq-eqb k k refl, F.back a (x ∷ r) ok)
    or_back (inr b) x r ok n = go (L.first b ok)
      where
        h : (is k x ≡ false) × (L.begins x ≡ false)
        h = neither (is k x) (L.begins x) n

        back : (y : ℕ) (t : List ℕ) → L.print b ++ (x ∷ r) ≡ y ∷ t → is k y ≡ false → or_parse (L.print b ++ (x ∷ r)) ≡ got (inr b) (x ∷ r)
        back y t e i = ap or_parse e ∙ or_other y t i ∙ ap (λ (l : List ℕ). map inr (L.parse l)) (sym e) ∙ ap (map inr) (L.back b x r ok h.1)

        go : (L.print b ≡ []) ⊎ ((y : ℕ) × (t : List ℕ) × (L.print b ≡ y ∷ t) × (L.begins y ≡ true)) → or_parse (L.print b ++ (x ∷ r)) ≡ got (inr b) (x ∷ r)
        go (inl e) = back x r (ap (λ (l : List ℕ). l ++ (x ∷ r)) e) h.0
        go (inr (y, t, e, i)) = back y (t ++ (x ∷ r)) (ap (λ (l : List ℕ). l ++ (x ∷ r)) e) (not_k y i)

    pub or_first : (a : A ⊎ B) → or_ok a → (or_print a ≡ []) ⊎ ((x : ℕ) × (t : List ℕ) × (or_print a ≡ x ∷ t) × (or_begins x ≡ true))
    or_first (inl a) ok = inr (k, F.print a, refl, (rw (eq-eqb k k refl)))
    or_first (inr b) ok = go (L.first b ok)
      where
        go : (L.print b ≡ []) ⊎ ((x : ℕ) × (t : List ℕ) × (L.print b ≡ x ∷ t) × (L.begins x ≡ true))
            → (L.print b ≡ []) ⊎ ((x : ℕ) × (t : List ℕ) × (L.print b ≡ x ∷ t) × (or_begins x ≡ true))
        go (inl e) = inl e
        go (inr (x, t, e, n)) = inr (x, t, e, (rw (not_k x n, n)))

    abbrev pub or_lead : Lead (A ⊎ B)
    or_lead = record { Ok = or_ok; print = or_print; parse = or_parse; begins = or_begins; back = or_back; only = or_only; first = or_first }

-- a lead of B as one of A, where A is the part of B that `of` takes
module _ {A B : Type 0} (L : Lead B) (P : Part A B L.Ok) where
  abbrev pub part_parse : List ℕ → Parsed A
  part_parse s = bind (L.parse s) (λ b r. from_option (P.of b) r)

  pub part_back : (a : A) (x : ℕ) (r : List ℕ) → P.OkA a → L.begins x ≡ false → part_parse (L.print (P.to a) ++ (x ∷ r)) ≡ got a (x ∷ r)
  part_back a x r h n = rw (L.back (P.to a) x r (P.fits a h) n, P.of_to a h)

  pub part_only : (s : List ℕ) (a : A) (r : List ℕ) → part_parse s ≡ got a r → P.OkA a × (s ≡ L.print (P.to a) ++ r)
  part_only s a r e =
      let i = bind_inv (L.parse s) (λ b r. from_option (P.of b) r) a r e in
      let o = from_option_inv (P.of i.0) i.1 a r i.3 in
      let f = L.only s i.0 i.1 i.2 in
      let q = P.to_of i.0 a f.0 o.0 in
      (q.0, f.1 ∙ ap (λ (b : B). L.print b ++ i.1) q.1 ∙ ap (λ (l : List ℕ). L.print (P.to a) ++ l) o.1)

  abbrev pub part_lead : Lead A
  part_lead =
      record {
        Ok = P.OkA;
        print = λ a. L.print (P.to a);
        parse = part_parse;
        begins = L.begins;
        back = part_back;
        only = part_only;
        first = λ a h. L.first (P.to a) (P.fits a h);
      }

pub some_is : {A : Type 0} {a b : A} → some a ≡ some b → a ≡ b
some_is e = cc

-- along a bijection
module _ {A B : Type 0} (L : Lead B) (to : A → B) (of : B → A) (of_to : (a : A) → of (to a) ≡ a) (to_of : (b : B) → to (of b) ≡ b) where
  abbrev pub iso_part : Part A B L.Ok
  iso_part =
      record {
        OkA = λ a. L.Ok (to a);
        to = to;
        of = λ b. some (of b);
        fits = λ a h. h;
        of_to = λ a h. ap some (of_to a);
        to_of = λ b a h e. (let q : b ≡ to a = sym (to_of b) ∙ ap to (some_is e) in (subst L.Ok q h, q));
      }

  abbrev pub iso_lead : Lead A
  iso_lead = part_lead L iso_part

-- ---- k and a value, or nothing; and k alone, or nothing

is_k : (k x : ℕ) → (is k x || false) ≡ true → x ≡ k
is_k k x e = go (is k x) refl e
  where
    go : (c : Bool) → is k x ≡ c → (c || false) ≡ true → x ≡ k
    go true i e = eqb-true x k i
    go false i e = absurd (true≢false (sym e))

module _ {A : Type 0} (k : ℕ) (F : Format A) where
  abbrev pub option_to : Option A → A ⊎ Unit {0}
  option_to none = inr tt
  option_to (some a) = inl a

  abbrev pub option_of : A ⊎ Unit {0} → Option A
  option_of (inl a) = some a
  option_of (inr u) = none

  pub option_of_to : (o : Option A) → option_of (option_to o) ≡ o
  option_of_to none = refl
  option_of_to (some a) = refl

  pub option_to_of : (w : A ⊎ Unit {0}) → option_to (option_of w) ≡ w
  option_to_of (inl a) = refl
  option_to_of (inr u) = refl

  abbrev pub option : Lead (Option A)
  option = iso_lead (or_lead k F no_lead refl) option_to option_of option_of_to option_to_of

  -- by the number that stands there
  pub option_there : (s : List ℕ) → option.parse (k ∷ s) ≡ map some (F.parse s)
  option_there s = rw (eq-eqb k k refl) (go (F.parse s))
    where
      go : (m : Parsed A) → bind (map inl m) (λ b r. got (option_of b) r) ≡ map some m
      go fail = refl
      go (got a r) = refl

  pub option_missing : (x : ℕ) (s : List ℕ) → (x ≡ k → ⊥) → option.parse (x ∷ s) ≡ got none (x ∷ s)
  option_missing x s n = rw (ne_eqb x k n)

  -- a format behind it begins with k, or as it does alone
  pub heads_option : {B : Type 0} (G : Format B) (h : Heads G option.begins false) (p : ℕ → Bool) (v : Bool) → p k ≡ v → Heads G p v → Heads (led option G h) p v
  heads_option G h p v e g = heads_led option G h p v (λ x q. ap p (is_k k x q) ∙ e) g

abbrev pub mark_to : Bool → Option (Unit {0})
mark_to true = some tt
mark_to false = none

abbrev pub mark_of : Option (Unit {0}) → Bool
mark_of none = false
mark_of (some u) = true

pub mark_of_to : (b : Bool) → mark_of (mark_to b) ≡ b
mark_of_to true = refl
mark_of_to false = refl

pub mark_to_of : (o : Option (Unit {0})) → mark_to (mark_of o) ≡ o
mark_to_of none = refl
mark_to_of (some u) = refl

module _ (k : ℕ) where
  abbrev pub mark : Lead Bool
  mark = iso_lead (option k empty) mark_to mark_of mark_of_to mark_to_of

  pub mark_there : (s : List ℕ) → mark.parse (k ∷ s) ≡ got true s
  mark_there s = rw (eq-eqb k k refl)

  pub mark_missing : (x : ℕ) (s : List ℕ) → (x ≡ k → ⊥) → mark.parse (x ∷ s) ≡ got false (x ∷ s)
  mark_missing x s n = rw (ne_eqb x k n)

  pub heads_mark : {B : Type 0} (G : Format B) (h : Heads G mark.begins false) (p : ℕ → Bool) (v : Bool) → p k ≡ v → Heads G p v → Heads (led mark G h) p v
  heads_mark G h p v e g = heads_led mark G h p v (λ x q. ap p (is_k k x q) ∙ e) g
