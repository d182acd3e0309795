-- Formats out of formats: one behind the other, along a bijection, and cut down by a test. Assumes nothing.
use Rattle.std.specs.Prelude.{◌≡◌, Bool, true, cond, List, ◌++◌, ℕ}
use Rattle.std.proofs.Common.{sym, ◌∙◌, ap, subst, append_assoc}
use Rattle.format.specs.Parsed.{Parsed, fail, got, got_value, got_rest, bind, bind_inv, map, map_inv, cond_inv}
use Rattle.format.specs.Format.{Format}

-- a value, and then one whose format may depend on it
module _ {A : Type 0} {B : A → Type 0} (F : Format A) (G : (a : A) → Format (B a)) where
  abbrev pub dep_print : (a : A) × B a → List ℕ
  dep_print p = F.print p.0 ++ (G p.0).print p.1

  abbrev pub dep_ok : (a : A) × B a → Type 0
  dep_ok p = F.Ok p.0 × (G p.0).Ok p.1

  abbrev pub dep_parse : List ℕ → Parsed ((a : A) × B a)
  dep_parse s = bind (F.parse s) (λ a r. bind ((G a).parse r) (λ b t. got (a, b) t))

  pub dep_back : (p : (a : A) × B a) (r : List ℕ) → dep_ok p → dep_parse (dep_print p ++ r) ≡ got p r
  dep_back p r h =
      rw (append_assoc (F.print p.0) ((G p.0).print p.1) r, F.back p.0 ((G p.0).print p.1 ++ r) h.0, (G p.0).back p.1 r h.1)

  pub dep_only : (s : List ℕ) (p : (a : A) × B a) (r : List ℕ) → dep_parse s ≡ got p r → dep_ok p × (s ≡ dep_print p ++ r)
  dep_only s p r e =
      let i = bind_inv (F.parse s) (λ a r. bind ((G a).parse r) (λ b t. got (a, b) t)) p r e in
      let j = bind_inv ((G i.0).parse i.1) (λ b t. got (i.0, b) t) p r i.3 in
      let f = F.only s i.0 i.1 i.2 in
      let g = (G i.0).only i.1 j.0 j.1 j.2 in
      let pe : ◌≡◌ {A = (a : A) × B a} (i.0, j.0) p = got_value j.3 in (
        subst dep_ok pe (f.0, g.0),
        f.1
            ∙ ap (λ (l : List ℕ). F.print i.0 ++ l) g.1
            ∙ sym (append_assoc (F.print i.0) ((G i.0).print j.0) j.1)
            ∙ ap (λ (q : (a : A) × B a). dep_print q ++ j.1) pe
            ∙ ap (λ (l : List ℕ). dep_print p ++ l) (got_rest j.3),
      )

  abbrev pub dep : Format ((a : A) × B a)
  dep = record { Ok = dep_ok; print = dep_print; parse = dep_parse; back = dep_back; only = dep_only }

abbrev pub pair : {A B : Type 0} → Format A → Format B → Format (A × B)
pair F G = dep F (λ a. G)

-- along a bijection
module _ {A B : Type 0} (F : Format B) (f : A → B) (g : B → A) (gf : (a : A) → g (f a) ≡ a) (fg : (b : B) → f (g b) ≡ b) where
  abbrev pub iso_parse : List ℕ → Parsed A
  iso_parse s = map g (F.parse s)

  pub iso_back : (a : A) (r : List ℕ) → F.Ok (f a) → iso_parse (F.print (f a) ++ r) ≡ got a r
  iso_back a r h = rw (F.back (f a) r h, gf a)

  pub iso_only : (s : List ℕ) (a : A) (r : List ℕ) → iso_parse s ≡ got a r → F.Ok (f a) × (s ≡ F.print (f a) ++ r)
  iso_only s a r e =
      let i = map_inv g (F.parse s) a r e in
      let h = F.only s i.0 r i.1 in
      let be : i.0 ≡ f a = sym (fg i.0) ∙ ap f i.2 in
      (subst F.Ok be h.0, h.1 ∙ ap (λ (b : B). F.print b ++ r) be)

  abbrev pub iso : Format A
  iso = record { Ok = λ a. F.Ok (f a); print = λ a. F.print (f a); parse = iso_parse; back = iso_back; only = iso_only }

-- the values that pass a test
module _ {A : Type 0} (F : Format A) (test : A → Bool) where
  abbrev pub guard_parse : List ℕ → Parsed A
  guard_parse s = bind (F.parse s) (λ a r. cond (test a) (got a r) fail)

  pub guard_back : (a : A) (r : List ℕ) → F.Ok a × (test a ≡ true) → guard_parse (F.print a ++ r) ≡ got a r
  guard_back a r h = rw (F.back a r h.0, h.1)

  pub guard_only : (s : List ℕ) (a : A) (r : List ℕ) → guard_parse s ≡ got a r → (F.Ok a × (test a ≡ true)) × (s ≡ F.print a ++ r)
  guard_only s a r e =
      let i = bind_inv (F.parse s) (λ a r. cond (test a) (got a r) fail) a r e in
      let p = cond_inv (test i.0) (got i.0 i.1) a r i.3 in
      let q : i.0 ≡ a = got_value p.1 in
      let t : i.1 ≡ r = got_rest p.1 in
      let f = F.only s i.0 i.1 i.2 in
      ((subst F.Ok q f.0, ap test (sym q) ∙ p.0), f.1 ∙ ap (λ (b : A). F.print b ++ i.1) q ∙ ap (λ (l : List ℕ). F.print a ++ l) t)

  abbrev pub guard : Format A
  guard = record { Ok = λ a. F.Ok a × (test a ≡ true); print = F.print; parse = guard_parse; back = guard_back; only = guard_only }
