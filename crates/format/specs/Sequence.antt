-- One walk behind another: the whole reads as the first part and then the second do, and writes what they write. Assumes nothing.
use Rattle.std.specs.Prelude.{◌≡◌, refl, List, ◌++◌, ℕ, min, length, take, drop}
use Rattle.std.proofs.Common.{sym, ◌∙◌, ap, append_assoc, arith, length-append, take-append-drop}
use Rattle.std.proofs.Math.Seq.{drop-append_seam}
use Rattle.format.specs.Parsed.{Parsed, fail, got, bind, map, map-map}
use Rattle.format.specs.Format.{Format}
use Rattle.format.specs.Combine.{dep, pair}
use Rattle.format.specs.Read.{place_of}
use Rattle.format.specs.Count.{silent}
use Rattle.format.specs.Walk.{Walking, nothing_there, not_found, was_found, walks_as}
use Rattle.format.specs.declared.Done.{Done}
use Rattle.format.specs.Walk.{Walk}
use Rattle.std.specs.Prelude.{None, Some}

-- what a reading leaves is the end of what it was given
abbrev pub Leaves : {A : Type 0} → (List ℕ → Parsed A) → Type 0
Leaves {A} P = (s : List ℕ) (a : A) (r : List ℕ) → P s ≡ got a r → (q : List ℕ) × (s ≡ q ++ r)

pub leaves : {A : Type 0} (F : Format A) → Leaves F.parse
leaves F s a r e = (F.print a, (F.only s a r e).1)

-- so it stands from its place on
pub left_at : {A : Type 0} (P : List ℕ → Parsed A) → Leaves P → (w : List ℕ) (at : ℕ) (a : A) (r : List ℕ) → P (drop at w) ≡ got a r → r ≡ drop (place_of w r) w
left_at P l w at a r e =
    let (q, d) = l (drop at w) a r e in
    let p = take at w ++ q in
    let we : w ≡ p ++ r = sym (take-append-drop at w) ∙ ap (λ (t : List ℕ). take at w ++ t) d ∙ sym (append_assoc (take at w) q r) in
    let n : place_of w r ≡ length p = omega (arith, ap length we, length-append p r) in
    sym (rw n (ap (drop (length p)) we ∙ drop-append_seam p r))

-- f, g, f', g', f'', g'': what is written of a value of the first part, of the second, of the whole, and the lowest refusals that they draw
module _ {A B C : Type 0} (P : List ℕ → Parsed A) (f : A → List ℕ) (g : A → ℕ) (Q : List ℕ → Parsed B) (f' : B → List ℕ) (g' : B → ℕ) (X : List ℕ → Parsed C)
    (f'' : C → List ℕ) (g'' : C → ℕ) where
  pub record Joins : Type 0 where
    pub ends : Leaves P
    pub join : A → B → C
    pub reads : (s : List ℕ) → X s ≡ bind (P s) (λ a r. map (join a) (Q r))
    pub writes : (a : A) (b : B) → f a ++ f' b ≡ f'' (join a b)
    pub draws : (a : A) (b : B) → min (g a) (g' b) ≡ g'' (join a b)

module _ {A B C : Type 0} {P : List ℕ → Parsed A} {f : A → List ℕ} {g : A → ℕ} {Q : List ℕ → Parsed B} {f' : B → List ℕ} {g' : B → ℕ} {X : List ℕ → Parsed C} {f'' : C → List ℕ} {g'' : C → ℕ}
    (J : Joins P f g Q f' g' X f'' g'') {w : List ℕ} {at : ℕ} {old : List ℕ} {s : Done} {new : List ℕ} {r : Walk} where
  -- where the first part is missing, so is the whole
  pub first_missing : Walking P f g w at old s new r → r ≡ None → Walking X f'' g'' w at old s new None
  first_missing h e = nothing_there (rw (J.reads (drop at w), not_found h e))

  -- else a walk over the second part, from where the first one ended, is one over the whole
  pub second_follows : {cur : List ℕ} {p : ℕ} {u : Done} {r' : Walk} → Walking P f g w at old s cur r → r ≡ Some (p, u) → Walking Q f' g' w p cur u new r' → Walking X f'' g'' w at old s new r'
  second_follows {p = p} h e k =
      let q = was_found h e in
      let t : q.rest ≡ drop p w = left_at P J.ends w at q.value q.rest q.is ∙ ap (λ (n : ℕ). drop n w) q.place in
      walks_as (J.join q.value) (J.reads (drop at w) ∙ rw (q.is, t)) (J.writes q.value) (J.draws q.value) q.adds k

-- the value as something else
pub joins_map : {A B C D : Type 0} (P : List ℕ → Parsed A) (f : A → List ℕ) (g : A → ℕ) (Q : List ℕ → Parsed B) (f' : B → List ℕ) (g' : B → ℕ) (X : List ℕ → Parsed C)
    (f'' : C → List ℕ) (g'' : C → ℕ) (Y : List ℕ → Parsed D) (f''' : D → List ℕ) (g''' : D → ℕ) (h : C → D) → ((s : List ℕ) → Y s ≡ map h (X s))
    → ((c : C) → f'' c ≡ f''' (h c)) → ((c : C) → g'' c ≡ g''' (h c)) → Joins P f g Q f' g' X f'' g'' → Joins P f g Q f' g' Y f''' g'''
joins_map {A} {B} {C} {D} P f g Q f' g' X f'' g'' Y f''' g''' h e ef eg J =
    record {
      ends = J.ends;
      join = λ a b. h (J.join a b);
      reads = λ s. e s ∙ ap (map h) (J.reads s) ∙ go (P s);
      writes = λ a b. J.writes a b ∙ ef (J.join a b);
      draws = λ a b. J.draws a b ∙ eg (J.join a b);
    }
  where
    go : (m : Parsed A) → map h (bind m (λ a r. map (J.join a) (Q r))) ≡ bind m (λ a r. map (λ b. h (J.join a b)) (Q r))
    go fail = refl
    go (got a r) = map-map h (J.join a) (Q r)

-- a pair
pub pair_plain : {A B : Type 0} (F : Format A) (G : Format B) (s : List ℕ) → (pair F G).parse s ≡ bind (F.parse s) (λ a r. map (λ b. (a, b)) (G.parse r))
pair_plain {A} {B} F G s = go (F.parse s)
  where
    in_it : (a : A) (m : Parsed B) → bind {B = A × B} m (λ b t. got (a, b) t) ≡ map {B = A × B} (λ b. (a, b)) m
    in_it a fail = refl
    in_it a (got b t) = refl

    go : (m : Parsed A) → bind {B = A × B} m (λ a r. bind (G.parse r) (λ b t. got (a, b) t)) ≡ bind {B = A × B} m (λ a r. map (λ b. (a, b)) (G.parse r))
    go fail = refl
    go (got a r) = in_it a (G.parse r)

-- one with no refusals; and what is made of one: what most types are
module _ {A B : Type 0} (F : Format A) (f : A → List ℕ) (G : Format B) (f' : B → List ℕ) where
  pub pair_joins : Joins F.parse f silent G.parse f' silent (pair F G).parse (λ p. f p.0 ++ f' p.1) silent
  pair_joins = record { ends = leaves F; join = λ a b. (a, b); reads = pair_plain F G; writes = λ a b. refl; draws = λ a b. refl }

  pub joins : {C : Type 0} (X : Format C) (f'' : C → List ℕ) (h : A × B → C) → ((s : List ℕ) → X.parse s ≡ map h ((pair F G).parse s))
      → ((a : A) (b : B) → f a ++ f' b ≡ f'' (h (a, b))) → Joins F.parse f silent G.parse f' silent X.parse f'' silent
  joins X f'' h e w =
      joins_map F.parse f silent G.parse f' silent (pair F G).parse (λ p. f p.0 ++ f' p.1) silent X.parse f'' silent h e (λ p. w p.0 p.1) (λ p. refl)
      pair_joins

-- a value that is there, and one whose format depends on it
module _ {A : Type 0} {B : A → Type 0} (F : Format A) (G : (a : A) → Format (B a)) where
  pub dep_known : (a : A) (s r : List ℕ) → F.parse s ≡ got a r → (dep F G).parse s ≡ map {B = (a : A) × B a} (λ b. (a, b)) ((G a).parse r)
  dep_known a s r e = rw e (go ((G a).parse r))
    where
      go : (m : Parsed (B a)) → bind {B = (a : A) × B a} m (λ b t. got (a, b) t) ≡ map {B = (a : A) × B a} (λ b. (a, b)) m
      go fail = refl
      go (got b t) = refl
