-- A walk that is one of something else: of the same by another name, or of what a number in front tells. Assumes nothing.
use Rattle.std.specs.Prelude.{◌≡◌, refl, List, [], ◌∷◌, ◌++◌, ℕ, ◌+◌, ◌<◌, min, length, get_or, drop}
use Rattle.std.proofs.Common.{sym, ◌∙◌, ap}
use Rattle.format.specs.Parsed.{Parsed, map}
use Rattle.format.specs.Format.{Format}
use Rattle.format.specs.Combine.{dep}
use Rattle.format.specs.Read.{drop_more}
use Rattle.format.specs.Count.{Appends, no_refusal, silent, adds_nil}
use Rattle.format.specs.Walk.{Walking, walks_as}
use Rattle.format.specs.Sequence.{dep_known}
use Rattle.format.specs.declared.Done.{Done}
use Rattle.format.specs.Walk.{Walk}

-- X reads what Q reads, as something else, and of it is written the same
pub record Renames {A B : Type 0} (Q : List ℕ → Parsed B) (f' : B → List ℕ) (g' : B → ℕ) (X : List ℕ → Parsed A) (f : A → List ℕ) (g : A → ℕ) : Type 0 where
  pub name : B → A
  pub reads : (s : List ℕ) → X s ≡ map name (Q s)
  pub writes : (b : B) → f' b ≡ f (name b)
  pub draws : (b : B) → min no_refusal (g' b) ≡ g (name b)

pub renamed : {A B : Type 0} {Q : List ℕ → Parsed B} {f' : B → List ℕ} {g' : B → ℕ} {X : List ℕ → Parsed A} {f : A → List ℕ} {g : A → ℕ} → Renames Q f' g' X f g
    → {w : List ℕ} {at : ℕ} {old : List ℕ} {s : Done} {new : List ℕ} {r : Walk} → Walking Q f' g' w at old s new r → Walking X f g w at old s new r
renamed E {w} {at} {old} {s} h = walks_as E.name (E.reads (drop at w)) E.writes E.draws (adds_nil old s) h

-- ---- the number x opens an alternative of X, which Q reads behind it; of it is written `pre`, and then what is written of the rest

pub record Opens {A B : Type 0} (x : ℕ) (pre : List ℕ) (Q : List ℕ → Parsed B) (f' : B → List ℕ) (g' : B → ℕ) (X : List ℕ → Parsed A) (f : A → List ℕ) (g : A → ℕ) : Type 0 where
  pub name : B → A
  pub reads : (s : List ℕ) → X (x ∷ s) ≡ map name (Q s)
  pub writes : (b : B) → pre ++ f' b ≡ f (name b)
  pub draws : (b : B) → min no_refusal (g' b) ≡ g (name b)

module _ {A B : Type 0} {x : ℕ} {Q : List ℕ → Parsed B} {f' : B → List ℕ} {g' : B → ℕ} {X : List ℕ → Parsed A} {f : A → List ℕ} {g : A → ℕ} where
  -- `pre` was appended
  pub opened : {pre : List ℕ} (E : Opens x pre Q f' g' X f g) {w : List ℕ} {at : ℕ} {old : List ℕ} {s : Done} {cur : List ℕ} {t : Done} {new : List ℕ} {r : Walk} → get_or w at 0 ≡ x
      → at < length w → Walking Q f' g' w (at + 1) cur t new r → Appends pre old s cur t → Walking X f g w at old s new r
  opened E {w} {at} e h k a =
      walks_as E.name (rw (drop_more w at h, e) (E.reads (drop (at + 1) w))) E.writes E.draws a k

  -- nothing was
  pub opened_bare : Opens x [] Q f' g' X f g → {w : List ℕ} {at : ℕ} {old : List ℕ} {s : Done} {new : List ℕ} {r : Walk} → get_or w at 0 ≡ x → at < length w
      → Walking Q f' g' w (at + 1) old s new r → Walking X f g w at old s new r
  opened_bare E {old = old} {s} e h k = opened E e h k (adds_nil old s)

-- a value of one number, and one whose format depends on it
pub dep_opens : {A : Type 0} {B : A → Type 0} (F : Format A) (G : (a : A) → Format (B a)) (f : (a : A) × B a → List ℕ) (a : A) (x : ℕ) (pre : List ℕ) (f' : B a → List ℕ) → F.Ok a
    → F.print a ≡ x ∷ [] → ((b : B a) → pre ++ f' b ≡ f (a, b)) → Opens x pre (G a).parse f' silent (dep F G).parse f silent
dep_opens {A} {B} F G f a x pre f' ok e writes =
    record {
      name = λ b. (a, b);
      reads = λ s. dep_known F G a (x ∷ s) s (ap (λ (l : List ℕ). F.parse (l ++ s)) (sym e) ∙ F.back a s ok);
      writes = writes;
      draws = λ b. refl;
    }
