-- A format: a way to print a value as numbers (bytes or words) and to read it back, with the two laws that make them one another's inverse; and what
-- the laws give of any format. Assumes nothing.
use Rattle.std.specs.Prelude.{◌≡◌, refl, ◌↔◌, List, [], ◌++◌, ℕ}
use Rattle.std.proofs.Common.{sym, ◌∙◌, ap}
use Rattle.format.specs.Parsed.{Parsed, fail, got, got_value, got_rest, fail_got}

-- Ok: the values that can be printed. back: what is printed is read back, whatever follows. only: nothing else is read
pub record Format (A : Type 0) : Type 1 where
  pub Ok : A → Type 0
  pub print : A → List ℕ
  pub parse : List ℕ → Parsed A
  pub back : (a : A) (r : List ℕ) → Ok a → parse (print a ++ r) ≡ got a r
  pub only : (s : List ℕ) (a : A) (r : List ℕ) → parse s ≡ got a r → Ok a × (s ≡ print a ++ r)

module _ {A : Type 0} (F : Format A) where
  -- no printed value begins another, and what follows is not mistaken either
  pub prefix_free : (a b : A) (r t : List ℕ) → F.Ok a → F.Ok b → F.print a ++ r ≡ F.print b ++ t → (a ≡ b) × (r ≡ t)
  prefix_free a b r t p q e =
      let h : got a r ≡ got b t = sym (F.back a r p) ∙ ap F.parse e ∙ F.back b t q in
      (got_value h, got_rest h)

  pub injective : (a b : A) → F.Ok a → F.Ok b → F.print a ≡ F.print b → a ≡ b
  injective a b p q e = (prefix_free a b [] [] p q (ap (λ (l : List ℕ). l ++ []) e)).0

  -- reading refuses exactly where nothing printed begins the input
  pub refuses : (s : List ℕ) → (F.parse s ≡ fail) ↔ ((a : A) (r : List ℕ) → F.Ok a → s ≡ F.print a ++ r → ⊥)
  refuses s = (λ e a r p q. fail_got (F.parse s) a r e (ap F.parse q ∙ F.back a r p), go (F.parse s) refl)
    where
      go : (m : Parsed A) → F.parse s ≡ m → ((a : A) (r : List ℕ) → F.Ok a → s ≡ F.print a ++ r → ⊥) → F.parse s ≡ fail
      go fail e h = e
      go (got a r) e h = absurd (h a r (F.only s a r e).0 (F.only s a r e).1)
