-- One of several formats, told by what stands there. Assumes nothing.
use Rattle.std.specs.Prelude.{◌≡◌, List, ◌++◌, ℕ}
use Rattle.std.proofs.Common.{subst}
use Rattle.format.specs.Parsed.{Parsed, got, map, map_inv}
use Rattle.format.specs.Format.{Format}

-- at: which one the numbers begin with; told: it knows what each prints, whatever follows
module _ {K : Type 0} {B : K → Type 0} (at : List ℕ → K) (F : (k : K) → Format (B k)) where
  abbrev pub one_ok : (k : K) × B k → Type 0
  one_ok p = (F p.0).Ok p.1

  abbrev pub one_print : (k : K) × B k → List ℕ
  one_print p = (F p.0).print p.1

  abbrev pub one_parse : List ℕ → Parsed ((k : K) × B k)
  one_parse s = map {B = (k : K) × B k} (λ b. (at s, b)) ((F (at s)).parse s)

  pub one_only : (s : List ℕ) (p : (k : K) × B k) (r : List ℕ) → one_parse s ≡ got p r → one_ok p × (s ≡ one_print p ++ r)
  one_only s p r e =
      let i = map_inv {B = (k : K) × B k} (λ b. (at s, b)) ((F (at s)).parse s) p r e in
      subst (λ (q : (k : K) × B k). one_ok q × (s ≡ one_print q ++ r)) i.2 ((F (at s)).only s i.0 r i.1)

  pub one_at : (k : K) (s : List ℕ) → at s ≡ k → one_parse s ≡ map {B = (k : K) × B k} (λ b. (k, b)) ((F k).parse s)
  one_at k s e = rw e

  module _ (told : (k : K) (b : B k) (r : List ℕ) → (F k).Ok b → at ((F k).print b ++ r) ≡ k) where
    pub one_back : (p : (k : K) × B k) (r : List ℕ) → one_ok p → one_parse (one_print p ++ r) ≡ got p r
    one_back p r ok = rw (one_at p.0 (one_print p ++ r) (told p.0 p.1 r ok), (F p.0).back p.1 r ok)

    abbrev pub one : Format ((k : K) × B k)
    one = record { Ok = one_ok; print = one_print; parse = one_parse; back = one_back; only = one_only }
