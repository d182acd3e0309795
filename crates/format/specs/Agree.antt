-- Two formats that print the same values, and that formats made of such ones do too. Assumes nothing.
use Rattle.std.specs.Prelude.{◌↔◌, ◌⊎◌, Bool, List, [], ◌∷◌, ℕ, length}
use Rattle.std.proofs.Common.{inl, inr}
use Rattle.format.specs.Format.{Format}
use Rattle.format.specs.Combine.{pair}
use Rattle.format.specs.Alternatives.{alt_ok}
use Rattle.format.specs.Lists.{All, many}

abbrev pub Agree : {A : Type 0} → Format A → Format A → Type 0
Agree {A} F G = (a : A) → F.Ok a ↔ G.Ok a

pub agree_same : {A : Type 0} (F : Format A) → Agree F F
agree_same F a = (λ h. h, λ h. h)

module _ {A B : Type 0} (F F' : Format A) (G G' : Format B) (f : Agree F F') (g : Agree G G') where
  pub pair_agree : Agree (pair F G) (pair F' G')
  pair_agree p = (λ h. ((f p.0).0 h.0, (g p.1).0 h.1), λ h. ((f p.0).1 h.0, (g p.1).1 h.1))

  -- however the two are told apart
  pub alt_agree : (p q : ℕ → Bool) (w : A ⊎ B) → alt_ok p F G w ↔ alt_ok q F' G' w
  alt_agree p q (inl a) = f a
  alt_agree p q (inr b) = g b

-- lists whose counts agree
pub many_agree : {A : Type 0} (N N' : Format ℕ) (F F' : Format A) → Agree N N' → Agree F F' → Agree (many N F) (many N' F')
many_agree {A} N N' F F' n f xs = (λ h. ((n (length xs)).0 h.0, there xs h.1), λ h. ((n (length xs)).1 h.0, back xs h.1))
  where
    there : (xs : List A) → All F.Ok xs → All F'.Ok xs
    there [] h = tt
    there (a ∷ xs) h = ((f a).0 h.0, there xs h.1)

    back : (xs : List A) → All F'.Ok xs → All F.Ok xs
    back [] h = tt
    back (a ∷ xs) h = ((f a).1 h.0, back xs h.1)
