-- The prefixes that have words are those that have bytes (document 01, Records and Types to bytes). Assumes nothing.
use Rattle.std.specs.Prelude.{refl, ◌↔◌, Bool, true, false, List, [], ◌∷◌, ℕ}
use Rattle.std.proofs.Common.{arith}
use Rattle.prefixes.specs.Prefix.{supers_words, supers_lead}
use Rattle.lists.specs.Agree.{indices_agree}

pub supers_agree : (p : Bool × List ℕ) → supers_words.Ok p ↔ supers_lead.Ok p
supers_agree (false, xs) = let a = indices_agree xs in (λ h. a.0 h.1, λ h. (tt, a.1 h))
supers_agree (true, []) = let a = indices_agree [] in (λ h. tt, λ h. (tt, (omega arith, tt)))
supers_agree (true, x ∷ xs) = let a = indices_agree (x ∷ xs) in (λ h. (a.0 h.1, refl), λ h. (tt, a.1 h.0))
