-- Document 01, Answers by number: the number of each refusal. Assumes nothing.
use Rattle.std.specs.Prelude.{◌≡◌, refl, [], ◌∷◌, ℕ, ◌≤◌, get_or, eqb, Result, Ok, Err, is_ok}
use Rattle.std.proofs.Common.{sym, ◌∙◌, ap, arith, ne_eqb}
use Rattle.format.specs.declared.refusal.Refusal.{Refusal}
use Rattle.format.specs.declared.refusal.Refusal.TheVariants.{StoreOver, NoRecord, BadText, BadName, BadExpr, ItemLarge, StoreFull, BadOrder, NoFrames, OutputShort, NothingToRead, BadLine}

abbrev pub number_of : Refusal → ℕ
number_of StoreOver = 1
number_of NoRecord = 2
number_of BadText = 3
number_of BadName = 4
number_of BadExpr = 5
number_of ItemLarge = 6
number_of StoreFull = 7
number_of BadOrder = 8
number_of NoFrames = 9
number_of OutputShort = 10
number_of NothingToRead = 11
number_of BadLine = 12

-- what an answer is by number: 0 where it was accepted
abbrev pub told : {A : Type 0} → Result A Refusal → ℕ
told (Ok x) = 0
told (Err e) = number_of e

-- the refusals in the order of their numbers
refusal_of : ℕ → Refusal
refusal_of n = get_or (BadLine ∷ StoreOver ∷ NoRecord ∷ BadText ∷ BadName ∷ BadExpr ∷ ItemLarge ∷ StoreFull ∷ BadOrder ∷ NoFrames ∷ OutputShort ∷ NothingToRead ∷ BadLine ∷ []) n BadLine

back : (e : Refusal) → refusal_of (number_of e) ≡ e
unfolding refusal_of
back StoreOver = refl
back NoRecord = refl
back BadText = refl
back BadName = refl
back BadExpr = refl
back ItemLarge = refl
back StoreFull = refl
back BadOrder = refl
back NoFrames = refl
back OutputShort = refl
back NothingToRead = refl
back BadLine = refl

-- no two have the same
pub one_number : (e f : Refusal) → number_of e ≡ number_of f → e ≡ f
one_number e f h = sym (back e) ∙ ap refusal_of h ∙ back f

-- and none has 0, which says that it was accepted
pub numbered : (e : Refusal) → 1 ≤ number_of e
numbered StoreOver = omega arith
numbered NoRecord = omega arith
numbered BadText = omega arith
numbered BadName = omega arith
numbered BadExpr = omega arith
numbered ItemLarge = omega arith
numbered StoreFull = omega arith
numbered BadOrder = omega arith
numbered NoFrames = omega arith
numbered OutputShort = omega arith
numbered NothingToRead = omega arith
numbered BadLine = omega arith

pub told_ok : {A : Type 0} (r : Result A Refusal) → is_ok r ≡ eqb (told r) 0
told_ok (Ok x) = refl
told_ok (Err e) = let h = numbered e in sym (ne_eqb (number_of e) 0 (λ z. omega arith))
