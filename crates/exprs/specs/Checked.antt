-- The check of a whole span (document 01, Answers by number): 5 is given exactly if the bytes are no expression, and else 0. Assumes nothing.
use Rattle.std.specs.Prelude.{◌≡◌, refl, ◌↔◌, Bool, true, false, cond, List, [], ◌∷◌, ◌++◌, ℕ, ◌+◌, eqb, length, Option, None, Some, Result, Ok, Err}
use Rattle.std.proofs.Common.{sym, ap, subst, ◌∙◌, append-nil, arith, length-append, eqb-true, eq-eqb}
use Rattle.format.specs.Refusal.{told, one_number, numbered}
use Rattle.format.specs.declared.refusal.Refusal.{Refusal}
use Rattle.exprs.specs.Grammar.{Expr}
use Rattle.exprs.specs.Scan.{expr_end, whole, answer}
use Rattle.exprs.specs.Laws.{complete, sound}

pub zero_exactly : (s : List ℕ) → (answer s ≡ 0) ↔ Expr s
zero_exactly s = (there (expr_end s) refl, back)
  where
    all_of : (j : ℕ) (bytes rest : List ℕ) → Expr bytes → s ≡ bytes ++ rest → j ≡ length bytes → j ≡ length s → Expr s
    all_of j bytes [] x e l k = subst Expr (sym (e ∙ append-nil bytes)) x
    all_of j bytes (b ∷ t) x e l k = let n : length s ≡ length bytes + length (b ∷ t) = ap length e ∙ length-append bytes (b ∷ t) in absurd (omega arith)

    at-end : (j : ℕ) (b : Bool) → eqb j (length s) ≡ b → cond {A = ℕ} b 0 5 ≡ 0 → j ≡ length s
    at-end j true e h = eqb-true j (length s) e
    at-end j false e h = absurd (omega arith)

    there : (x : Option ℕ) → expr_end s ≡ x → whole x (length s) ≡ 0 → Expr s
    there None p h = absurd (omega arith)
    there (Some j) p h = let f = sound s j p in all_of j f.bytes f.rest f.expr f.split f.long (at-end j (eqb j (length s)) refl h)

    back : Expr s → answer s ≡ 0
    back x =
        ap (λ (y : Option ℕ). whole y (length s)) (ap expr_end (sym (append-nil s)) ∙ complete x [])
        ∙ ap (λ (b : Bool). cond {A = ℕ} b 0 5) (eq-eqb (length s) (length s) refl)

pub five_exactly : (s : List ℕ) → (answer s ≡ 5) ↔ (Expr s → ⊥)
five_exactly s = (λ h x. let z = (zero_exactly s).1 x in omega arith, λ h. else_five (expr_end s) (λ z. h ((zero_exactly s).0 z)))
  where
    or_five : (b : Bool) → (cond {A = ℕ} b 0 5 ≡ 0 → ⊥) → cond {A = ℕ} b 0 5 ≡ 5
    or_five true h = absurd (h refl)
    or_five false h = refl

    else_five : (x : Option ℕ) → (whole x (length s) ≡ 0 → ⊥) → whole x (length s) ≡ 5
    else_five None h = refl
    else_five (Some j) h = or_five (eqb j (length s)) h

-- any two answers that the contract allows are equal
pub one_checked : (r s : Result (Unit {0}) Refusal) → told r ≡ told s → r ≡ s
one_checked (Ok a) (Ok b) e = refl
one_checked (Ok a) (Err d) e = let h = numbered d in absurd (omega arith)
one_checked (Err c) (Ok b) e = let h = numbered c in absurd (omega arith)
one_checked (Err c) (Err d) e = ap Err (one_number c d e)
