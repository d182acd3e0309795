-- How tightly each entry is bound: any two answers, numbers and bytes that a contract allows are equal. Assumes nothing.
use Rattle.std.specs.Prelude.{◌≡◌, List, ℕ}
use Rattle.std.proofs.Common.{sym, ap, ◌∙◌}
use Rattle.format.specs.Write as write
use Rattle.format.specs.Read as read
use Rattle.frames.specs.Append as append
use Rattle.thriftbell.specs.Read as item
use Rattle.capi.specs.Outcomes.{written, valued, added, took, Answered}

-- the writers of numbers and expressions, and finish
pub one_written : {w : write.Outcome} {a b m n : ℕ} {xs ys : List ℕ} → written a m xs ≡ w → written b n ys ≡ w → (a ≡ b) × (m ≡ n) × (xs ≡ ys)
one_written p q =
    let e = p ∙ sym q in
    (ap (λ (o : write.Outcome). o.number) e, ap (λ (o : write.Outcome). o.value) e, ap (λ (o : write.Outcome). o.memory) e)

-- the readers of numbers
pub one_valued : {A : Type 0} {w : read.Outcome A} {a b m n : ℕ} {x y : A} → valued a x m ≡ w → valued b y n ≡ w → (a ≡ b) × (x ≡ y) × (m ≡ n)
one_valued {A = A} p q =
    let e = p ∙ sym q in
    (ap (λ (o : read.Outcome A). o.number) e, ap (λ (o : read.Outcome A). o.value) e, ap (λ (o : read.Outcome A). o.place) e)

pub one_added : {w : append.Outcome} {a b m n : ℕ} {xs ys : List ℕ} → added a m xs ≡ w → added b n ys ≡ w → (a ≡ b) × (m ≡ n) × (xs ≡ ys)
one_added p q =
    let e = p ∙ sym q in
    (ap (λ (o : append.Outcome). o.number) e, ap (λ (o : append.Outcome). o.state.used) e, ap (λ (o : append.Outcome). o.store) e)

pub one_took : {w : item.Outcome} {a b k l m n : ℕ} {xs ys : List ℕ} → took a k m xs ≡ w → took b l n ys ≡ w → (a ≡ b) × (k ≡ l) × (m ≡ n) × (xs ≡ ys)
one_took p q =
    let e = p ∙ sym q in
    (ap (λ (o : item.Outcome). o.number) e, ap (λ (o : item.Outcome). o.words) e, ap (λ (o : item.Outcome). o.taken) e, ap (λ (o : item.Outcome). o.memory) e)

-- all that is lent to a line, its answer too, is the record itself
pub one_answered : {w v u : Answered} → v ≡ w → u ≡ w → v ≡ u
one_answered p q = p ∙ sym q
