-- How far the look for an id that an order list has twice has come. Assumes nothing.
use mathlib.Core.Path.{◌≡◌, sym, subst, ◌∙◌, ap}
use mathlib.Core.Logic.{◌↔◌}
use mathlib.Core.Bool.{Bool, true, false, true≢false}
use mathlib.Core.List.{List, [], ◌∷◌, ◌++◌}
use Prim.Native.Nat.{ℕ, zero, suc, ◌+◌, ◌<◌}
use native.Mathlib.Numerals.{add-one}
use native.Mathlib.Omega.{arith}
use lib.ListN.{length, take, get_or, set, length-set}
use lib.Seq.{take-suc, get_or-set_same, get_or-set_other}
use Rattle.format.specs.Lists.{All, all_more}
use Rattle.frames.specs.Tally.{table, table_at}
use Rattle.sections.specs.Order.{order_ids, all_among, Away, Once}
use Rattle.sections.proofs.Listed.{next_below}

-- ---- lists of ids

all-at : (P : ℕ → Type 0) (xs : List ℕ) (k : ℕ) → All P xs → k < length xs → P (get_or xs k 0)
all-at P [] k a h = absurd (omega arith)
all-at P (x ∷ xs) zero a h = a.0
all-at P (x ∷ xs) (suc k) a h = all-at P xs k a.1 (omega arith)

pub all_less : (P : ℕ → Type 0) (xs : List ℕ) (i : ℕ) → All P (xs ++ (i ∷ [])) → All P xs × P i
all_less P [] i a = (tt, a.0)
all_less P (x ∷ xs) i a = let (b, c) = all_less P xs i a.1 in ((a.0, b), c)

-- an id is not among those before it
pub once_at : (order : List ℕ) (k : ℕ) → Once order → k < length order → Away (get_or order k 0) (take k order)
once_at [] k o h = absurd (omega arith)
once_at (i ∷ order) zero o h = tt
once_at (i ∷ order) (suc k) o h = (λ e. all-at (λ j. j ≡ i → ⊥) order k o.0 (omega arith) (sym e), once_at order k o.1 (omega arith))

-- one id more
pub take_more : (order : List ℕ) (j : ℕ) → j < length order → take (j + 1) order ≡ take j order ++ (get_or order j 0 ∷ [])
take_more order j h = rw (add-one j) (take-suc order j 0 h)

once_more : (order : List ℕ) (i : ℕ) → Once order → Away i order → Once (order ++ (i ∷ []))
once_more [] i o a = (tt, tt)
once_more (j ∷ order) i o a = (all_more (λ k. k ≡ j → ⊥) order i o.0 (λ e. a.0 (sym e)), once_more order i o.1 a.1)

-- ---- a table of what is noted, where nothing is

abbrev pub zeros : List ℕ
zeros = 0 ∷ 0 ∷ 0 ∷ 0 ∷ 0 ∷ 0 ∷ 0 ∷ 0 ∷ 0 ∷ 0 ∷ 0 ∷ 0 ∷ 0 ∷ 0 ∷ 0 ∷ 0 ∷ []

pub zeros_at : (i : ℕ) → i < 16 → get_or zeros i 0 ≡ 0
unfolding table
zeros_at i h = table_at 16 (λ j. 0) i 0 h

-- ---- the look

-- no id is among the first j twice, and those that are there are noted
pub record Seen (order : List ℕ) (seen : List Bool) (j : ℕ) : Type 0 where
  pub once : Once (take j order)
  pub few : length seen ≡ 16
  pub others : (i : ℕ) → get_or seen i false ≡ false → Away i (take j order)
  pub noted : (i : ℕ) → i < 16 → get_or seen i false ≡ true → Away i (take j order) → ⊥

module _ {order : List ℕ} {seen : List Bool} {j : ℕ} (s : Seen order seen j) where
  pub seen_more : j < length order → all_among order_ids order ≡ true → get_or seen (get_or order j 0) false ≡ false → Seen order (set seen (get_or order j 0) true) (j + 1)
  seen_more h a n =
      let i = get_or order j 0 in
      let b = next_below order j a h in
      let f = s.few in
      record {
        once = subst Once (sym (take_more order j h)) (once_more (take j order) i s.once (s.others i n));
        few = length-set seen i true ∙ f;
        others = λ k m.
            let away : i ≡ k → ⊥ = λ e. true≢false (sym (get_or-set_same seen i true false (omega arith)) ∙ ap (λ (x : ℕ). get_or (set seen i true) x false) e ∙ m) in
            subst (Away k) (sym (take_more order j h))
            (all_more (λ e. e ≡ k → ⊥) (take j order) i (s.others k (sym (get_or-set_other seen i k true false (λ e. away (sym e))) ∙ m)) away);
        noted = λ k c q a.
            let (d, e) = all_less (λ e. e ≡ k → ⊥) (take j order) i (subst (Away k) (take_more order j h) a) in
            s.noted k c (sym (get_or-set_other seen i k true false (λ p. e (sym p))) ∙ q) d;
      }

  -- an id was noted before
  pub seen_twice : j < length order → all_among order_ids order ≡ true → get_or seen (get_or order j 0) false ≡ true → (false ≡ true) ↔ Once order
  seen_twice h a q = (λ e. absurd (true≢false (sym e)), λ o. absurd (s.noted (get_or order j 0) (next_below order j a h) q (once_at order j o h)))

-- what the look told
pub once_told : (order : List ℕ) {r : Bool} → (r ≡ true) ↔ Once order → r ≡ true → Once order
once_told order f e = f.0 e
