-- What a look at each id of an order list tells. Assumes nothing.
use mathlib.Core.Path.{◌≡◌, refl, sym, ◌∙◌}
use mathlib.Core.Logic.{◌↔◌}
use mathlib.Core.Bool.{Bool, true, false, cond, true≢false}
use mathlib.Core.List.{List, [], ◌∷◌}
use Prim.Native.Nat.{ℕ, zero, suc, ◌<◌}
use native.Mathlib.Omega.{arith}
use lib.ListN.{length, get_or}
use Rattle.frames.specs.Ids.{among}
use Rattle.sections.specs.Order.{all_among}

module _ (ids : List ℕ) where
  abbrev Each : List ℕ → Type 0
  Each order = (k : ℕ) → k < length order → among ids (get_or order k 0) ≡ true

  each_among : (order : List ℕ) → Each order → all_among ids order ≡ true
  each_among [] h = refl
  each_among (i ∷ order) h = rw (h 0 (omega arith)) (each_among order (λ k l. h (suc k) (omega arith)))

  among_each : (order : List ℕ) → all_among ids order ≡ true → Each order
  among_each [] e k l = absurd (omega arith)
  among_each (i ∷ order) e k l = go (among ids i) refl e (among_each order) k l
    where
      go : (t : Bool) → among ids i ≡ t → cond t (all_among ids order) false ≡ true → (all_among ids order ≡ true → Each order)
          → (k : ℕ) → k < suc (length order) → among ids (get_or (i ∷ order) k 0) ≡ true
      go true q e f zero l = q
      go true q e f (suc k) l = f e k (omega arith)
      go false q e f k l = absurd (true≢false (sym e))

  pub all_told : (order : List ℕ) {b : Bool} → (b ≡ true) ↔ Each order → b ≡ all_among ids order
  all_told order {b} f = go b refl (all_among ids order) refl
    where
      go : (b' : Bool) → b ≡ b' → (a : Bool) → all_among ids order ≡ a → b ≡ all_among ids order
      go true p a q = p ∙ sym (each_among order (f.0 p))
      go false p true q = absurd (true≢false (sym (f.1 (among_each order q)) ∙ p))
      go false p false q = p ∙ sym q
