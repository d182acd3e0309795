-- What finishing answers and leaves, for every input (document 01, Store and module; Answers by number: 1, 8, 9, 10). Assumes nothing.
use Rattle.std.specs.Prelude.{◌≡◌, ◌↔◌, Bool, true, false, not, ◌||◌, List, [], ◌∷◌, ◌++◌, ℕ, ltb, length, take, drop}
use Rattle.std.proofs.Math.Path.{refl, sym, ap}
use Rattle.std.proofs.Common.{◌∙◌, arith}
use Rattle.std.proofs.Math.Option.{Option}
use Rattle.format.specs.Answers.{answer, NoneHolds, given_exactly, accepted_exactly, settled, settled_accepts, settled_exactly}
use Rattle.format.specs.Lists.{All, prints}
use Rattle.format.specs.Write.{Written, Outcome, over, same_outcome}
pub use Rattle.format.specs.Write.{outcome}
use Rattle.frames.specs.Frames.{Frame, frame, no_frames, held}
use Rattle.frames.specs.Builder.{used_in, frames_in, is_over, is_unframed, unframed_exactly}
use Rattle.frames.specs.declared.State.{State}
use Rattle.sections.specs.Section.{Ending}
use Rattle.sections.specs.Order.{order_most, order_ids, all_among}
use Rattle.module.specs.Module.{module_of, module_least}

-- what finishing answers, and what it stands for
abbrev pub Finished : Type 0
Finished = Written

-- a refusal returns 0 and changes nothing
abbrev pub refused : List ℕ → ℕ → Outcome
refused out n = record { number = n; value = 0; memory = out }

-- order list too long or with another id
abbrev pub is_other : List ℕ → Bool
is_other order = ltb order_most (length order) || not (all_among order_ids order)

-- the result, of these frames; and that the output is shorter than it
module _ (e : Ending) (fs : Option (List Frame)) (out : List ℕ) where
  abbrev pub is_short : Bool
  is_short = ltb (length out) (length (module_of e (held fs)))

  -- the module's length, and the module; output past it keeps what it held
  abbrev pub finished : Outcome
  finished = record { number = 0; value = length (module_of e (held fs)); memory = over (module_of e (held fs)) out }

  -- where 1 and 8 do not apply
  abbrev pub building : Outcome
  building = settled (refused out) finished (answer ((9, no_frames fs) ∷ (10, is_short) ∷ []))

-- what is judged before the output is looked at
abbrev pub judged : State → List ℕ → Ending → List (ℕ × Bool)
judged state store e = (1, is_over state store) ∷ (8, is_other e.order) ∷ (9, is_unframed state store) ∷ []

module _ (state : State) (store : List ℕ) (e : Ending) (out : List ℕ) where
  abbrev pub conditions : List (ℕ × Bool)
  conditions = judged state store e ++ ((10, is_short e (frames_in state store) out) ∷ [])

  unfoldable pub finishing : Outcome
  finishing = settled (refused out) (finished e (frames_in state store) out) (answer conditions)

  -- ---- each number is given exactly on its condition, where no earlier one's holds

  exactly : {P : Type 0} {n : ℕ} → (answer conditions ≡ n) ↔ P → (finishing.number ≡ n) ↔ P
  unfolding finishing
  exactly = settled_exactly (refused out) (finished e (frames_in state store) out) (λ o. o.number) refl (λ n. refl)

  pub one_exactly : (finishing.number ≡ 1) ↔ (NoneHolds [] × (is_over state store ≡ true))
  one_exactly = exactly (given_exactly 1 (is_over state store) [] (drop 1 conditions) (λ z. omega arith) refl refl)

  pub eight_exactly : (finishing.number ≡ 8) ↔ (NoneHolds (take 1 conditions) × (is_other e.order ≡ true))
  eight_exactly = exactly (given_exactly 8 (is_other e.order) (take 1 conditions) (drop 2 conditions) (λ z. omega arith) refl refl)

  pub nine_exactly : (finishing.number ≡ 9) ↔ (NoneHolds (take 2 conditions) × (is_unframed state store ≡ true))
  nine_exactly = exactly (given_exactly 9 (is_unframed state store) (take 2 conditions) (drop 3 conditions) (λ z. omega arith) refl refl)

  -- in words: no list of frames is the room used
  pub nine_means : (finishing.number ≡ 9) ↔ (NoneHolds (take 2 conditions) × ((fs : List Frame) → All frame.Ok fs → used_in state store ≡ prints frame.print fs → ⊥))
  nine_means =
      let u = unframed_exactly state store in
      (λ z. let (n, h) = nine_exactly.0 z in (n, u.0 h), λ (n, h). nine_exactly.1 (n, u.1 h))

  pub ten_exactly : (finishing.number ≡ 10) ↔ (NoneHolds (judged state store e) × (is_short e (frames_in state store) out ≡ true))
  ten_exactly = exactly (given_exactly 10 (is_short e (frames_in state store) out) (judged state store e) [] (λ z. omega arith) refl refl)

  pub zero_exactly : (finishing.number ≡ 0) ↔ NoneHolds conditions
  zero_exactly = exactly (accepted_exactly conditions refl)

  -- ---- where it is accepted

  pub accepts : NoneHolds conditions → finished e (frames_in state store) out ≡ finishing
  unfolding finishing
  accepts h = sym (settled_accepts (refused out) (finished e (frames_in state store) out) (answer conditions) ((accepted_exactly conditions refl).1 h))

  -- no condition holds, by its name
  pub record Clear : Type 0 where
    pub within : is_over state store ≡ false
    pub listed : is_other e.order ≡ false
    pub framed : is_unframed state store ≡ false
    pub roomy : is_short e (frames_in state store) out ≡ false

  pub clear : NoneHolds conditions → Clear
  clear (a, (b, (c, (d, _)))) = record { within = a; listed = b; framed = c; roomy = d }

  -- accepted, its length is not that beside a refusal
  pub some_length : finishing.number ≡ 0 → finishing.value ≡ 0 → ⊥
  some_length z v = omega (arith, ap (λ (o : Outcome). o.value) (accepts (zero_exactly.0 z)), module_least e (held (frames_in state store)))

  -- ---- any two answers and outputs that the contract allows are equal

  pub one_finished : {r s : Finished} {ys zs : List ℕ} → outcome r ys ≡ finishing → outcome s zs ≡ finishing → (r ≡ s) × (ys ≡ zs)
  one_finished {r} {s} {ys} {zs} p q = same_outcome r s ys zs (p ∙ sym q)
