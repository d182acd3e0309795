-- What adding a record answers and leaves, for every input (document 01, Store and module; Answers by number, Add: 1 to 7, lowest first). Assumes nothing.
use Rattle.std.specs.Prelude.{◌≡◌, ◌↔◌, Bool, true, false, cond, List, [], ◌∷◌, ◌++◌, ℕ, eqb, length, take, drop}
use Rattle.std.proofs.Math.Path.{refl, sym}
use Rattle.std.proofs.Common.{ap, ◌∙◌, arith, eq-eqb, ne_eqb}
use Rattle.format.specs.Answers.{answer, NoneHolds, given_exactly, accepted_exactly, answer_then, settled, settled_accepts, settled_refuses, settled_exactly}
use Rattle.frames.specs.Builder.{is_over, is_full, Within}
use Rattle.frames.specs.Append.{Outcome, refused, appended}
use Rattle.frames.specs.declared.State.{State}
use Rattle.texts.specs.Judge as judge
use Rattle.texts.specs.Judge.{why, item_in}
use Rattle.items.specs.Record.{records}
use Rattle.items.specs.Judging.{section_in, Tried}
use Rattle.std.specs.Prelude.{Result, Ok, Err}
use Rattle.format.specs.Refusal.{number_of, one_number, numbered}
use Rattle.format.specs.declared.refusal.Refusal.{Refusal}

-- what an answer stands for: beside a refusal the state is as it was
abbrev pub outcome : State → Result State Refusal → List ℕ → Outcome
outcome state (Ok s) ys = record { number = 0; state = s; store = ys }
outcome state (Err e) ys = record { number = number_of e; state = state; store = ys }

-- any two answers and stores that stand for the same are equal
pub one_added : (state : State) {o : Outcome} {r s : Result State Refusal} {ys zs : List ℕ} → outcome state r ys ≡ o → outcome state s zs ≡ o → (r ≡ s) × (ys ≡ zs)
one_added state {o} {r} {s} {ys} {zs} p q = go r s (p ∙ sym q)
  where
    go : (r s : Result State Refusal) → outcome state r ys ≡ outcome state s zs → (r ≡ s) × (ys ≡ zs)
    go (Ok a) (Ok b) e = (ap Ok (ap (λ (o : Outcome). o.state) e), ap (λ (o : Outcome). o.store) e)
    go (Ok a) (Err d) e = let z : 0 ≡ number_of d = ap (λ (o : Outcome). o.number) e in let h = numbered d in absurd (omega arith)
    go (Err c) (Ok b) e = let z : number_of c ≡ 0 = ap (λ (o : Outcome). o.number) e in let h = numbered c in absurd (omega arith)
    go (Err c) (Err d) e = (ap Err (one_number c d (ap (λ (o : Outcome). o.number) e)), ap (λ (o : Outcome). o.store) e)

module _ (state : State) (xs w t : List ℕ) where
  -- 1: the store; 2 to 6: the record and its text; 7: the room
  abbrev pub conditions : List (ℕ × Bool)
  conditions = (1, is_over state xs) ∷ (judge.conditions records w t ++ ((7, is_full state xs (length (item_in records w t))) ∷ []))

  -- its section's id, the item's length and the item stand from the room used on
  abbrev pub added : Outcome
  added = appended state xs (section_in w) (item_in records w t)

  unfoldable pub adding : Outcome
  adding = settled (refused state xs) added (answer conditions)

  -- ---- each number is given exactly on its condition, where no earlier one's holds

  exactly : {P : Type 0} {n : ℕ} → (answer conditions ≡ n) ↔ P → (adding.number ≡ n) ↔ P
  unfolding adding
  exactly = settled_exactly (refused state xs) added (λ o. o.number) refl (λ n. refl)

  pub one_exactly : (adding.number ≡ 1) ↔ (NoneHolds [] × (is_over state xs ≡ true))
  one_exactly = exactly (given_exactly 1 (is_over state xs) [] (drop 1 conditions) (λ e. omega arith) refl refl)

  pub two_exactly : (adding.number ≡ 2) ↔ (NoneHolds (take 1 conditions) × (judge.is_no_record records w ≡ true))
  two_exactly = exactly (given_exactly 2 (judge.is_no_record records w) (take 1 conditions) (drop 2 conditions) (λ e. omega arith) refl refl)

  pub three_exactly : (adding.number ≡ 3) ↔ (NoneHolds (take 2 conditions) × (judge.has_bad_text records w t ≡ true))
  three_exactly = exactly (given_exactly 3 (judge.has_bad_text records w t) (take 2 conditions) (drop 3 conditions) (λ e. omega arith) refl refl)

  pub four_exactly : (adding.number ≡ 4) ↔ (NoneHolds (take 3 conditions) × (judge.has_bad_name records w t ≡ true))
  four_exactly = exactly (given_exactly 4 (judge.has_bad_name records w t) (take 3 conditions) (drop 4 conditions) (λ e. omega arith) refl refl)

  pub five_exactly : (adding.number ≡ 5) ↔ (NoneHolds (take 4 conditions) × (judge.has_bad_expr records w t ≡ true))
  five_exactly = exactly (given_exactly 5 (judge.has_bad_expr records w t) (take 4 conditions) (drop 5 conditions) (λ e. omega arith) refl refl)

  pub six_exactly : (adding.number ≡ 6) ↔ (NoneHolds (take 5 conditions) × (judge.is_large records w t ≡ true))
  six_exactly = exactly (given_exactly 6 (judge.is_large records w t) (take 5 conditions) (drop 6 conditions) (λ e. omega arith) refl refl)

  pub seven_exactly : (adding.number ≡ 7) ↔ (NoneHolds (take 6 conditions) × (is_full state xs (length (item_in records w t)) ≡ true))
  seven_exactly = exactly (given_exactly 7 (is_full state xs (length (item_in records w t))) (take 6 conditions) [] (λ e. omega arith) refl refl)

  pub zero_exactly : (adding.number ≡ 0) ↔ NoneHolds conditions
  zero_exactly = exactly (accepted_exactly conditions refl)

  -- ---- what meets it

  refuses : (n : ℕ) → (n ≡ 0 → ⊥) → answer conditions ≡ n → refused state xs n ≡ adding
  unfolding adding
  refuses n z e = sym (ap (settled (refused state xs) added) e ∙ settled_refuses (refused state xs) added n z)

  -- 2 to 6 first, and then 7
  pub then_room : answer (judge.conditions records w t ++ ((7, is_full state xs (length (item_in records w t))) ∷ [])) ≡ cond (eqb (why records w t) 0) (cond (is_full state xs (length (item_in records w t))) 7 0) (why records w t)
  then_room = answer_then (judge.conditions records w t) ((7, is_full state xs (length (item_in records w t))) ∷ []) refl

  pub over : is_over state xs ≡ true → refused state xs 1 ≡ adding
  over h = refuses 1 (λ e. omega arith) (rw h)

  module _ (h : is_over state xs ≡ false) where
    pub drawn : (n : ℕ) → (n ≡ 0 → ⊥) → why records w t ≡ n → refused state xs n ≡ adding
    drawn n z e = refuses n z (rw h (then_room ∙ rw (ne_eqb (why records w t) 0 (λ q. z (sym e ∙ q))) e))

    module _ (e : why records w t ≡ 0) where
      pub full : is_full state xs (length (item_in records w t)) ≡ true → refused state xs 7 ≡ adding
      full m = refuses 7 (λ e. omega arith) (rw h (then_room ∙ rw (eq-eqb (why records w t) 0 e, m)))

      pub fits : is_full state xs (length (item_in records w t)) ≡ false → added ≡ adding
      unfolding adding
      fits m =
          let z : answer conditions ≡ 0 = rw h (then_room ∙ rw (eq-eqb (why records w t) 0 e, m)) in
          sym (settled_accepts (refused state xs) added (answer conditions) z)

-- a record that is accepted: none of them holds, its item has n bytes, and stands at the front of what was tried, where there was room
pub record Storable (state : State) (xs w t : List ℕ) (n : ℕ) (s : List ℕ) : Type 0 where
  pub inside : Within state xs
  pub sound : why records w t ≡ 0
  pub tried : Tried w t n s
  pub room : is_full state xs n ≡ false
