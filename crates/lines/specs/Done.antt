-- What a line's frame does (document 01, Hex lines: "A finish or a refused line changes neither store nor state"; Answers by number: 12). Assumes nothing.
use Rattle.std.specs.Prelude.{◌≡◌, refl, Bool, true, false, cond, ◌↔◌, List, [], ◌∷◌, ℕ, ◌≤◌, eqb, length}
use Rattle.std.proofs.Common.{sym, ap, ◌∙◌, arith, eqb-true, ltb-false}
use Rattle.std.proofs.Math.Option.{Option, none, some, none-ne-some}
use Rattle.std.proofs.lemmas.Bool.{eqb-false}
use Rattle.format.specs.Answers.{answer, settled, settled_accepts, settled_refuses, settled_exactly, accepted_exactly}
use Rattle.format.specs.Lists.{All}
use Rattle.format.specs.Write as write
use Rattle.frames.specs.Frames.{held}
use Rattle.frames.specs.Builder.{frames_in}
use Rattle.frames.specs.declared.State.{State}
use Rattle.sections.specs.Section.{Ending}
use Rattle.frames.specs.Append as append
use Rattle.thriftbell.specs.Add as add
use Rattle.thriftbell.specs.Add.{adding}
use Rattle.module.specs.Module.{module_of}
use Rattle.module.specs.Finish as finish
use Rattle.module.specs.Finish.{finishing}
use Rattle.hex_text.specs.Frame.{Frame, adds, finishes}
use Rattle.std.specs.Prelude.{Result, Ok, Err}
use Rattle.format.specs.Refusal.{told}
use Rattle.format.specs.declared.refusal.Refusal.{Refusal}
use Rattle.lines.specs.declared.tell.Told.{Told}

-- a number of the table, the module's length or 0; and the state, the store and the module's buffer, afterwards
pub record Done : Type 0 where
  pub number : ℕ
  pub value : ℕ
  pub state : State
  pub store : List ℕ
  pub buffer : List ℕ

-- 0 beside a refusal
abbrev pub value_of : Result ℕ Refusal → ℕ
value_of (Ok n) = n
value_of (Err e) = 0

-- what an answer stands for
abbrev pub done : Told → List ℕ → List ℕ → Done
done r store buffer = record { number = told r.answer; value = value_of r.answer; state = r.state; store = store; buffer = buffer }

-- an add has no module
abbrev pub added : List ℕ → append.Outcome → Done
added buffer o = record { number = o.number; value = 0; state = o.state; store = o.store; buffer = buffer }

-- a finish changes neither store nor state
abbrev pub finished : State → List ℕ → write.Outcome → Done
finished state store o = record { number = o.number; value = o.value; state = state; store = store; buffer = o.memory }

-- by the frame that a line holds: where it holds none it is malformed, too long, or with a wrong sum
abbrev pub doing : State → List ℕ → List ℕ → Option Frame → Done
doing state store buffer none = record { number = 12; value = 0; state = state; store = store; buffer = buffer }
doing state store buffer (some (adds words text)) = added buffer (adding state store words text)
doing state store buffer (some (finishes e)) = finished state store (finishing state store e buffer)

-- the contract of what is told of a frame
pub record Does (f : Option Frame) (state : State) (store buffer store' buffer' : List ℕ) (r : Told) : Type 0 where
  pub did : done r store' buffer' ≡ doing state store buffer f

-- and of what touches no module's buffer
pub record Tells (f : Option Frame) (state : State) (xs ys : List ℕ) (r : Told) : Type 0 where
  pub right : (buffer : List ℕ) → done r ys buffer ≡ doing state xs buffer f

-- ---- 12 is given exactly where the line holds no frame: the others' numbers are lower

picked_most : (m : ℕ) (t : Bool) {a b : ℕ} → a ≤ m → b ≤ m → cond t a b ≤ m
picked_most m true h k = h
picked_most m false h k = k

answer_most : (m : ℕ) (cs : List (ℕ × Bool)) → All (λ c. c.0 ≤ m) cs → answer cs ≤ m
answer_most m [] h = omega arith
answer_most m (c ∷ cs) h = picked_most m c.1 h.0 (answer_most m cs h.1)

pub add_few : (state : State) (store words text : List ℕ) → (adding state store words text).number ≤ 7
unfolding adding
add_few state store words text =
    let e = (settled_exactly (append.refused state store) (add.added state store words text) (λ o. o.number) refl (λ n. refl) {P = answer (add.conditions state store words text) ≡ (adding state store words text).number} (λ e. e, λ e. e)).0 refl in
    let m = answer_most 7 (add.conditions state store words text) (omega arith, (omega arith, (omega arith, (omega arith, (omega arith, (omega arith, (omega arith, tt))))))) in
    omega arith

pub finish_few : (state : State) (store : List ℕ) (e : Ending) (buffer : List ℕ) → (finishing state store e buffer).number ≤ 10
unfolding finishing
finish_few state store e buffer =
    let d = (settled_exactly (finish.refused buffer) (finish.finished e (frames_in state store) buffer) (λ o. o.number) refl (λ n. refl) {P = answer (finish.conditions state store e buffer) ≡ (finishing state store e buffer).number} (λ q. q, λ q. q)).0 refl in
    let m = answer_most 10 (finish.conditions state store e buffer) (omega arith, (omega arith, (omega arith, (omega arith, tt)))) in
    omega arith

pub twelve_exactly : (state : State) (store buffer : List ℕ) (f : Option Frame) → ((doing state store buffer f).number ≡ 12) ↔ (f ≡ none)
twelve_exactly state store buffer none = (λ e. refl, λ e. refl)
twelve_exactly state store buffer (some (adds words text)) =
    (λ e. absurd (omega (arith, add_few state store words text)), λ e. absurd (none-ne-some (adds words text) (sym e)))
twelve_exactly state store buffer (some (finishes e)) =
    (λ h. absurd (omega (arith, finish_few state store e buffer)), λ h. absurd (none-ne-some (finishes e) (sym h)))

-- ---- a module fits the buffer that it stands in

finish_fits : (state : State) (store : List ℕ) (e : Ending) (buffer : List ℕ) → (finishing state store e buffer).value ≤ length buffer
unfolding finishing
finish_fits state store e buffer = go (eqb (answer cs) 0) refl
  where
    cs : List (ℕ × Bool)
    cs = finish.conditions state store e buffer

    go : (t : Bool) → eqb (answer cs) 0 ≡ t → (finishing state store e buffer).value ≤ length buffer
    go true p =
        let h = (accepted_exactly cs refl).0 (eqb-true (answer cs) 0 p) in
        rw (← (finish.accepts state store e buffer h)) (ltb-false (length buffer) (length (module_of e (held (frames_in state store)))) (finish.clear state store e buffer h).roomy)
    go false p =
        omega (arith, ap (λ (o : write.Outcome). o.value) (settled_refuses (finish.refused buffer) (finish.finished e (frames_in state store) buffer) (answer cs) (eqb-false (answer cs) 0 p)))

pub value_fits : (state : State) (store buffer : List ℕ) (f : Option Frame) → (doing state store buffer f).value ≤ length buffer
value_fits state store buffer none = omega arith
value_fits state store buffer (some (adds words text)) = omega arith
value_fits state store buffer (some (finishes e)) = finish_fits state store e buffer

-- ---- a refused line changes nothing, and a finish neither store nor state

-- what is refused with some number is what a refusal with that number leaves
kept : {O : Type 0} (refused : ℕ → O) (accepted : O) (number : O → ℕ) → number accepted ≡ 0 → ((n : ℕ) → number (refused n) ≡ n) → (n : ℕ)
    → (number (settled refused accepted n) ≡ 0 → ⊥) → settled refused accepted n ≡ refused (number (settled refused accepted n))
kept {O} refused accepted number a r n h = go (eqb n 0) refl
  where
    go : (t : Bool) → eqb n 0 ≡ t → settled refused accepted n ≡ refused (number (settled refused accepted n))
    go true e = absurd (h (ap number (settled_accepts refused accepted n (eqb-true n 0 e)) ∙ a))
    go false e = let s = settled_refuses refused accepted n (eqb-false n 0 e) in s ∙ ap refused (sym (ap number s ∙ r n))

pub refused_keeps : (state : State) (store buffer : List ℕ) (f : Option Frame) → ((doing state store buffer f).number ≡ 0 → ⊥)
    → doing state store buffer f ≡ record { number = (doing state store buffer f).number; value = 0; state = state; store = store; buffer = buffer }
unfolding adding finishing
refused_keeps state store buffer none h = refl
refused_keeps state store buffer (some (adds words text)) h =
    ap (added buffer) (kept (append.refused state store) (add.added state store words text) (λ o. o.number) refl (λ n. refl) (answer (add.conditions state store words text)) h)
refused_keeps state store buffer (some (finishes e)) h =
    ap (finished state store)
    (kept (finish.refused buffer) (finish.finished e (frames_in state store) buffer) (λ o. o.number) refl (λ n. refl) (answer (finish.conditions state store e buffer)) h)

pub finish_keeps : (state : State) (store buffer : List ℕ) (e : Ending)
    → ((doing state store buffer (some (finishes e))).state ≡ state) × ((doing state store buffer (some (finishes e))).store ≡ store)
finish_keeps state store buffer e = (refl, refl)
