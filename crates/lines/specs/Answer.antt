-- How a line is answered, for every input (document 01, Hex lines). Assumes nothing.
use Rattle.std.specs.Prelude.{◌≡◌, refl, Bool, cond, List, ◌∷◌, ℕ, ◌+◌, ◌*◌, ◌≤◌, ◌<◌, ltb}
use Rattle.std.proofs.Math.Bool.{true, false}
use native.Mathlib.Omega.{arith}
use Rattle.std.proofs.Math.ListN.{length, take, length-take}
use Rattle.std.proofs.Common.{lt-ltb, le-ltb}
use Rattle.format.specs.Answers.{one_stands}
use Rattle.format.specs.Write.{over}
use Rattle.std.specs.Prelude.{Option, None, Some}
use Rattle.frames.specs.declared.State.{State}
use Rattle.hex_text.specs.Hex.{hex_of, hex_long}
use Rattle.hex_text.specs.Line.{line_of}
use Rattle.lines.specs.Done.{Done, doing, value_fits}
use Rattle.lines.specs.declared.Reply.{Reply}

-- whether there was room for the longest answer; the state, the store, the module's buffer and the output, afterwards; and the answer line's length, or 0
pub record Outcome : Type 0 where
  pub room : Bool
  pub state : State
  pub store : List ℕ
  pub buffer : List ℕ
  pub out : List ℕ
  pub value : ℕ

-- what a reply stands for
abbrev pub lined : Option ℕ → State → List ℕ → List ℕ → List ℕ → Outcome
lined (Some n) state store buffer out = record { room = true; state = state; store = store; buffer = buffer; out = out; value = n }
lined None state store buffer out = record { room = false; state = state; store = store; buffer = buffer; out = out; value = 0 }

abbrev pub outcome : Reply → List ℕ → List ℕ → List ℕ → Outcome
outcome r store buffer out = lined r.line r.state store buffer out

-- "Each line is answered by one line: two hex digits and, after an accepted finish, the module"
abbrev pub answer_line : Done → List ℕ
answer_line d = hex_of (d.number ∷ take d.value d.buffer)

abbrev pub answered : List ℕ → Done → Outcome
answered out d =
    record { room = true; state = d.state; store = d.store; buffer = d.buffer; out = over (answer_line d) out; value = length (answer_line d) }

module _ (state : State) (store buffer out line : List ℕ) where
  -- the longest answer is a module that fills its buffer
  abbrev pub is_short : Bool
  is_short = ltb (length out) (2 + 2 * length buffer)

  unfoldable pub answering : Outcome
  answering = cond is_short (lined None state store buffer out) (answered out (doing state store buffer (line_of line)))

  -- ---- what meets it

  pub answers_short : length out < 2 + 2 * length buffer → lined None state store buffer out ≡ answering
  unfolding answering
  answers_short h = rw (lt-ltb (length out) (2 + 2 * length buffer) h)

  pub answers_line : 2 + 2 * length buffer ≤ length out → answered out (doing state store buffer (line_of line)) ≡ answering
  unfolding answering
  answers_line h = rw (le-ltb (length out) (2 + 2 * length buffer) h)

  -- no answer is longer than the longest
  pub answer_long : answering.value ≤ 2 + 2 * length buffer
  unfolding answering
  answer_long = go is_short
    where
      go : (t : Bool) → (cond t (lined None state store buffer out) (answered out (doing state store buffer (line_of line)))).value ≤ 2 + 2 * length buffer
      go true = omega arith
      go false =
          let d = doing state store buffer (line_of line) in
          omega (arith, hex_long (d.number ∷ take d.value d.buffer), length-take d.value d.buffer, value_fits state store buffer (line_of line))

-- all that was lent, as it is left
pub record Memory : Type 0 where
  pub store : List ℕ
  pub buffer : List ℕ
  pub out : List ℕ

-- any two replies and memories that stand for the same are equal
pub one_answered : {w : Outcome} {r s : Reply} {m n : Memory} → outcome r m.store m.buffer m.out ≡ w → outcome s n.store n.buffer n.out ≡ w → (r ≡ s) × (m ≡ n)
one_answered = one_stands (λ r m. outcome r m.store m.buffer m.out) reply_of memory_of (λ r m. reply_of_lem r.line r.state m) (λ r m. memory_of_lem r.line r.state m)
  where
    reply_of : Outcome → Reply
    reply_of o = record { state = o.state; line = cond o.room (Some o.value) None }

    memory_of : Outcome → Memory
    memory_of o = record { store = o.store; buffer = o.buffer; out = o.out }

    reply_of_lem : (l : Option ℕ) (state : State) (m : Memory) → reply_of (lined l state m.store m.buffer m.out) ≡ record { state = state; line = l }
    reply_of_lem (Some n) state m = refl
    reply_of_lem None state m = refl

    memory_of_lem : (l : Option ℕ) (state : State) (m : Memory) → memory_of (lined l state m.store m.buffer m.out) ≡ m
    memory_of_lem (Some n) state m = refl
    memory_of_lem None state m = refl
