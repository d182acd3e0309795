-- A line's answer, from what its frame did. Assumes nothing.
use mathlib.Core.Path.{◌≡◌, refl, ap, ◌∙◌}
use mathlib.Core.Bool.{true}
use mathlib.Core.Option.{Option}
use mathlib.Core.List.{List, ◌∷◌}
use Prim.Native.Nat.{ℕ, ◌-◌, ◌/◌, ◌≤◌, ◌<◌}
use native.Mathlib.Omega.{arith}
use lib.ListN.{length, take, drop}
use Rattle.format.specs.Write.{Writes, over, told_length}
use Rattle.std.specs.Prelude.{Result, Ok, Err, None, Some}
use Rattle.format.specs.Refusal.{told, number_of}
use Rattle.format.specs.declared.refusal.Refusal.{Refusal}
use Rattle.frames.specs.declared.State.{State}
use Rattle.hex_text.specs.Hex.{hex_of}
use Rattle.hex_text.specs.Frame.{Frame}
use Rattle.hex_text.specs.Line.{line_of}
use Rattle.lines.specs.Done.{Done, Does, value_of, value_fits}
use Rattle.lines.specs.Answer.{lined, answered, answering, answers_short, answers_line}
use Rattle.lines.specs.declared.tell.Told.{Told}

pub short_told : (state : State) (store buffer out line : List ℕ) → length out / 2 ≤ length buffer → lined None state store buffer out ≡ answering state store buffer out line
short_told state store buffer out line h = answers_short state store buffer out line (omega arith)

module _ {f : Option Frame} {state : State} {store buffer store' buffer' : List ℕ} {r : Told} (t : Does f state store buffer store' buffer' r) where
  fits : value_of r.answer ≤ length buffer
  fits = omega (arith, ap (λ (d : Done). d.value) t.did, value_fits state store buffer f)

  -- what is told of the module is within its buffer
  pub module_within : length buffer' ≡ length buffer → {n : ℕ} → n ≡ value_of r.answer → n ≤ length buffer'
  module_within l e = omega (arith, l, fits, e)

pub line_told : (line : List ℕ) {state : State} {store buffer store' buffer' : List ℕ} {r : Told} → Does (line_of line) state store buffer store' buffer' r
    → (out : List ℕ) → length buffer < length out / 2 → {number n : ℕ} → number ≡ told r.answer → n ≡ value_of r.answer → {out' : List ℕ} {m : ℕ} → Writes (hex_of (number ∷ take n buffer')) out out' (Ok m)
    → lined (Some m) r.state store' buffer' out' ≡ answering state store buffer out line
line_told line {state} {store} {buffer} {store'} {buffer'} {r} t out l {number} {n} d k {out'} {m} w =
    let v : Writes (hex_of (told r.answer ∷ take (value_of r.answer) buffer')) out out' (Ok m) = rw (d, k) at w in
    let (a, _, b) = told_length v refl in
    (λ i. record { room = true; state = r.state; store = store'; buffer = buffer'; out = b i; value = a i })
    ∙ ap (answered out) t.did
    ∙ answers_line state store buffer out line (omega arith)
