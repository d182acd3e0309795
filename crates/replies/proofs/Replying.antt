-- A line's answer and its line feed, into what is free of the output: there is room for both. Assumes nothing.
use mathlib.Core.Path.{◌≡◌, sym, ap, ◌∙◌}
use mathlib.Core.Bool.{true, true≢false}
use mathlib.Core.List.{List, ◌++◌}
use Prim.Native.Nat.{ℕ, ◌+◌, ◌*◌, ◌-◌, ◌≤◌, ◌<◌, ◌^◌}
use native.Mathlib.Omega.{arith}
use lib.Dec.{leb}
use lib.ListN.{length, take, drop, set, length-drop}
use mir.Syntax.{w64}
use mir.Val.{Fits}
use borrow.Author.Tests.{leb-true}
use borrow.Rule.Slice.PartMut.{put_mid, mid_of, same_len_mid}
use Rattle.format.specs.Write.{rest_lent, rest_back}
use Rattle.std.specs.Prelude.{Option, None, Some}
use Rattle.frames.specs.declared.State.{State}
use Rattle.lines.specs.Answer.{Outcome, lined, answering, answers_line, answer_long}
use Rattle.replies.specs.Run.{answer_to, Replied}
use Rattle.replies.specs.declared.Run.{Run}

-- x is what the answer tells of its length, and free is what it leaves of the rest of the output
module _ (at : ℕ) (state : State) (line store buffer out : List ℕ) (x : Option ℕ) (after : State) (store' buffer' free : List ℕ)
    (room : at + (3 + 2 * length buffer) ≤ length out)
    (h : lined x after store' buffer' free ≡ answering state store buffer (mid_of at (length out - at) out) line) where
  stands : {y : Option ℕ} → x ≡ y → lined y after store' buffer' free ≡ answering state store buffer (drop at out) line
  stands e =
      ap (λ (x : Option ℕ). lined x after store' buffer' free) (sym e)
      ∙ h
      ∙ ap (λ (l : List ℕ). answering state store buffer l line) (rest_lent at out)

  never_short : x ≡ None → ⊥
  never_short e =
      true≢false (ap (λ (o : Outcome). o.room) (answers_line state store buffer (drop at out) line (omega (arith, length-drop at out)) ∙ sym (stands e)))

  module _ {n : ℕ} (e : x ≡ Some n) where
    within : at + n < length out
    within = omega (arith, ap (λ (o : Outcome). o.value) (stands e), answer_long state store buffer (drop at out) line)

    pub end_fits : length out < 2 ^ 64 → Fits w64 (at + n)
    end_fits l = let k = within in record { fits = omega arith }

    pub next_fits : (j : ℕ) → leb j 1 ≡ true → length out < 2 ^ 64 → Fits w64 (at + n + j)
    next_fits j u l = let k = within in record { fits = omega (arith, leb-true j 1 u) }

    pub feed_within : length free ≡ length (mid_of at (length out - at) out) → at + n < length (put_mid at (length out - at) out free)
    feed_within l = omega (arith, within, same_len_mid at (length out - at) out free l)

module _ (r : Run) (line store buffer out : List ℕ) (x : Option ℕ) (after : State) (store' buffer' free : List ℕ) (room : r.at + (3 + 2 * length buffer) ≤ length out)
    (h : lined x after store' buffer' free ≡ answering r.state store buffer (mid_of r.at (length out - r.at) out) line) where
  pub not_short : {o : Outcome} {s : Run} {store'' buffer'' out'' : List ℕ} → x ≡ None → Replied r o out s store'' buffer'' out''
  not_short e = absurd (never_short r.at r.state line store buffer out x after store' buffer' free room h e)

  pub replied : {n : ℕ} → x ≡ Some n
      → Replied r (answer_to r line store buffer out) out (record { state = after; n = 0; at = r.at + n + 1 }) store' buffer' (set (put_mid r.at (length out - r.at) out free) (r.at + n) 0x0A)
  replied {n} e =
      let d = stands r.at r.state line store buffer out x after store' buffer' free room h e in
      record {
        run = λ i. record { state = (d i).state; n = 0; at = r.at + (d i).value + 1 };
        store = ap (λ (o : Outcome). o.store) d;
        buffer = ap (λ (o : Outcome). o.buffer) d;
        answers = ap (λ (l : List ℕ). set l (r.at + n) 0x0A) (rest_back r.at out free (omega arith)) ∙ (λ i. set (take r.at out ++ (d i).out) (r.at + (d i).value) 0x0A);
        fits = omega (arith, within r.at r.state line store buffer out x after store' buffer' free room h e, ap (λ (o : Outcome). o.value) d);
      }
