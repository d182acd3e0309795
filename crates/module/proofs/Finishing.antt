-- What each branch of finishing meets, in the order of judging. Assumes nothing.
use mathlib.Core.Path.{◌≡◌, refl, sym, ap, ◌∙◌}
use mathlib.Core.Bool.{Bool, true, false, not, not-not}
use mathlib.Core.Option.{Option, none, some}
use mathlib.Core.List.{List, [], ◌∷◌, ◌++◌}
use Prim.Native.Nat.{ℕ, ◌+◌, ◌-◌, ◌≤◌, ◌<◌, ◌^◌}
use native.Mathlib.Omega.{arith}
use mir.Syntax.{w64}
use mir.Val.{Fits}
use lib.ListN.{length, take, length-append}
use borrow.Author.Tests.{lt-ltb, le-ltb}
use borrow.Rule.Slice.PartMut.{put_mid, mid_of}
use Rattle.format.specs.Answers.{answer, settled, settled_accepts, settled_refuses}
use Rattle.format.specs.Lists.{prints}
use Rattle.format.specs.Runs.{run}
use Rattle.format.specs.Write.{Written, Outcome, Writes, writes_as, writes_then, room_then, told_length}
use Rattle.std.specs.Prelude as R
use Rattle.std.specs.Prelude.{Result, Ok, Err, IsOk, None, Some}
use Rattle.std.specs.Option.{ok_or}
use Rattle.format.specs.declared.refusal.Refusal.{Refusal}
use Rattle.format.specs.declared.refusal.Refusal.TheVariants.{NoFrames}
use Rattle.sections.proofs.Behind.{room_ok, written, behind_starts, behind_fits}
use Rattle.frames.specs.Frames.{Frame, frame, no_frames, held, frames_of}
use Rattle.frames.specs.Builder.{frames_in, is_over}
use Rattle.frames.specs.Tally.{Tallies, tally_of, framed}
use Rattle.frames.specs.declared.State.{State}
use Rattle.sections.specs.declared.Given.{Given}
use Rattle.sections.specs.Section.{Ending, ending, section_of}
use Rattle.sections.specs.Order.{order_most, order_ids, all_among}
use Rattle.module.specs.Module.{header, module_of}
use Rattle.module.specs.Finish.{Finished, refused, outcome, is_short, finished, building, conditions, finishing}

-- where a tally finds nothing, there are no frames
untallied : (o : Option (List Frame)) → None ≡ tally_of o → no_frames o ≡ true
unfolding tally_of
untallied none e = refl
untallied (some fs) e = let z : ◌≡◌ {A = ℕ} 0 1 = cc in absurd (omega arith)

-- a test of the order list, turned over
order_told : (order : List ℕ) {b : Bool} → b ≡ all_among order_ids order → {t : Bool} → not b ≡ t → all_among order_ids order ≡ not t
order_told order {b} e q = sym e ∙ sym (not-not b) ∙ ap not q

-- ---- where 1 and 8 do not apply

module _ (e : Ending) (o : Option (List Frame)) (out : List ℕ) where
  module_parts : module_of e (held o) ≡ header ++ prints (section_of e.given (held o)) e.order
  unfolding module_of
  module_parts = refl

  module_long : length (module_of e (held o)) ≡ 8 + length (prints (section_of e.given (held o)) e.order)
  module_long = ap length module_parts ∙ length-append header (prints (section_of e.given (held o)) e.order)

  abbrev left : List (ℕ × Bool)
  left = (9, no_frames o) ∷ (10, is_short e o out) ∷ []

  refuses_built : (n : ℕ) → (n ≡ 0 → ⊥) → answer left ≡ n → refused out n ≡ building e o out
  refuses_built n z d = sym (ap (settled (refused out) (finished e o out)) d ∙ settled_refuses (refused out) (finished e o out) n z)

  no_frames_lem : no_frames o ≡ true → refused out 9 ≡ building e o out
  no_frames_lem h = refuses_built 9 (λ z. omega arith) (rw h)

  module _ (f : no_frames o ≡ false) where
    short : length out < length (module_of e (held o)) → refused out 10 ≡ building e o out
    short h = refuses_built 10 (λ z. omega arith) (rw (f, lt-ltb (length out) (length (module_of e (held o))) h))

    built_whole : {ys : List ℕ} {n : ℕ} → Writes (module_of e (held o)) out ys (Ok n) → outcome (Ok n) ys ≡ building e o out
    built_whole {ys} {n} w =
        let (k, h, m) = told_length w refl in
        let a : answer left ≡ 0 = rw (f, le-ltb (length out) (length (module_of e (held o))) h) in
        let d : outcome (Ok n) ys ≡ finished e o out = rw (k, m) in
        d ∙ sym (settled_accepts (refused out) (finished e o out) (answer left) a)

-- ---- as the code tells it: a walk of the bytes s finds nothing, or t

pub unframed_refused : (s order : List ℕ) (given : Given) (out : List ℕ) {r : R.Option Tallies} → r ≡ tally_of (run frame s) → r ≡ None → {f : Finished} {x c : Refusal} → f ≡ Err x → x ≡ c
    → ◌≡◌ {A = Result Tallies Refusal} (Err c) (ok_or r NoFrames) → outcome f out ≡ building (ending order given) (run frame s) out
unframed_refused s order given out d n {f} {x} {c} p q v =
    let z : ◌≡◌ {A = Result Tallies Refusal} (Err c) (Err NoFrames) = v ∙ ap (λ (o : R.Option Tallies). ok_or o NoFrames) n in
    let w : f ≡ Err NoFrames = cc in
    rw w (no_frames_lem (ending order given) (run frame s) out (untallied (run frame s) (sym n ∙ d)))

pub tally_some : {r o : R.Option Tallies} {t : Tallies} → r ≡ Some t → r ≡ o → Some t ≡ o
tally_some e d = sym e ∙ d

module _ (s : List ℕ) (t : Tallies) (e : Some t ≡ tally_of (run frame s)) where
  module _ (order : List ℕ) (given : Given) where
    abbrev parts : List ℕ
    parts = prints (section_of given (frames_of s)) order

    -- n is the sections' length
    module _ (n : ℕ) (l : (s : List ℕ) → Some t ≡ tally_of (run frame s) → n ≡ length (prints (section_of given (frames_of s)) order)) (out : List ℕ) where
      pub short_refused : length out < 8 + n → refused out 10 ≡ building (ending order given) (run frame s) out
      short_refused h = short (ending order given) (run frame s) out (framed s e) (omega (arith, l s e, module_long (ending order given) (run frame s) out))

    module _ (out : List ℕ) (k : ℕ) (h : 8 + k ≤ length out) {ys : List ℕ} {w : Written} (v : Writes header out ys w) {n : ℕ} (q : w ≡ Ok n) where
      pub sections_room : ((s : List ℕ) → Some t ≡ tally_of (run frame s) → k ≡ length (prints (section_of given (frames_of s)) order)) → length parts ≤ length (mid_of n (length ys - n) ys)
      sections_room l = (room_then parts (written v q) (omega (arith, l s e, length-append header parts))).room

      module _ {zs : List ℕ} {m : ℕ} (u : Writes parts (mid_of n (length ys - n) ys) zs (Ok m)) where
        whole : Writes (header ++ parts) out (put_mid n (length ys - n) ys zs) (Ok (n + m))
        whole = writes_then (written v q) u

        pub module_written : outcome (Ok (n + m)) (put_mid n (length ys - n) ys zs) ≡ building (ending order given) (run frame s) out
        module_written = built_whole (ending order given) (run frame s) out (framed s e) (writes_as (sym (module_parts (ending order given) (run frame s) out)) whole)

-- the header is written
module _ {out ys : List ℕ} {w : Written} (v : Writes header out ys w) where
  pub header_fits : (k : ℕ) → 8 + k ≤ length out → IsOk w
  header_fits k h = room_ok v (omega arith)

  pub header_behind : {n : ℕ} → w ≡ Ok n → n ≤ length ys
  header_behind q = behind_starts (written v q)

  pub module_fits : {n : ℕ} → w ≡ Ok n → {b zs : List ℕ} {m : ℕ} → Writes b (mid_of n (length ys - n) ys) zs (Ok m) → length out < 2 ^ 64 → Fits w64 (n + m)
  module_fits q u h = behind_fits (written v q) u refl h

-- ---- 1 and 8: r is the test of the store, and b that of the order list

module _ (state : State) (store : List ℕ) {r : Bool} (d : r ≡ is_over state store) where
  module _ (order : List ℕ) (given : Given) (out : List ℕ) where
    abbrev e : Ending
    e = ending order given

    abbrev done : Outcome
    done = finished e (frames_in state store) out

    refuses : (n : ℕ) → (n ≡ 0 → ⊥) → answer (conditions state store e out) ≡ n → refused out n ≡ finishing state store e out
    unfolding finishing
    refuses n z d = sym (ap (settled (refused out) done) d ∙ settled_refuses (refused out) done n z)

    pub over_refused : r ≡ true → refused out 1 ≡ finishing state store (ending order given) out
    over_refused q = refuses 1 (λ z. omega arith) (rw (sym d ∙ q))

    module _ (q : r ≡ false) where
      pub long_refused : order_most < length order → refused out 8 ≡ finishing state store (ending order given) out
      long_refused l = refuses 8 (λ z. omega arith) (rw (sym d ∙ q, lt-ltb order_most (length order) l))

      module _ (l : length order ≤ order_most) {b : Bool} (m : b ≡ all_among order_ids order) where
        pub other_refused : not b ≡ true → refused out 8 ≡ finishing state store (ending order given) out
        other_refused p = refuses 8 (λ z. omega arith) (rw (sym d ∙ q, le-ltb order_most (length order) l, order_told order m p))

        same : not b ≡ false → building e (frames_in state store) out ≡ finishing state store e out
        unfolding finishing
        same p = rw (sym d ∙ q, le-ltb order_most (length order) l, order_told order m p)

        pub built : not b ≡ false → (f : Finished) (ys : List ℕ) → outcome f ys ≡ building (ending order given) (run frame (take state.used store)) out
            → outcome f ys ≡ finishing state store (ending order given) out
        built p f ys g = g ∙ same p
