-- Demand 3: two sequences of adds on fresh stores of equal length, with the same calls, each section's in the same order: all accepted in one means all
-- accepted in the other, and then finishing alike gives the same answer and bytes. Assumes nothing.
use Rattle.std.specs.Prelude.{◌≡◌, refl, List, map, ℕ, ◌≤◌, ltb, length}
use Rattle.std.proofs.Common.{sym, ap, ◌∙◌, ltb-false}
use Rattle.std.proofs.Math.Option.{Option, some}
use Rattle.format.specs.Write.{Outcome, over, writing, writes}
use Rattle.frames.specs.Frames.{Frame, held}
use Rattle.frames.specs.Builder.{fresh, frames_in}
use Rattle.frames.specs.Calls.{frame_of, adds, Accepted, SameCalls, any_order_accepted, any_order_frames}
use Rattle.frames.specs.declared.SectionId.{SectionId}
use Rattle.frames.specs.declared.State.{State}
use Rattle.sections.specs.Section.{Ending}
use Rattle.module.specs.Module.{module_of, module_same}
use Rattle.module.specs.Finish.{finishing, zero_exactly, accepts, clear}

-- finishing depends on a store by its length, the state and the frames alone
same_finish : (s t : State) (xs ys : List ℕ) (fs gs : List Frame) → s ≡ t → length xs ≡ length ys → frames_in s xs ≡ some fs → frames_in t ys ≡ some gs
    → (e : Ending) → module_of e fs ≡ module_of e gs → (out : List ℕ) → finishing s xs e out ≡ finishing t ys e out
unfolding finishing
same_finish s t xs ys fs gs d l f g e m out = rw (f, g, m, l, d)

accepted_is : (state : State) (xs : List ℕ) (e : Ending) (out : List ℕ) (fs : List Frame) → frames_in state xs ≡ some fs → (finishing state xs e out).number ≡ 0
    → finishing state xs e out ≡ writing (module_of e fs) out
accepted_is state xs e out fs f z =
    let h = (zero_exactly state xs e out).0 z in
    let m = module_of e fs in
    let d : module_of e (held (frames_in state xs)) ≡ m = ap (λ (o : Option (List Frame)). module_of e (held o)) f in
    let room : length m ≤ length out = ltb-false (length out) (length m) (ap (λ (l : List ℕ). ltb (length out) (length l)) (sym d) ∙ (clear state xs e out h).roomy) in
    sym (accepts state xs e out h)
    ∙ ap (λ (l : List ℕ). record { number = 0; value = length l; memory = over l out }) d
    ∙ (writes {b = m} {xs = out} room refl refl).right

module _ (Call : Type 0) (sec : Call → SectionId) (why : Call → ℕ) (item : Call → List ℕ) where
  -- adds on a fresh store, and then finishing
  abbrev pub finished : List ℕ → List Call → Ending → List ℕ → Outcome
  finished xs cs e out = finishing (adds Call sec why item fresh xs cs).state (adds Call sec why item fresh xs cs).store e out

  any_order_finished : (xs ys : List ℕ) (cs ds : List Call) → length xs ≡ length ys → SameCalls Call sec why item cs ds → Accepted Call sec why item fresh xs cs
      → (e : Ending) (out : List ℕ) → finished xs cs e out ≡ finished ys ds e out
  any_order_finished xs ys cs ds n h a e out =
      let l = any_order_frames Call sec why item xs ys cs ds n h a in
      same_finish _ _ _ _ _ _ l.state l.long l.first l.second e (module_same e _ _ l.items) out

  -- where it is accepted, the answer and the bytes are those of the module of all calls' frames
  finished_is : (xs : List ℕ) (cs : List Call) → Accepted Call sec why item fresh xs cs → (e : Ending) (out : List ℕ) → (finished xs cs e out).number ≡ 0
      → finished xs cs e out ≡ writing (module_of e (map (frame_of Call sec why item) cs)) out
  finished_is xs cs a e out z =
      let l = any_order_frames Call sec why item xs xs cs cs refl (λ s. refl) a in
      accepted_is _ _ e out _ l.first z

  -- DEMAND 3
  pub record Same (xs ys : List ℕ) (cs ds : List Call) : Type 0 where
    pub accepted : Accepted Call sec why item fresh ys ds
    pub finish : (e : Ending) (out : List ℕ) → finished xs cs e out ≡ finished ys ds e out
    pub is : (e : Ending) (out : List ℕ) → (finished xs cs e out).number ≡ 0
        → finished xs cs e out ≡ writing (module_of e (map (frame_of Call sec why item) cs)) out

  pub any_order : (xs ys : List ℕ) (cs ds : List Call) → length xs ≡ length ys → SameCalls Call sec why item cs ds → Accepted Call sec why item fresh xs cs → Same xs ys cs ds
  any_order xs ys cs ds e h a =
      record {
        accepted = any_order_accepted Call sec why item xs ys cs ds e h a;
        finish = any_order_finished xs ys cs ds e h a;
        is = finished_is xs cs a;
      }
