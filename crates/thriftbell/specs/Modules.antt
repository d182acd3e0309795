-- What is finished after accepted adds is a module of the standard's grammar (module/specs/Grammar.antt), and its sections' items are those of the records that
-- were added, each section's in the order of adding (document 01, Store and module). Assumes nothing.
use Rattle.std.specs.Prelude.{◌≡◌, refl, List, [], ◌∷◌, ◌++◌, map, ℕ, ◌<◌, ◌^◌, take}
use Rattle.std.proofs.Common.{sym, ap, subst, ◌∙◌, append-nil, append_assoc}
use Rattle.std.proofs.Math.Option.{Option, some}
use Rattle.format.specs.Runs.{run_none}
use Rattle.frames.specs.Frames.{Frame, frame, frame_some, held}
use Rattle.frames.specs.Ids.{id_of}
use Rattle.frames.specs.Builder.{fresh, frames_in}
use Rattle.frames.specs.declared.State.{State}
use Rattle.sections.specs.Section.{Ending}
use Rattle.sections.specs.Grammar.{Items}
use Rattle.module.specs.Grammar.{Module, said_by}
use Rattle.module.proofs.InGrammar.{finish_in}
use Rattle.texts.specs.Judge.{record_in, item_in, why, fine}
use Rattle.texts.specs.declared.Span.{Span}
use Rattle.items.specs.Record.{Record, records}
use Rattle.items.specs.Judging.{section_or}
use Rattle.thriftbell.specs.Add.{adding}
use Rattle.thriftbell.specs.Accepted.{frame_in, add_appends}
use Rattle.thriftbell.specs.AnyOrder.{Call, adds, Accepted, finished}

-- s is an item of the section with the id i: of a record that draws none of 2 to 6 (document 01, Answers by number)
pub record IsItem (i : ℕ) (s : List ℕ) : Type 0 where
  pub words : List ℕ
  pub text : List ℕ
  pub value : Record Span
  pub is : record_in records words ≡ some value
  pub section : i ≡ id_of value.0
  pub sound : why records words text ≡ 0
  pub item : s ≡ item_in records words text

abbrev pub call_frame : Call → Frame
call_frame c = frame_in c.0 c.1

-- accepted adds append their frames to those that the store holds, from any state
pub adds_append : (state : State) (xs : List ℕ) (cs : List Call) (fs : List Frame) → frames_in state xs ≡ some fs → Accepted state xs cs
    → frames_in (adds state xs cs).state (adds state xs cs).store ≡ some (fs ++ map call_frame cs)
adds_append state xs [] fs e a = rw append-nil e
adds_append state xs (c ∷ cs) fs e a =
    let f = (add_appends state xs c.0 c.1 a.0).frames fs e in
    adds_append (adding state xs c.0 c.1).state (adding state xs c.0 c.1).store cs (fs ++ (call_frame c ∷ [])) f a.1 ∙ ap some (append_assoc fs (call_frame c ∷ []) (map call_frame cs))

-- and each of them holds an item
frame_item : (state : State) (xs : List ℕ) (c : Call) → (adding state xs c.0 c.1).number ≡ 0 → IsItem (call_frame c).id (call_frame c).item
frame_item state xs c z =
    let y = (add_appends state xs c.0 c.1 z).sound in
    let f = fine records c.0 c.1 y in
    record { words = c.0; text = c.1; value = f.value; is = f.is; section = ap (λ (o : Option (Record Span)). id_of (section_or o)) f.is; sound = y; item = refl }

frames_items : (state : State) (xs : List ℕ) (cs : List Call) → Accepted state xs cs → Items IsItem (map call_frame cs)
frames_items state xs [] a = tt
frames_items state xs (c ∷ cs) a = (frame_item state xs c a.0, frames_items (adding state xs c.0 c.1).state (adding state xs c.0 c.1).store cs a.1)

pub finished_in : (xs : List ℕ) (cs : List Call) → Accepted fresh xs cs → (e : Ending) (out : List ℕ) → (finished xs cs e out).number ≡ 0 → e.given.count < 2 ^ 32
    → Module IsItem (take (finished xs cs e out).value (finished xs cs e out).memory) (said_by e (map call_frame cs) e.order)
finished_in xs cs a e out z c =
    let o = adds fresh xs cs in
    let f : frames_in o.state o.store ≡ some (map call_frame cs) = adds_append fresh xs cs [] (run_none frame frame_some) a in
    let m = finish_in IsItem o.state o.store e out z c (subst (λ (p : Option (List Frame)). Items IsItem (held p)) (sym f) (frames_items fresh xs cs a)) in
    subst (λ (p : Option (List Frame)). Module IsItem (take (finished xs cs e out).value (finished xs cs e out).memory) (said_by e (held p) e.order)) f m
