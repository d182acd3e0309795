-- Demand 3, for the calls that are made: two sequences of adds on fresh stores of equal length, with the same calls, each section's in the same order: all
-- accepted in one means all accepted in the other, and then finishing alike gives the same answer and bytes. Assumes nothing.
use Rattle.std.specs.Prelude.{◌≡◌, refl, Bool, true, false, cond, not, List, [], ◌∷◌, map, ℕ, eqb, length}
use Rattle.std.proofs.Common.{sym, ap, subst, ◌∙◌, eqb-true, le-ltb}
use Rattle.format.specs.Answers.{answer, settled}
use Rattle.format.specs.Write as writing
use Rattle.frames.specs.Builder.{fresh, is_over, is_full}
use Rattle.frames.specs.Append.{Outcome, refused, is_large}
use Rattle.frames.specs.Calls as calls
use Rattle.frames.specs.declared.SectionId.{SectionId}
use Rattle.frames.specs.declared.State.{State}
use Rattle.sections.specs.Section.{Ending}
use Rattle.module.specs.Finish.{finishing}
use Rattle.module.specs.Module.{module_of}
use Rattle.module.specs.AnyOrder as module-order
use Rattle.texts.specs.Judge.{item_most, why, item_in, fine}
use Rattle.items.specs.Record.{records}
use Rattle.items.specs.Judging.{section_in}
use Rattle.thriftbell.specs.Add.{conditions, added, adding, then_room}

-- a call: a record's words, and its text
abbrev pub Call : Type 0
Call = List ℕ × List ℕ

abbrev pub sec : Call → SectionId
sec c = section_in c.0

abbrev pub why_of : Call → ℕ
why_of c = why records c.0 c.1

abbrev pub item_of : Call → List ℕ
item_of c = item_in records c.0 c.1

-- what a sequence of adds leaves
abbrev pub adds : State → List ℕ → List Call → Outcome
adds state xs [] = record { number = 0; state = state; store = xs }
adds state xs (c ∷ cs) = let o = adding state xs c.0 c.1 in adds o.state o.store cs

-- all of them are accepted
abbrev pub Accepted : State → List ℕ → List Call → Type 0
Accepted state xs [] = Unit {0}
Accepted state xs (c ∷ cs) = let o = adding state xs c.0 c.1 in (o.number ≡ 0) × Accepted o.state o.store cs

-- those of each section are the same, in the same order
abbrev pub SameCalls : List Call → List Call → Type 0
SameCalls = calls.SameCalls Call sec why_of item_of

-- ---- an add is one of the calls that frames/specs/Calls.antt is about

same_answer : (state : State) (xs : List ℕ) (c : Call) → answer (calls.judged Call sec why_of item_of state xs c) ≡ answer (conditions state xs c.0 c.1)
same_answer state xs c = ap (λ (n : ℕ). cond (is_over state xs) 1 n) (go (eqb (why_of c) 0) refl ∙ sym (then_room state xs c.0 c.1))
  where
    go : (b : Bool) → eqb (why_of c) 0 ≡ b
        → cond (not (eqb (why_of c) 0)) (why_of c) (cond (is_large (item_of c)) 6 (cond (is_full state xs (length (item_of c))) 7 0))
        ≡ cond (eqb (why_of c) 0) (cond (is_full state xs (length (item_of c))) 7 0) (why_of c)
    go true e =
        let f = fine records c.0 c.1 (eqb-true (why_of c) 0 e) in
        let small : is_large (item_of c) ≡ false = rw f.is (le-ltb item_most (length (records.item c.1 f.value)) f.fits) in
        rw (e, small)
    go false e = rw e

same_adding : (state : State) (xs : List ℕ) (c : Call) → calls.adding Call sec why_of item_of state xs c ≡ adding state xs c.0 c.1
unfolding calls.adding adding
same_adding state xs c = ap (settled (refused state xs) (added state xs c.0 c.1)) (same_answer state xs c)

same_adds : (state : State) (xs : List ℕ) (cs : List Call) → calls.adds Call sec why_of item_of state xs cs ≡ adds state xs cs
same_adds state xs [] = refl
same_adds state xs (c ∷ cs) =
    ap (λ (o : Outcome). calls.adds Call sec why_of item_of o.state o.store cs) (same_adding state xs c)
    ∙ same_adds (adding state xs c.0 c.1).state (adding state xs c.0 c.1).store cs

all_accepted : (state : State) (xs : List ℕ) (cs : List Call) → Accepted state xs cs → calls.Accepted Call sec why_of item_of state xs cs
all_accepted state xs [] h = tt
all_accepted state xs (c ∷ cs) h =
    let e = same_adding state xs c in
    subst (λ (o : Outcome). (o.number ≡ 0) × calls.Accepted Call sec why_of item_of o.state o.store cs) (sym e) (h.0, all_accepted (adding state xs c.0 c.1).state (adding state xs c.0 c.1).store cs h.1)

accepted_all : (state : State) (xs : List ℕ) (cs : List Call) → calls.Accepted Call sec why_of item_of state xs cs → Accepted state xs cs
accepted_all state xs [] h = tt
accepted_all state xs (c ∷ cs) h =
    let e = same_adding state xs c in
    let k = subst (λ (o : Outcome). (o.number ≡ 0) × calls.Accepted Call sec why_of item_of o.state o.store cs) e h in
    (k.0, accepted_all (adding state xs c.0 c.1).state (adding state xs c.0 c.1).store cs k.1)

-- ---- DEMAND 3

-- adds on a fresh store, and then finishing
abbrev pub finished : List ℕ → List Call → Ending → List ℕ → writing.Outcome
finished xs cs e out = finishing (adds fresh xs cs).state (adds fresh xs cs).store e out

pub record Same (xs ys : List ℕ) (cs ds : List Call) : Type 0 where
  pub accepted : Accepted fresh ys ds
  pub finish : (e : Ending) (out : List ℕ) → finished xs cs e out ≡ finished ys ds e out
  -- and where finishing is accepted, it writes the module of all calls' items
  pub is : (e : Ending) (out : List ℕ) → (finished xs cs e out).number ≡ 0
      → finished xs cs e out ≡ writing.writing (module_of e (map (calls.frame_of Call sec why_of item_of) cs)) out

pub any_order : (xs ys : List ℕ) (cs ds : List Call) → length xs ≡ length ys → SameCalls cs ds → Accepted fresh xs cs → Same xs ys cs ds
any_order xs ys cs ds n h a =
    let s = module-order.any_order Call sec why_of item_of xs ys cs ds n h (all_accepted fresh xs cs a) in
    let f : (zs : List ℕ) (bs : List Call) (e : Ending) (out : List ℕ) → module-order.finished Call sec why_of item_of zs bs e out ≡ finished zs bs e out =
    λ zs bs e out. ap (λ (o : Outcome). finishing o.state o.store e out) (same_adds fresh zs bs) in
    record {
      accepted = accepted_all fresh ys ds s.accepted;
      finish = λ e out. sym (f xs cs e out) ∙ s.finish e out ∙ f ys ds e out;
      is = λ e out z.
          sym (f xs cs e out) ∙ s.is e out (ap (λ (o : writing.Outcome). o.number) (f xs cs e out) ∙ z);
    }
