-- What is told of a frame, by its kind. Assumes nothing.
use mathlib.Core.Path.{◌≡◌, refl, sym, ap, subst, ◌∙◌}
use mathlib.Core.Option.{Option, none, some}
use mathlib.Core.List.{List}
use Prim.Native.Nat.{ℕ, ◌-◌, ◌≤◌}
use native.Mathlib.Omega.{arith}
use lib.ListN.{length, drop, get_or}
use mir.Syntax.{w8}
use mir.Val.{Fits}
use borrow.Rule.Slice.PartMut.{mid_of}
use Rattle.format.specs.Parsed.{Parsed, got}
use Rattle.format.specs.Write as write
use Rattle.format.specs.Write.{rest_lent}
use Rattle.frames.specs.Append as append
use Rattle.frames.specs.Frames.{word32}
use Rattle.frames.specs.declared.State.{State}
use Rattle.thriftbell.specs.Add as add
use Rattle.thriftbell.specs.Add.{adding}
use Rattle.module.specs.Finish.{outcome, finishing}
use Rattle.std.specs.Prelude.{Result, Ok, Err}
use Rattle.format.specs.declared.refusal.Refusal.{Refusal}
use Rattle.format.specs.declared.refusal.Refusal.TheVariants.{BadLine}
use Rattle.hex_text.specs.Frame.{Frame, adds, told, finish_told, word_list, whole, frame_of}
use Rattle.lines.specs.Done.{done, added, finished, doing, Does, Tells}
use Rattle.lines.specs.declared.tell.Told.{Told}
use Rattle.lines.proofs.Framing.{kind_add, kind_finish}

-- ---- no frame

module _ {f : Option Frame} {state : State} {store : List ℕ} {r : Told} (q : r ≡ record { answer = Err BadLine; state = state }) (e : f ≡ none) where
  pub tells_none : Tells f state store store r
  tells_none = record { right = λ buffer. ap (λ (r : Told). done r store buffer) q ∙ sym (ap (doing state store buffer) e) }

  pub does_none : {buffer : List ℕ} → Does f state store buffer store buffer r
  does_none {buffer} = record { did = tells_none.right buffer }

-- ---- an add

module _ (state : State) (store words text : List ℕ) {r : Result State Refusal} {store' : List ℕ} (h : add.outcome state r store' ≡ adding state store words text) where
  pub added_told : {after : State} → r ≡ Ok after → Tells (some (adds words text)) state store store' (record { answer = Ok 0; state = after })
  added_told e = record { right = λ buffer. ap (added buffer) (ap (λ (x : Result State Refusal). add.outcome state x store') (sym e) ∙ h) }

  pub refused_told : {d : Refusal} → r ≡ Err d → Tells (some (adds words text)) state store store' (record { answer = Err d; state = state })
  refused_told e = record { right = λ buffer. ap (added buffer) (ap (λ (x : Result State Refusal). add.outcome state x store') (sym e) ∙ h) }

-- the same frame
pub tells_same : {f g : Option Frame} {state : State} {store store' : List ℕ} {r : Told} → Tells f state store store' r → f ≡ g → Tells g state store store' r
tells_same {state} {store} {store'} {r} t e = subst (λ (f : Option Frame). Tells f state store store' r) e t

-- ---- a finish

-- x is what finishing answered
pub finished_told : (state : State) (store bytes buffer : List ℕ) (count : ℕ) (buffer' : List ℕ) (x : Result ℕ Refusal) → word32.parse bytes ≡ got count (drop 4 bytes)
    → outcome x buffer' ≡ finishing state store (told count (mid_of 4 (length bytes - 4) bytes)) buffer
    → Does (whole finish_told (word32.parse bytes)) state store buffer store buffer' (record { answer = x; state = state })
finished_told state store bytes buffer count buffer' x w h =
    record {
      did = stands x
          ∙ ap (finished state store) (h ∙ ap (λ (l : List ℕ). finishing state store (told count l) buffer) (rest_lent 4 bytes))
          ∙ sym (ap (λ (m : Parsed ℕ). doing state store buffer (whole finish_told m)) w);
    }
  where
    stands : (x : Result ℕ Refusal) → done (record { answer = x; state = state }) store buffer' ≡ finished state store (outcome x buffer')
    stands (Ok n) = refl
    stands (Err e) = refl

-- ---- a frame, by its kind

module _ {state : State} {store buffer : List ℕ} (s : List ℕ) (h : 1 ≤ length s) where
  pub add_told : {store' : List ℕ} {r : Told} → get_or s 0 0 ≡ 1 → Tells (whole adds (word_list.parse (mid_of 1 (length s - 1) s))) state store store' r → Does (frame_of s) state store buffer store' buffer r
  add_told e t =
      record {
        did = t.right buffer ∙ ap (doing state store buffer) (ap (λ (l : List ℕ). whole adds (word_list.parse l)) (rest_lent 1 s) ∙ sym (kind_add s h e));
      }

  pub finish_told_lem : {buffer' : List ℕ} {r : Told} → get_or s 0 0 ≡ 2 → Does (whole finish_told (word32.parse (mid_of 1 (length s - 1) s))) state store buffer store buffer' r
      → Does (frame_of s) state store buffer store buffer' r
  finish_told_lem e t =
      record {
        did = t.did ∙ ap (doing state store buffer) (ap (λ (l : List ℕ). whole finish_told (word32.parse l)) (rest_lent 1 s) ∙ sym (kind_finish s h (λ z. omega arith) e));
      }
