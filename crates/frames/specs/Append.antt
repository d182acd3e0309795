-- What appending a frame to a store leaves, and when there is room for it (document 01, Store and module; Answers by number). Assumes nothing.
use Rattle.std.specs.Prelude.{◌≡◌, ◌↔◌, Bool, false, List, [], ◌∷◌, ◌++◌, ℕ, ◌/◌, ◌%◌, ◌≤◌, ◌<◌, ◌^◌, ltb, length}
use Rattle.std.proofs.Math.Path.{refl, sym}
use Rattle.std.proofs.Common.{ap, ◌∙◌, arith}
use Rattle.std.proofs.Math.Option.{some}
use borrow.Author.Tests.{le-ltb, ltb-false, le-leb}
use Rattle.format.specs.Answers.{answer, NoneHolds, accepted_exactly, settled, settled_accepts, settled_exactly}
use Rattle.frames.specs.Frames.{Frame, frame, item_most}
use Rattle.frames.specs.Ids.{id_of, id_among, id_small}
use Rattle.frames.specs.Builder.{grown, behind, frames_in, is_over, is_full, frames_more}
use Rattle.frames.specs.declared.SectionId.{SectionId}
use Rattle.frames.specs.declared.State.{State}

-- section id, item length in four bytes, low first
abbrev pub head_bytes : ℕ → ℕ → List ℕ
head_bytes id n = id ∷ n % 256 ∷ n / 256 % 256 ∷ n / 256 / 256 % 256 ∷ n / 256 / 256 / 256 % 256 ∷ []

-- item over 65,536 bytes
abbrev pub is_large : List ℕ → Bool
is_large item = ltb item_most (length item)

abbrev pub framed : SectionId → List ℕ → Frame
framed s item = record { id = id_of s; item = item }

-- a number of the table of answers, the state and the store, afterwards
pub record Outcome : Type 0 where
  pub number : ℕ
  pub state : State
  pub store : List ℕ

-- a refusal changes nothing
abbrev pub refused : State → List ℕ → ℕ → Outcome
refused state xs n = record { number = n; state = state; store = xs }

module _ (state : State) (xs : List ℕ) (s : SectionId) (item : List ℕ) where
  abbrev pub conditions : List (ℕ × Bool)
  conditions = (1, is_over state xs) ∷ (6, is_large item) ∷ (7, is_full state xs (length item)) ∷ []

  -- section id, item length and item stand from the room used on, the state grows by them, and no other byte changes
  abbrev pub appended : Outcome
  appended = record { number = 0; state = grown state (framed s item); store = behind state (head_bytes (id_of s) (length item) ++ item) xs }

  unfoldable pub appending : Outcome
  appending = settled (refused state xs) appended (answer conditions)

  exactly : {P : Type 0} {n : ℕ} → (answer conditions ≡ n) ↔ P → (appending.number ≡ n) ↔ P
  unfolding appending
  exactly = settled_exactly (refused state xs) appended (λ o. o.number) refl (λ n. refl)

  pub zero_exactly : (appending.number ≡ 0) ↔ NoneHolds conditions
  zero_exactly = exactly (accepted_exactly conditions refl)

  -- ---- where none of the conditions holds, it is appended

  -- what was accepted fits
  pub record Fits : Type 0 where
    pub over : is_over state xs ≡ false
    pub small : length item ≤ item_most
    pub room : is_full state xs (length item) ≡ false

  pub fits : Fits → appended ≡ appending
  unfolding appending
  fits h =
      let e : answer conditions ≡ 0 = rw (h.over, le-ltb item_most (length item) h.small, h.room) in
      sym (settled_accepts (refused state xs) appended (answer conditions) e)

  pub sound : NoneHolds conditions → Fits
  sound (a, (b, (c, _))) = record { over = a; small = ltb-false item_most (length item) b; room = c }

-- ---- adding appends a frame

pub frame_bytes_lem : (f : Frame) → length f.item < 2 ^ 32 → frame.print f ≡ head_bytes f.id (length f.item) ++ f.item
frame_bytes_lem f h = let e : length f.item / 256 / 256 / 256 % 256 ≡ length f.item / 256 / 256 / 256 = omega arith in rw e

pub framed_ok : (s : SectionId) (item : List ℕ) → length item ≤ item_most → frame.Ok (framed s item)
framed_ok s item l = ((id_small s, id_among s), (omega arith, le-leb (length item) item_most l))

-- what is appended is the frame's bytes
pub appended_frame : (state : State) (xs : List ℕ) (s : SectionId) (item : List ℕ) → length item ≤ item_most
    → appended state xs s item ≡ record { number = 0; state = grown state (framed s item); store = behind state (frame.print (framed s item)) xs }
appended_frame state xs s item l =
    ap (λ (p : List ℕ). record { number = 0; state = grown state (framed s item); store = behind state p xs }) (sym (frame_bytes_lem (framed s item) (omega arith)))

-- an accepted add appends its frame to those that the store holds
pub adding_appends : (state : State) (xs : List ℕ) (s : SectionId) (item : List ℕ) (fs : List Frame) → frames_in state xs ≡ some fs
    → (appending state xs s item).number ≡ 0
    → frames_in (appending state xs s item).state (appending state xs s item).store ≡ some (fs ++ (framed s item ∷ []))
adding_appends state xs s item fs e a =
    let h = sound state xs s item ((zero_exactly state xs s item).0 a) in
    sym (ap (λ (o : Outcome). frames_in o.state o.store) (sym (appended_frame state xs s item h.small) ∙ fits state xs s item h))
    ∙ frames_more state xs (framed s item) fs e (framed_ok s item h.small) h.room
