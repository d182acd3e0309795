-- The builder's state: a fresh one, what a frame makes of it, the one that frames give, and what it says of a store (document 01, Store and module; Answers by
-- number: 1, 7 and 9). What reads the state is here; definitions and contracts above hand it on whole. Assumes nothing.
use Rattle.std.specs.Prelude.{◌≡◌, refl, ◌↔◌, Bool, true, false, ◌||◌, List, [], ◌∷◌, ◌++◌, ℕ, ◌+◌, ◌≤◌, ◌<◌, ltb, length, take, drop}
use Rattle.std.proofs.Common.{sym, ap, ◌∙◌, true≢false, append_assoc, arith, length-append, length-take, take_at, length-take-le, le-ltb, lt-ltb, ltb-false}
use Rattle.std.proofs.Math.Option.{Option, none, some}
use Rattle.std.proofs.Math.Seq.{drop-append-add}
use Rattle.format.specs.Answers.{neither}
use Rattle.format.specs.Lists.{All, all_more, prints, prints_more}
use Rattle.format.specs.Runs.{run, run_only, run_back, run_refuses}
use Rattle.format.specs.Write.{todo}
use Rattle.frames.specs.Frames.{Frame, frame, frame_some, no_frames}
use Rattle.frames.specs.declared.State.{State}

-- the room used is 0 when fresh
abbrev pub fresh : State
fresh = record { used = 0 }

-- room used grows by the item's length plus 5
abbrev pub grown_for : State → ℕ → State
grown_for state n = record { used = state.used + n + 5 }

abbrev pub grown : State → Frame → State
grown state f = grown_for state (length f.item)

-- ---- the state that frames give

abbrev pub room_of : List Frame → ℕ
room_of [] = 0
room_of (f ∷ fs) = length f.item + 5 + room_of fs

abbrev pub state_of : List Frame → State
state_of fs = record { used = room_of fs }

pub room_more : (fs : List Frame) (f : Frame) → room_of (fs ++ (f ∷ [])) ≡ room_of fs + length f.item + 5
room_more [] f = omega arith
room_more (g ∷ fs) f = omega (arith, room_more fs f)

-- one more frame makes of it the one that all of them give
pub grown_is : (fs : List Frame) (f : Frame) → state_of (fs ++ (f ∷ [])) ≡ grown (state_of fs) f
grown_is fs f = ap (λ (n : ℕ). record { used = n }) (room_more fs f)

-- it depends on the room that they take
pub same_state : (fs gs : List Frame) → room_of fs ≡ room_of gs → state_of fs ≡ state_of gs
same_state fs gs e = ap (λ (n : ℕ). record { used = n }) e

-- ---- a state and a store

-- the room used of a store
abbrev pub used_in : State → List ℕ → List ℕ
used_in state store = take state.used store

-- what is left of a store when bytes are put behind the room used
abbrev pub behind : State → List ℕ → List ℕ → List ℕ
behind state b store = todo state.used b store

-- what stands behind the head of a frame that begins behind the room used: five bytes, its section's id and its item's length
abbrev pub behind_head : State → List ℕ → List ℕ
behind_head state store = drop (state.used + 5) store

-- the frames that the room used is, from byte 0; none where they do not end there
abbrev pub frames_in : State → List ℕ → Option (List Frame)
frames_in state store = run frame (used_in state store)

abbrev pub store_most : ℕ
store_most = 16777216

-- 1: store over its limit, or room used above its length
abbrev pub is_over : State → List ℕ → Bool
is_over state xs = ltb store_most (length xs) || ltb (length xs) state.used

-- 7: room used + item length + 5 above store length
abbrev pub is_full : State → List ℕ → ℕ → Bool
is_full state xs n = ltb (length xs) (state.used + n + 5)

-- 9: frames from byte 0 don't end at room used
abbrev pub is_unframed : State → List ℕ → Bool
is_unframed state xs = no_frames (frames_in state xs)

-- that is: no list of frames is the room used
pub unframed_exactly : (state : State) (xs : List ℕ) → (is_unframed state xs ≡ true) ↔ ((fs : List Frame) → All frame.Ok fs → used_in state xs ≡ prints frame.print fs → ⊥)
unframed_exactly state xs =
    let r = run_refuses frame frame_some (used_in state xs) in
    (λ e. r.0 (none_held (frames_in state xs) e), λ h. ap no_frames (r.1 h))
  where
    none_held : (o : Option (List Frame)) → no_frames o ≡ true → o ≡ none
    none_held none e = refl
    none_held (some fs) e = absurd (true≢false (sym e))

-- how it is judged
pub over_limit : (state : State) (xs : List ℕ) → store_most < length xs → true ≡ is_over state xs
over_limit state xs h = rw (lt-ltb store_most (length xs) h)

pub over_used : (state : State) (xs : List ℕ) → length xs ≤ store_most → ltb (length xs) state.used ≡ is_over state xs
over_used state xs h = rw (le-ltb store_most (length xs) h)

-- what a state within its store says
pub record Within (state : State) (xs : List ℕ) : Type 0 where
  pub most : length xs ≤ store_most
  pub room : state.used ≤ length xs

pub within : (state : State) (xs : List ℕ) → is_over state xs ≡ false → Within state xs
within state xs e =
    let (a, b) = neither (ltb store_most (length xs)) (ltb (length xs) state.used) e in
    record { most = ltb-false store_most (length xs) a; room = ltb-false (length xs) state.used b }

pub not_over : {state : State} {xs : List ℕ} → Within state xs → is_over state xs ≡ false
not_over {state} {xs} w = rw (le-ltb store_most (length xs) w.most, le-ltb (length xs) state.used w.room)

pub not_full : (state : State) (xs : List ℕ) (n : ℕ) → state.used + n + 5 ≤ length xs → is_full state xs n ≡ false
not_full state xs n h = le-ltb (length xs) (state.used + n + 5) h

pub has_room : (state : State) (xs : List ℕ) (n : ℕ) → is_full state xs n ≡ false → state.used + n + 5 ≤ length xs
has_room state xs n e = ltb-false (length xs) (state.used + n + 5) e

pub used_long : (state : State) (xs : List ℕ) → length (used_in state xs) ≤ length xs
used_long state xs = omega (arith, length-take state.used xs)

-- ---- one more frame

-- behind the room used of a store with room for it, it is one more of those that the store holds
pub frames_more : (state : State) (xs : List ℕ) (f : Frame) (fs : List Frame) → frames_in state xs ≡ some fs → frame.Ok f
    → is_full state xs (length f.item) ≡ false → frames_in (grown state f) (behind state (frame.print f) xs) ≡ some (fs ++ (f ∷ []))
frames_more state xs f fs e ok h =
    let used = state.used in
    let room = has_room state xs (length f.item) h in
    let i = run_only frame (used_in state xs) fs e in
    let b = frame.print f in
    let n : length (take used xs ++ b) ≡ used + length f.item + 5 = simp (length-append, length-take-le used xs (omega arith)) (omega arith) in
    let at : take (used + length f.item + 5) (todo used b xs) ≡ take used xs ++ b =
    ap (take (used + length f.item + 5)) (sym (append_assoc (take used xs) b (drop (used + length b) xs)))
    ∙ take_at (take used xs ++ b) (drop (used + length b) xs) (used + length f.item + 5) n in
    let p : take used xs ++ b ≡ prints frame.print (fs ++ (f ∷ [])) = ap (λ (l : List ℕ). l ++ b) i.1 ∙ sym (prints_more frame.print fs f) in
    ap (run frame) (at ∙ p) ∙ run_back frame frame_some (fs ++ (f ∷ [])) (all_more frame.Ok fs f i.0 ok)

-- and there, behind its head, stands its item
pub item_behind : (state : State) (xs : List ℕ) (f : Frame) → is_full state xs (length f.item) ≡ false
    → (r : List ℕ) × (behind_head state (behind state (frame.print f) xs) ≡ f.item ++ r)
item_behind state xs f h =
    let used = state.used in
    let rest = drop (used + length (frame.print f)) xs in
    let long : length (take used xs) ≡ used = length-take-le used xs (omega (arith, has_room state xs (length f.item) h)) in
    (rest, ap (λ (n : ℕ). drop (n + 5) (behind state (frame.print f) xs)) (sym long) ∙ drop-append-add (take used xs) (frame.print f ++ rest) 5)

-- one that frames give is within every store that has room for them
pub frames_within : (fs : List Frame) (xs : List ℕ) → length xs ≤ store_most → room_of fs ≤ length xs → Within (state_of fs) xs
frames_within fs xs m h = record { most = m; room = h }
