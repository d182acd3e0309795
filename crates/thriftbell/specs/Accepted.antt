-- What an accepted add leaves, from any state and store: its frame behind the room used, one more of those that the store holds, and every other byte as it was
-- (document 01, Store and module). Assumes nothing.
use Rattle.std.specs.Prelude.{◌≡◌, false, List, [], ◌∷◌, ◌++◌, ℕ, ◌≤◌, length}
use Rattle.std.proofs.Common.{sym, ap, ◌∙◌, ltb-false}
use Rattle.std.proofs.Math.Option.{some}
use Rattle.frames.specs.Frames.{Frame, frame}
use Rattle.frames.specs.Builder.{grown, behind, frames_in, is_full, frames_more}
use Rattle.frames.specs.Append.{Outcome, framed, framed_ok, appended_frame}
use Rattle.frames.specs.declared.State.{State}
use Rattle.texts.specs.Judge.{item_most, why, item_in, none_exactly}
use Rattle.items.specs.Record.{records}
use Rattle.items.specs.Judging.{section_in}
use Rattle.thriftbell.specs.Add.{adding, zero_exactly, fits}

-- the frame of a record with a text
abbrev pub frame_in : List ℕ → List ℕ → Frame
frame_in w t = framed (section_in w) (item_in records w t)

module _ (state : State) (xs w t : List ℕ) where
  pub record AddAppends : Type 0 where
    -- the record draws none of 2 to 6, and there is room for its frame
    pub sound : why records w t ≡ 0
    pub room : is_full state xs (length (item_in records w t)) ≡ false
    -- nothing changes but that the frame's bytes stand behind the room used, which grows by them
    pub is : adding state xs w t ≡ record { number = 0; state = grown state (frame_in w t); store = behind state (frame.print (frame_in w t)) xs }
    -- the frames that the store holds are those that it held, and this one
    pub frames : (fs : List Frame) → frames_in state xs ≡ some fs
        → frames_in (adding state xs w t).state (adding state xs w t).store ≡ some (fs ++ (frame_in w t ∷ []))

  pub add_appends : (adding state xs w t).number ≡ 0 → AddAppends
  add_appends z =
      let (over, (c2, (c3, (c4, (c5, (c6, (room, _))))))) = (zero_exactly state xs w t).0 z in
      let sound : why records w t ≡ 0 = (none_exactly records w t).1 (c2, (c3, (c4, (c5, (c6, tt))))) in
      let few : length (item_in records w t) ≤ item_most = ltb-false item_most (length (item_in records w t)) c6 in
      let is = sym (fits state xs w t over sound room) ∙ appended_frame state xs (section_in w) (item_in records w t) few in
      record {
        sound = sound;
        room = room;
        is = is;
        frames = λ fs e. ap (λ (o : Outcome). frames_in o.state o.store) is ∙ frames_more state xs (frame_in w t) fs e (framed_ok (section_in w) (item_in records w t) few) room;
      }
