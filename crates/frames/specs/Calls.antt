-- Demand 3 up to finishing, for any calls: the order in which those of different sections are made does not matter. A call has a section, a reason to refuse
-- it that does not depend on the store (2 to 6 of document 01, 0 where there is none), and an item. Assumes nothing.
use Rattle.std.specs.Prelude.{◌≡◌, Bool, not, List, [], ◌∷◌, ◌++◌, map, ℕ, ◌+◌, ◌≤◌, length}
use Rattle.std.proofs.Math.Path.{refl}
use Rattle.std.proofs.Common.{sym, ap, ◌∙◌, subst, ⊎_elim, append-nil, append_assoc, arith}
use Rattle.std.proofs.Math.Bool.{true, false, cond}
use Rattle.std.proofs.Math.Option.{some}
use Rattle.std.proofs.Math.Dec.{eqb}
use borrow.Author.Tests.{eq-eqb, eqb-true, ne_eqb}
use Rattle.format.specs.Lists.{All}
use Rattle.format.specs.Answers.{answer, settled, settled_exactly}
use Rattle.format.specs.Runs.{run_none}
use Rattle.format.specs.Write.{length_todo}
use Rattle.frames.specs.Frames.{Frame, frame, frame_some, frame_long, item_most}
use Rattle.frames.specs.Ids.{id_of, sections, id_among, by_id}
use Rattle.frames.specs.Builder.{fresh, room_of, state_of, room_more, grown_is, same_state, behind, frames_in, store_most, is_over, is_full, within, not_over, not_full, has_room, frames_within, frames_more}
use Rattle.frames.specs.Append.{Outcome, refused, is_large, framed, appended, appending, fits, sound, zero_exactly, framed_ok, appended_frame}
use Rattle.frames.specs.Sums.{sum, sum_none, sum_one, sum_same, sum-add}
use Rattle.frames.specs.Tally.{items_of}
use Rattle.frames.specs.declared.SectionId.{SectionId}
use Rattle.frames.specs.declared.State.{State}

module _ (Call : Type 0) (sec : Call → SectionId) (why : Call → ℕ) (item : Call → List ℕ) where
  abbrev pub frame_of : Call → Frame
  frame_of c = framed (sec c) (item c)

  -- an add: 1, then the call's own reason, then what appending its frame answers (document 01: 1 to 7, lowest first)
  abbrev pub judged : State → List ℕ → Call → List (ℕ × Bool)
  judged state xs c = (1, is_over state xs) ∷ (why c, not (eqb (why c) 0)) ∷ (6, is_large (item c)) ∷ (7, is_full state xs (length (item c))) ∷ []

  unfoldable pub adding : State → List ℕ → Call → Outcome
  adding state xs c = settled (refused state xs) (appended state xs (sec c) (item c)) (answer (judged state xs c))

  -- a call without a reason of its own is answered as appending its frame is
  pub adding_plain : (state : State) (xs : List ℕ) (c : Call) → why c ≡ 0 → adding state xs c ≡ appending state xs (sec c) (item c)
  unfolding adding appending
  adding_plain state xs c e = rw (eq-eqb (why c) 0 e)

  -- what a sequence of adds leaves
  abbrev pub adds : State → List ℕ → List Call → Outcome
  adds state xs [] = record { number = 0; state = state; store = xs }
  adds state xs (c ∷ cs) = adds (adding state xs c).state (adding state xs c).store cs

  -- all of them are accepted
  abbrev pub Accepted : State → List ℕ → List Call → Type 0
  Accepted state xs [] = Unit {0}
  Accepted state xs (c ∷ cs) = ((adding state xs c).number ≡ 0) × Accepted (adding state xs c).state (adding state xs c).store cs

  -- the calls of one section by its id, in their order
  abbrev pub of_id : ℕ → List Call → List Call
  of_id i [] = []
  of_id i (c ∷ cs) = cond (eqb (id_of (sec c)) i) (c ∷ of_id i cs) (of_id i cs)

  -- the same calls, those of each section in the same order
  abbrev pub SameCalls : List Call → List Call → Type 0
  SameCalls cs ds = (s : SectionId) → of_id (id_of s) cs ≡ of_id (id_of s) ds

  -- ---- one add, of a state that frames give

  -- what does not depend on the store
  abbrev Sound : Call → Type 0
  Sound c = (why c ≡ 0) × (length (item c) ≤ item_most)

  abbrev size : Call → ℕ
  size c = length (item c) + 5

  abbrev more : List Frame → Call → List Frame
  more fs c = fs ++ (frame_of c ∷ [])

  abbrev after : List Frame → List ℕ → Call → Outcome
  after fs xs c = record { number = 0; state = state_of (more fs c); store = behind (state_of fs) (frame.print (frame_of c)) xs }

  sound_adds : (fs : List Frame) (xs : List ℕ) (c : Call) → Sound c → length xs ≤ store_most → room_of fs + size c ≤ length xs
      → adding (state_of fs) xs c ≡ after fs xs c
  sound_adds fs xs c (e, l) m h =
      adding_plain (state_of fs) xs c e
      ∙ sym (fits (state_of fs) xs (sec c) (item c) (record { over = not_over (frames_within fs xs m (omega arith)); small = l; room = not_full (state_of fs) xs (length (item c)) (omega arith) }))
      ∙ appended_frame (state_of fs) xs (sec c) (item c) l
      ∙ ap (λ (s : State). record { number = 0; state = s; store = behind (state_of fs) (frame.print (frame_of c)) xs }) (sym (grown_is fs (frame_of c)))

  no_reason : (state : State) (xs : List ℕ) (c : Call) → (adding state xs c).number ≡ 0 → why c ≡ 0
  unfolding adding
  no_reason state xs c e =
      go (is_over state xs) (eqb (why c) 0) refl (answer ((6, is_large (item c)) ∷ (7, is_full state xs (length (item c))) ∷ []))
      ((settled_exactly (refused state xs) (appended state xs (sec c) (item c)) (λ o. o.number) refl (λ n. refl) {P = answer (judged state xs c) ≡ 0} (λ q. q, λ q. q)).0 e)
    where
      go : (t u : Bool) → eqb (why c) 0 ≡ u → (n : ℕ) → cond t 1 (cond (not u) (why c) n) ≡ 0 → why c ≡ 0
      go true u p n q = absurd (omega arith)
      go false true p n q = eqb-true (why c) 0 p
      go false false p n q = q

  record Added (fs : List Frame) (xs : List ℕ) (c : Call) : Type 0 where
    sound : Sound c
    most : length xs ≤ store_most
    room : room_of fs + size c ≤ length xs
    is : adding (state_of fs) xs c ≡ after fs xs c
    long : length (after fs xs c).store ≡ length xs

  after_long : (fs : List Frame) (xs : List ℕ) (c : Call) → room_of fs + size c ≤ length xs → length (after fs xs c).store ≡ length xs
  after_long fs xs c h = length_todo (room_of fs) (frame.print (frame_of c)) xs (omega (arith, frame_long (frame_of c)))

  fits_adds : (fs : List Frame) (xs : List ℕ) (c : Call) → Sound c → length xs ≤ store_most → room_of fs + size c ≤ length xs → Added fs xs c
  fits_adds fs xs c s m h = record { sound = s; most = m; room = h; is = sound_adds fs xs c s m h; long = after_long fs xs c h }

  adds_sound : (fs : List Frame) (xs : List ℕ) (c : Call) → (adding (state_of fs) xs c).number ≡ 0 → Added fs xs c
  adds_sound fs xs c e =
      let state = state_of fs in
      let w = no_reason state xs c e in
      let f = sound state xs (sec c) (item c) ((zero_exactly state xs (sec c) (item c)).0 (ap (λ (o : Outcome). o.number) (sym (adding_plain state xs c w)) ∙ e)) in
      fits_adds fs xs c (w, f.small) (within state xs f.over).most (omega (arith, has_room state xs (length (item c)) f.room))

  -- ---- a sequence

  abbrev total : List Call → ℕ
  total cs = room_of (map frame_of cs)

  -- where all of it fits, every call is accepted
  fits_accepted : (fs : List Frame) (xs : List ℕ) (cs : List Call) → All Sound cs → length xs ≤ store_most → room_of fs + total cs ≤ length xs → Accepted (state_of fs) xs cs
  fits_accepted fs xs [] k l h = tt
  fits_accepted fs xs (c ∷ cs) k l h =
      let a = fits_adds fs xs c k.0 l (omega arith) in (
        ap (λ (o : Outcome). o.number) a.is,
        rw a.is (fits_accepted (more fs c) (after fs xs c).store cs k.1 (omega (arith, a.long)) (omega (arith, a.long, room_more fs (frame_of c)))),
      )

  -- and where every one of one or more is, all of it fits
  accepted_fits : (fs : List Frame) (xs : List ℕ) (c : Call) (cs : List Call) → Accepted (state_of fs) xs (c ∷ cs)
      → All Sound (c ∷ cs) × (length xs ≤ store_most) × (room_of fs + total (c ∷ cs) ≤ length xs)
  accepted_fits fs xs c [] a = let d = adds_sound fs xs c a.0 in ((d.sound, tt), d.most, omega (arith, d.room))
  accepted_fits fs xs c (d ∷ cs) a =
      let b = adds_sound fs xs c a.0 in
      let (ss, m, k) = accepted_fits (more fs c) (after fs xs c).store d cs (rw b.is at a.1) in
      ((b.sound, ss), b.most, omega (arith, b.long, room_more fs (frame_of c)))

  -- what accepted calls leave: the state that all frames give, a store as long, and their frames behind those that were there
  pub record Ran (o : Outcome) (long : ℕ) (fs : List Frame) : Type 0 where
    pub state : o.state ≡ state_of fs
    pub kept : length o.store ≡ long
    pub holds : frames_in o.state o.store ≡ some fs

  ran : (fs : List Frame) (xs : List ℕ) (cs : List Call) → frames_in (state_of fs) xs ≡ some fs → Accepted (state_of fs) xs cs
      → Ran (adds (state_of fs) xs cs) (length xs) (fs ++ map frame_of cs)
  ran fs xs [] e a = record { state = rw append-nil; kept = refl; holds = rw append-nil e }
  ran fs xs (c ∷ cs) e a =
      let b = adds_sound fs xs c a.0 in
      let f = frame_of c in
      let g : frames_in (state_of (more fs c)) (after fs xs c).store ≡ some (more fs c) =
      ap (λ (s : State). frames_in s (after fs xs c).store) (grown_is fs f) ∙ frames_more (state_of fs) xs f fs e (framed_ok (sec c) (item c) b.sound.1) (not_full (state_of fs) xs (length (item c)) (omega (arith, b.room))) in
      let ih = ran (more fs c) (after fs xs c).store cs g (rw b.is at a.1) in
      let all = append_assoc fs (f ∷ []) (map frame_of cs) in
      subst (λ (o : Outcome). Ran (adds o.state o.store cs) (length xs) (fs ++ (f ∷ map frame_of cs))) (sym b.is)
      (record { state = ih.state ∙ ap state_of all; kept = ih.kept ∙ b.long; holds = ih.holds ∙ ap some all })

  -- ---- what does not depend on the order

  -- no call has an id that is no section's, so that those of any id are the same
  of_none : (i : ℕ) → ((s : SectionId) → id_of s ≡ i → ⊥) → (cs : List Call) → of_id i cs ≡ []
  of_none i h [] = refl
  of_none i h (c ∷ cs) = rw (ne_eqb (id_of (sec c)) i (h (sec c))) (of_none i h cs)

  same_of : (cs ds : List Call) → SameCalls cs ds → (i : ℕ) → of_id i cs ≡ of_id i ds
  same_of cs ds h i = ⊎_elim held (λ n. of_none i n cs ∙ sym (of_none i n ds)) (by_id i)
    where
      held : (s : SectionId) × (i ≡ id_of s) → of_id i cs ≡ of_id i ds
      held (s, e) = rw e (h s)

  total_of : (i : ℕ) (c : Call) (cs : List Call) → total (of_id i (c ∷ cs)) ≡ cond (eqb (id_of (sec c)) i) (size c) 0 + total (of_id i cs)
  total_of i c cs = go (eqb (id_of (sec c)) i)
    where
      go : (t : Bool) → total (cond t (c ∷ of_id i cs) (of_id i cs)) ≡ cond t (size c) 0 + total (of_id i cs)
      go true = refl
      go false = omega arith

  -- every call counts in one section
  by_section : (cs : List Call) → total cs ≡ sum sections (λ i. total (of_id i cs))
  by_section [] = sym (sum_none sections)
  by_section (c ∷ cs) =
      let one = sum_one sections refl (id_of (sec c)) (size c) (id_among (sec c)) in
      let all = sum_same sections (λ i. total (of_id i (c ∷ cs))) (λ i. cond (eqb (id_of (sec c)) i) (size c) 0 + total (of_id i cs)) (λ i. total_of i c cs) in
      let two = sum-add sections (λ i. cond (eqb (id_of (sec c)) i) (size c) 0) (λ i. total (of_id i cs)) in
      sym (all ∙ two ∙ ap (λ (n : ℕ). n + sum sections (λ i. total (of_id i cs))) one ∙ ap (λ (n : ℕ). size c + n) (sym (by_section cs)))

  same_total : (cs ds : List Call) → SameCalls cs ds → total cs ≡ total ds
  same_total cs ds h =
      by_section cs
      ∙ sum_same sections (λ i. total (of_id i cs)) (λ i. total (of_id i ds)) (λ i. ap total (same_of cs ds h i))
      ∙ sym (by_section ds)

  -- what holds of all calls holds of all of a section, and the other way
  sound_in : (i : ℕ) (cs : List Call) → All Sound cs → All Sound (of_id i cs)
  sound_in i [] k = tt
  sound_in i (c ∷ cs) k = go (eqb (id_of (sec c)) i) (sound_in i cs k.1)
    where
      go : (t : Bool) → All Sound (of_id i cs) → All Sound (cond t (c ∷ of_id i cs) (of_id i cs))
      go true m = (k.0, m)
      go false m = m

  sound_all : (ds : List Call) → ((i : ℕ) → All Sound (of_id i ds)) → All Sound ds
  sound_all [] h = tt
  sound_all (d ∷ ds) h = (
    (subst (λ (t : Bool). All Sound (cond t (d ∷ of_id (id_of (sec d)) ds) (of_id (id_of (sec d)) ds))) (eq-eqb (id_of (sec d)) (id_of (sec d)) refl) (h (id_of (sec d)))).0,
    sound_all ds (λ i. go i (eqb (id_of (sec d)) i) (h i)),
  )
    where
      go : (i : ℕ) (t : Bool) → All Sound (cond t (d ∷ of_id i ds) (of_id i ds)) → All Sound (of_id i ds)
      go i true m = m.1
      go i false m = m

  same_sound : (cs ds : List Call) → SameCalls cs ds → All Sound cs → All Sound ds
  same_sound cs ds h k = sound_all ds (λ i. subst (All Sound) (same_of cs ds h i) (sound_in i cs k))

  items_are : (i : ℕ) (cs : List Call) → items_of i (map frame_of cs) ≡ map item (of_id i cs)
  items_are i [] = refl
  items_are i (c ∷ cs) = go (eqb (id_of (sec c)) i) (items_are i cs)
    where
      go : (t : Bool) → items_of i (map frame_of cs) ≡ map item (of_id i cs)
          → cond t (item c ∷ items_of i (map frame_of cs)) (items_of i (map frame_of cs)) ≡ map item (cond t (c ∷ of_id i cs) (of_id i cs))
      go true e = ap (λ (l : List (List ℕ)). item c ∷ l) e
      go false e = e

  same_items : (cs ds : List Call) → SameCalls cs ds → (i : ℕ) → items_of i (map frame_of cs) ≡ items_of i (map frame_of ds)
  same_items cs ds h i = items_are i cs ∙ ap (map item) (same_of cs ds h i) ∙ sym (items_are i ds)

  -- ---- any order

  -- if all calls of one sequence are accepted, so are all of the other
  pub any_order_accepted : (xs ys : List ℕ) (cs ds : List Call) → length xs ≡ length ys → SameCalls cs ds → Accepted fresh xs cs → Accepted fresh ys ds
  any_order_accepted xs ys cs [] e h a = tt
  any_order_accepted xs ys [] (d ∷ ds) e h a = absurd (omega (arith, same_total [] (d ∷ ds) h))
  any_order_accepted xs ys (c ∷ cs) (d ∷ ds) e h a =
      let (k, l, m) = accepted_fits [] xs c cs a in
      fits_accepted [] ys (d ∷ ds) (same_sound (c ∷ cs) (d ∷ ds) h k) (omega arith) (omega (arith, same_total (c ∷ cs) (d ∷ ds) h))

  -- and then both leave the same state, and stores as long that hold the calls' frames: in each section the same items, in the same order
  pub record Alike (o p : Outcome) (cs ds : List Call) : Type 0 where
    pub state : o.state ≡ p.state
    pub long : length o.store ≡ length p.store
    pub first : frames_in o.state o.store ≡ some (map frame_of cs)
    pub second : frames_in p.state p.store ≡ some (map frame_of ds)
    pub items : (i : ℕ) → items_of i (map frame_of cs) ≡ items_of i (map frame_of ds)

  pub any_order_frames : (xs ys : List ℕ) (cs ds : List Call) → length xs ≡ length ys → SameCalls cs ds → Accepted fresh xs cs
      → Alike (adds fresh xs cs) (adds fresh ys ds) cs ds
  any_order_frames xs ys cs ds e h a =
      let p = ran [] xs cs (run_none frame frame_some) a in
      let q = ran [] ys ds (run_none frame frame_some) (any_order_accepted xs ys cs ds e h a) in
      record {
        state = p.state ∙ same_state (map frame_of cs) (map frame_of ds) (same_total cs ds h) ∙ sym q.state;
        long = p.kept ∙ e ∙ sym q.kept;
        first = p.holds;
        second = q.holds;
        items = same_items cs ds h;
      }
