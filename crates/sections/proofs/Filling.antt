-- How far the walk that writes each item to its section has come. Assumes nothing.
use mathlib.Core.Path.{◌≡◌, refl, sym, ap, ◌∙◌, subst}
use mathlib.Core.Logic.{◌⊎◌, ⊎_elim}
use mathlib.Core.Bool.{true, false}
use mathlib.Core.Option.{Option, some, none-ne-some}
use mathlib.Core.List.{List, [], ◌∷◌, ◌++◌}
use Prim.Native.Nat.{ℕ, ◌+◌, ◌-◌, ◌≤◌, ◌<◌, ◌^◌}
use native.Mathlib.Omega.{arith}
use mir.Syntax.{w64}
use mir.Val.{Fits}
use lib.ListN.{length, take, drop, get_or, set, length-append, length-drop, length-set}
use lib.Seq.{drop_at, get_or-set_same, get_or-set_other}
use borrow.Rule.Slice.PartMut.{put_mid, mid_of}
use Rattle.format.specs.Lists.{All, prints}
use Rattle.format.specs.Runs.{run}
use Rattle.format.specs.Write.{Writes, Room, writes, writes_as, told_length, same_long, fits_or}
use Rattle.format.specs.Write.{Written}
use Rattle.frames.specs.Frames.{Frame, frame, frames_of, held, no_frames}
use Rattle.std.specs.Borrow.{Bor}
use Rattle.frames.specs.Steps.{frame_steps}
use Rattle.frames.specs.declared.Frames.{Frames}
use Rattle.frames.specs.Tally.{items_of, joined, item_bytes, Tallies, tallies_of, tally_at, tally_is, tally_for, tally_of, tallied}
use Rattle.std.specs.Prelude.{None, Some, Ok, IsOk}
use Rattle.frames.specs.declared.Items.{Items}
use Rattle.frames.proofs.Placing.{Begins, begins_below}
use Rattle.frames.proofs.Walking.{Walked, Step, step_some, step_none, walk_none, walk_more, walk_stop, walk_done, items_other}
use Rattle.sections.specs.declared.Given.{Given}
use Rattle.sections.specs.Section.{section_of, said_of}
use Rattle.sections.specs.Order.{order_ids, all_among, Away, Once}
use Rattle.sections.specs.Laid.{Plan, plan_of, room_of, Laid, Headed}
use Rattle.sections.proofs.Lengths.{section_parts}
use Rattle.sections.proofs.Copying.{some_of, items_bounded, joined_one}
use Rattle.sections.proofs.Behind.{room_long, room_ok, written}
use Rattle.sections.proofs.Listed.{listed_all, section_in}
use Rattle.sections.proofs.Laying.{Spot, seek, laid_other, laid_all, within_room, within_put, writes_again}

-- ---- the plan of the frames that bytes are

abbrev pub plan_in : List ℕ → Given → Plan
plan_in s given = plan_of (tallies_of (frames_of s)) given

module _ (s : List ℕ) (given : Given) where
  -- what it says of a section
  abbrev Planned : ℕ → Type 0
  Planned i = ((plan_in s given).total i ≡ length (item_bytes i s)) × ((plan_in s given).head i ++ item_bytes i s ≡ section_of given (frames_of s) i)

  planned : (i : ℕ) → i < 16 → Planned i
  planned i h =
      let l : tally_at (tallies_of (frames_of s)) i ≡ tally_for (frames_of s) i = tally_is (frames_of s) i h in
      let e : (plan_in s given).total i ≡ length (item_bytes i s) = ap (λ (x : Items). x.total) l in
      (e, sym (section_parts i _ (item_bytes i s) ((plan_in s given).total i) e) ∙ section_in s i given (ap (λ (x : Items). said_of given i x.count) l))

  planned_long : (order : List ℕ) → All Planned order → room_of (plan_in s given) order ≡ length (prints (section_of given (frames_of s)) order)
  planned_long [] a = refl
  planned_long (i ∷ order) a =
      let f = section_of given (frames_of s) in
      let n : length (f i) ≡ length ((plan_in s given).head i) + length (item_bytes i s) = ap length (sym a.0.1) ∙ length-append ((plan_in s given).head i) (item_bytes i s) in
      omega (arith, a.0.0, planned_long order a.1, length-append (f i) (prints f order))

  plan_long : (order : List ℕ) → all_among order_ids order ≡ true → room_of (plan_in s given) order ≡ length (prints (section_of given (frames_of s)) order)
  plan_long order e = planned_long order (listed_all Planned planned order e)

-- ---- the walk

-- the items of the frames before place `at` of s are written to their sections, over the heads, which left xs
pub record Filling (s order : List ℕ) (given : Given) (n : ℕ) (xs ys places : List ℕ) (at : ℕ) : Type 0 where
  pub all : List Frame
  pub is : run frame s ≡ some all
  pub once : Once order
  pub past : List Frame
  pub walk : Walked s past at
  pub bytes : List ℕ
  pub laid : Laid (plan_in s given) (λ i. joined (items_of i past)) places 0 order bytes
  pub done : Writes bytes xs ys (Ok n)
  pub few : length places ≡ 16
  pub others : (i : ℕ) → i < 16 → Away i order → get_or places i 0 ≡ 0

-- what was written, again
writes_same : {b xs ys : List ℕ} {n : ℕ} → Writes b xs ys (Ok n) → Writes b ys ys (Ok n)
writes_same {b} {xs} {ys} {n} w =
    let (k, h, e) = told_length w refl in
    let d : drop (length b) ys ≡ drop (length b) xs = ap (drop (length b)) e ∙ drop_at b (drop (length b) xs) (length b) refl in
    writes (omega (arith, ap length e, length-append b (drop (length b) xs))) k (e ∙ ap (λ (l : List ℕ). b ++ l) (sym d))

filling_none : {s order : List ℕ} {given : Given} {n : ℕ} {xs ys places : List ℕ} → no_frames (run frame s) ≡ false → Once order → Headed (plan_in s given) order xs ys places n
    → Filling s order given n ys ys places 0
filling_none {s} e o h =
    let (all, q) = some_of (run frame s) e in
    record { all = all; is = q; once = o; past = []; walk = walk_none s; bytes = h.bytes; laid = h.laid; done = writes_same h.done; few = h.few; others = h.others }

module _ {s order : List ℕ} {given : Given} {n : ℕ} {xs ys places : List ℕ} {at : ℕ} (f : Filling s order given n xs ys places at) where
  -- a frame is found
  module _ (h : at < length s) {i end : ℕ} (b : Begins s at i end) where
    abbrev next : List Frame
    next = f.past ++ (b.here ∷ [])

    abbrev item : List ℕ
    item = b.here.item

    abbrev moved : List ℕ
    moved = set places i (get_or places i 0 + (end - (at + 5)))

    walk : Walked s next end
    walk = walk_more f.walk h b

    kept : (j : ℕ) → (j ≡ i → ⊥) → joined (items_of j f.past) ≡ joined (items_of j next)
    kept j d = ap joined (sym (items_other j f.past b.here (λ e. d (sym e ∙ b.is))))

    long : length item ≡ end - (at + 5)
    long = omega (arith, b.long)

    abbrev Found : Type 0
    Found = Spot (plan_in s given) i item (λ j. joined (items_of j f.past)) (λ j. joined (items_of j next)) places moved 0 order f.bytes

    found : Away i order ⊎ Found
    found =
        let below = begins_below b in
        let few = f.few in
        let to = get_or places i 0 in
        seek (plan_in s given) i _ _ places moved (λ j d. (kept j d, sym (get_or-set_other places i j (to + (end - (at + 5))) 0 d))) (λ j. omega arith) item
        (joined_one i f.past b.here b.is) (get_or-set_same places i (to + (end - (at + 5))) 0 (omega arith) ∙ ap (λ (k : ℕ). to + k) (sym long)) f.once f.laid

    -- of a section that the order list does not have
    filling_other : get_or places i 0 ≤ 0 → Filling s order given n xs ys places end
    filling_other z = ⊎_elim away (λ p. absurd (omega (arith, p.lead, p.place))) found
      where
        away : Away i order → Filling s order given n xs ys places end
        away a =
            record {
              all = f.all;
              is = f.is;
              once = f.once;
              past = next;
              walk = walk;
              bytes = f.bytes;
              laid = laid_other (plan_in s given) i _ _ places places (λ j d. (kept j d, refl)) a f.laid;
              done = f.done;
              few = f.few;
              others = f.others;
            }

    -- and of one that it has
    module _ (some : 0 < get_or places i 0) where
      listed : Away i order → ⊥
      listed a = omega (arith, f.others i (begins_below b) a)

      spot : Found
      spot = ⊎_elim (λ a. absurd (listed a)) (λ p. p) found

      room : length item ≤ length spot.gap
      room =
          omega (
            arith,
            spot.room,
            items_bounded f.is i walk,
            ap length (joined_one i f.past b.here b.is),
            length-append (joined (items_of i f.past)) item,
            (planned s given i (begins_below b)).0,
            ap (λ (o : Option (List Frame)). length (joined (items_of i (held o)))) f.is,
          )

      filling_room : Room item ys (get_or places i 0)
      filling_room = within_room f.done spot.front spot.gap spot.rest spot.is (spot.place ∙ omega arith) item room

      filling_item : {r : Written} {zs : List ℕ} → Writes (take (end - (at + 5)) (drop (at + 5) s)) (mid_of (get_or places i 0) (length ys - get_or places i 0) ys) zs r
          → Filling s order given n xs (put_mid (get_or places i 0) (length ys - get_or places i 0) ys zs) moved end
      filling_item w =
          let p = spot in
          record {
            all = f.all;
            is = f.is;
            once = f.once;
            past = next;
            walk = walk;
            bytes = p.front ++ (item ++ (drop (length item) p.gap ++ p.rest));
            laid = p.put (drop (length item) p.gap) (omega (arith, length-drop (length item) p.gap, room));
            done = within_put f.done p.front p.gap p.rest p.is (p.place ∙ omega arith) item room (writes_as (sym b.item) w);
            few = length-set places i (get_or places i 0 + (end - (at + 5))) ∙ f.few;
            others = λ j k a. get_or-set_other places i j (get_or places i 0 + (end - (at + 5))) 0 (λ e. listed (subst (λ (x : ℕ). Away x order) e a)) ∙ f.others j k a;
          }

-- ---- the same, of whatever numbers the heads were written over whatever there was: the walk does not know them

pub record Filled (s order : List ℕ) (n : ℕ) (xs start ys places : List ℕ) (f : Frames) : Type 0 where
  pub bytes : f.bytes.now ≡ s
  pub fills : (given : Given) (zs : List ℕ) → Headed (plan_in s given) order zs xs start n → Filling s order given n xs ys places f.at

-- what the writing of the heads asks
pub heads_room : (s : List ℕ) (t : Tallies) (given : Given) (order xs : List ℕ) → Some t ≡ tally_of (run frame s) → all_among order_ids order ≡ true
    → length (prints (section_of given (frames_of s)) order) ≤ length xs → room_of (plan_of t given) order ≤ length xs
heads_room s t given order xs e a h = omega (arith, ap (λ (t : Tallies). room_of (plan_of t given) order) (tallied s e), plan_long s given order a)

pub filled_none : {s order : List ℕ} {n : ℕ} {xs start : List ℕ} → no_frames (run frame s) ≡ false → Once order → {f : Frames} → (f.bytes.now ≡ s) × (f.at ≡ 0)
    → Filled s order n xs start xs start f
filled_none e o (p, z) = record { bytes = p; fills = λ given zs h. rw z (filling_none e o h) }

module _ {s order : List ℕ} {n : ℕ} {xs start ys places : List ℕ} {f : Frames} (filled : Filled s order n xs start ys places f) where
  -- a frame is found
  module _ (i : ℕ) (item : Bor (List ℕ)) (g : Frames) (step : frame_steps f (Some (i, item)) g) where
    one : Step s f (i, item) g
    one = step_some filled.bytes (i, item) step

    before : f.at < length s
    before = omega (arith, one.found.long, one.found.within)

    pub filled_other : get_or places i 0 ≤ 0 → Filled s order n xs start ys places g
    filled_other z = record { bytes = one.bytes; fills = λ given zs h. filling_other (filled.fills given zs h) before one.found z }

    pub filled_item : {w : Written} {zs : List ℕ} → 0 < get_or places i 0 → Writes item.now (mid_of (get_or places i 0) (length ys - get_or places i 0) ys) zs w
        → Filled s order n xs start (put_mid (get_or places i 0) (length ys - get_or places i 0) ys zs) (set places i (get_or places i 0 + length item.now)) g
    filled_item {zs = zs} p w =
        let v = writes_as one.item w in
        let z : length item.now ≡ g.at - (f.at + 5) = omega (arith, ap length one.item, one.found.long) in
        rw z (record { bytes = one.bytes; fills = λ given zs h. filling_item (filled.fills given zs h) before one.found p (writes_as one.found.item v) })

  module _ (t : Tallies) (same : Some t ≡ tally_of (run frame s)) (given : Given) {zs : List ℕ} (h : Headed (plan_of t given) order zs xs start n) where
    heads : Headed (plan_in s given) order zs xs start n
    heads = subst (λ (t : Tallies). Headed (plan_of t given) order zs xs start n) (tallied s same) h

    filling : Filling s order given n xs ys places f.at
    filling = filled.fills given zs heads

    pub filled_long : length ys ≡ length zs
    filled_long = same_long filling.done ∙ same_long heads.done

    module _ (i : ℕ) (item : Bor (List ℕ)) (g : Frames) (step : frame_steps f (Some (i, item)) g) (p : 0 < get_or places i 0) where
      left : Room (one i item g step).found.here.item ys (get_or places i 0)
      left = filling_room filling (before i item g step) (one i item g step).found p

      pub filled_starts : get_or places i 0 ≤ length ys
      filled_starts = left.start

      pub filled_fits : length zs < 2 ^ 64 → Fits w64 (get_or places i 0 + length item.now)
      filled_fits m = record { fits = omega (arith, room_long left, filled_long, ap length (one i item g step).item) }

    -- and no more
    pub filled_done : {g : Frames} → frame_steps f None g → all_among order_ids order ≡ true → Writes (prints (section_of given (frames_of s)) order) zs ys (Ok n)
    filled_done step a =
        let p = plan_in s given in
        let l : length s ≤ f.at = ⊎_elim (λ k. k) (λ k. absurd (none-ne-some filling.all (sym (walk_stop filling.walk k (step_none filled.bytes step).0) ∙ filling.is))) (fits_or (length s) f.at) in
        let all : filling.past ≡ frames_of s = sym (ap held (walk_done filling.walk l)) in
        let laid = subst (λ (fs : List Frame). Laid p (λ i. joined (items_of i fs)) places 0 order filling.bytes) all filling.laid in
        writes_as (laid_all (section_of given (frames_of s)) laid (listed_all (Planned s given) (planned s given) order a)) (writes_again heads.done filling.done)
