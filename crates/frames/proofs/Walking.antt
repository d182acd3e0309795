-- How far a walk over frames has come. Assumes nothing.
use mathlib.Core.Path.{◌≡◌, refl, sym, ap, ap₂, ◌∙◌}
use mathlib.Core.Bool.{Bool, true, false, cond}
use mathlib.Core.Option.{Option, none, some, map, none-ne-some}
use mathlib.Core.List.{List, [], ◌∷◌, ◌++◌, append-nil, append_assoc}
use Prim.Native.Nat.{ℕ, ◌+◌, ◌≤◌, ◌<◌, ◌^◌}
use native.Mathlib.Omega.{arith}
use lib.Dec.{eqb}
use lib.ListN.{length, drop, set, length-append, length-drop}
use borrow.Author.Tests.{ne_eqb, eq-eqb}
use Rattle.format.specs.Runs.{run, run_more_lem, run_stop, run_none}
use Rattle.format.specs.Lists.{prints, prints_more}
use Rattle.format.specs.Read.{drop_end}
use Rattle.frames.specs.Frames.{Frame, frame, frame_some, frame_long}
use Rattle.frames.specs.Place.{frame_at}
use Rattle.std.specs.Prelude.{None, Some, slice_range}
use Rattle.std.specs.Borrow.{Bor}
use Rattle.frames.specs.Steps.{frame_steps}
use Rattle.frames.specs.declared.Frames.{Frames}
use Rattle.frames.specs.declared.Items.{Items}
use Rattle.frames.specs.Tally.{items_of, joined, items_few, table, one_more, tally_for, Tallies, tallies_of, tally_at, tally_of, tally_is, table_set}
use Rattle.frames.proofs.Placing.{Begins, none_found, frame_found}

-- ---- the frames before a place

pub record Walked (s : List ℕ) (fs : List Frame) (at : ℕ) : Type 0 where
  pub rest : run frame s ≡ map (λ (gs : List Frame). fs ++ gs) (run frame (drop at s))
  pub long : length (prints frame.print fs) ≡ at
  pub within : at ≤ length s

map-none : (o : Option (List Frame)) → o ≡ map (λ (gs : List Frame). [] ++ gs) o
map-none none = refl
map-none (some fs) = refl

map_more : (fs : List Frame) (f : Frame) (o : Option (List Frame))
    → map (λ (gs : List Frame). fs ++ gs) (map (λ (gs : List Frame). f ∷ gs) o) ≡ map (λ (gs : List Frame). (fs ++ (f ∷ [])) ++ gs) o
map_more fs f none = refl
map_more fs f (some gs) = ap some (sym (append_assoc fs (f ∷ []) gs))

pub walk_none : (s : List ℕ) → Walked s [] 0
walk_none s = record { rest = map-none (run frame s); long = refl; within = omega arith }

module _ {s : List ℕ} {fs : List Frame} {at : ℕ} (w : Walked s fs at) where
  pub walk_more : at < length s → {i end : ℕ} (b : Begins s at i end) → Walked s (fs ++ (b.here ∷ [])) end
  walk_more h {i} {end} b =
      let n : length (prints frame.print (fs ++ (b.here ∷ []))) ≡ at + (length b.here.item + 5) =
      ap length (prints_more frame.print fs b.here) ∙ length-append (prints frame.print fs) (frame.print b.here) ∙ ap₂ (λ (x y : ℕ). x + y) w.long (frame_long b.here) in
      record {
        rest = w.rest
            ∙ ap (map (λ (gs : List Frame). fs ++ gs)) (run_more_lem frame frame_some (drop at s) b.here (drop end s) (omega (arith, length-drop at s)) b.parse)
            ∙ map_more fs b.here (run frame (drop end s));
        long = omega (arith, b.long);
        within = b.within;
      }

  -- and those from there on
  pub walk_rest : (all : List Frame) → run frame s ≡ some all → (gs : List Frame) × (all ≡ fs ++ gs)
  walk_rest all e = go (run frame (drop at s)) (sym w.rest ∙ e)
    where
      go : (o : Option (List Frame)) → map (λ (gs : List Frame). fs ++ gs) o ≡ some all → (gs : List Frame) × (all ≡ fs ++ gs)
      go none q = absurd (none-ne-some all q)
      go (some gs) q = (gs, cc)

  pub walk_stop : at < length s → None ≡ frame_at s at → run frame s ≡ none
  walk_stop h e = w.rest ∙ ap (map (λ (gs : List Frame). fs ++ gs)) (run_stop frame frame_some (drop at s) (omega (arith, length-drop at s)) (none_found s at e))

  pub walk_done : length s ≤ at → run frame s ≡ some fs
  walk_done h =
      w.rest
      ∙ ap (λ (r : List ℕ). map (λ (gs : List Frame). fs ++ gs) (run frame r)) (drop_end s at h)
      ∙ ap (map (λ (gs : List Frame). fs ++ gs)) (run_none frame frame_some)
      ∙ ap some (append-nil fs)

-- ---- a step of a walk

-- it found a frame, and its item
pub record Step (s : List ℕ) (f : Frames) (x : ℕ × Bor (List ℕ)) (g : Frames) : Type 0 where
  pub found : Begins s f.at x.0 g.at
  pub item : x.1.now ≡ found.here.item
  pub bytes : g.bytes.now ≡ s

pub step_some : {s : List ℕ} {f : Frames} → f.bytes.now ≡ s → (x : ℕ × Bor (List ℕ)) {g : Frames} → frame_steps f (Some x) g → Step s f x g
step_some {s} {f} e x {g} step =
    let b = frame_found s f.at x.0 g.at (step.0 ∙ ap (λ (b : List ℕ). frame_at b f.at) e) in
    record {
      found = b;
      item = step.4 ∙ ap (λ (b : List ℕ). slice_range b (f.at + 5) g.at) e ∙ sym b.item;
      bytes = ap (λ (l : Bor (List ℕ)). l.now) step.5 ∙ e;
    }

pub step_none : {s : List ℕ} {f : Frames} → f.bytes.now ≡ s → {g : Frames} → frame_steps f None g → (None ≡ frame_at s f.at) × (g.at ≡ f.at)
step_none {s} {f} e step = (step.0 ∙ ap (λ (b : List ℕ). frame_at b f.at) e, ap (λ (x : Frames). x.at) step.1)

-- ---- one frame more, of a section and of the others

pub items_append : (i : ℕ) (fs gs : List Frame) → items_of i (fs ++ gs) ≡ items_of i fs ++ items_of i gs
items_append i [] gs = refl
items_append i (f ∷ fs) gs = rw (items_append i fs gs) (go (eqb f.id i))
  where
    go : (t : Bool) → cond t (f.item ∷ (items_of i fs ++ items_of i gs)) (items_of i fs ++ items_of i gs) ≡ cond t (f.item ∷ items_of i fs) (items_of i fs) ++ items_of i gs
    go true = refl
    go false = refl

pub items_one : (i : ℕ) (fs : List Frame) (f : Frame) → f.id ≡ i → items_of i (fs ++ (f ∷ [])) ≡ items_of i fs ++ (f.item ∷ [])
items_one i fs f e = items_append i fs (f ∷ []) ∙ rw (eq-eqb f.id i e)

pub items_other : (i : ℕ) (fs : List Frame) (f : Frame) → (f.id ≡ i → ⊥) → items_of i (fs ++ (f ∷ [])) ≡ items_of i fs
items_other i fs f h = items_append i fs (f ∷ []) ∙ rw (ne_eqb f.id i h) (append-nil (items_of i fs))

-- ---- a tally

tally_more_lem : (fs : List Frame) (f : Frame) (i k : ℕ) → f.id ≡ i → length f.item ≡ k → tally_for (fs ++ (f ∷ [])) i ≡ one_more (tally_for fs i) k
tally_more_lem fs f i k e l =
    let is = items_of i fs in
    let n : length (joined (is ++ (f.item ∷ []))) ≡ length (joined is) + k = ap length (prints_more (λ b. b) is f.item) ∙ length-append (joined is) f.item ∙ omega arith in
    ap (λ (l : List (List ℕ)). record { count = length l; total = length (joined l) }) (items_one i fs f e)
    ∙ ap₂ (λ (x y : ℕ). record { count = x; total = y }) (length-append is (f.item ∷ [])) n

-- the frames before the place of a walk, tallied
pub record Tallied (s : List ℕ) (t : Tallies) (f : Frames) : Type 0 where
  pub bytes : f.bytes.now ≡ s
  pub past : List Frame
  pub walk : Walked s past f.at
  pub is : t ≡ tallies_of past

pub tally_none : {s : List ℕ} {f : Frames} → (f.bytes.now ≡ s) × (f.at ≡ 0) → Tallied s (table 16 (λ i. record { count = 0; total = 0 })) f
tally_none {s} (e, z) = record { bytes = e; past = []; walk = rw z (walk_none s); is = refl }

module _ {s : List ℕ} {t : Tallies} {f : Frames} (w : Tallied s t f) where
  tally_is_lem : (i : ℕ) → i < 16 → tally_at t i ≡ tally_for w.past i
  tally_is_lem i h = ap (λ (l : Tallies). tally_at l i) w.is ∙ tally_is w.past i h

  -- what stands in it is no more than the place
  tally_few : (i : ℕ) → i < 16 → (tally_at t i).count + (tally_at t i).total ≤ f.at
  tally_few i h = rw (tally_is_lem i h) (omega (arith, items_few i w.past, w.walk.long))

  -- one frame more
  module _ (x : ℕ × Bor (List ℕ)) {g : Frames} (step : frame_steps f (Some x) g) where
    one : Step s f x g
    one = step_some w.bytes x step

    pub item_fits : length s < 2 ^ 63 → ((tally_at t x.0).count + 1 < 2 ^ 64) × ((tally_at t x.0).total + length x.1.now < 2 ^ 64)
    item_fits fits =
        let b = one.found in
        let few = tally_few x.0 step.1 in
        (omega (arith, few, b.long, b.within), omega (arith, few, ap length one.item, b.long, b.within))

    pub tally_more : {y : Items} → y ≡ one_more (tally_at t x.0) (length x.1.now) → Tallied s (set t x.0 y) g
    tally_more {y} e =
        let b = one.found in
        let v : y ≡ tally_for (w.past ++ (b.here ∷ [])) x.0 =
        e ∙ ap (λ (z : Items). one_more z (length x.1.now)) (tally_is_lem x.0 step.1) ∙ sym (tally_more_lem w.past b.here x.0 (length x.1.now) b.is (sym (ap length one.item))) in
        record {
          bytes = one.bytes;
          past = w.past ++ (b.here ∷ []);
          walk = walk_more w.walk (omega (arith, b.long, b.within)) b;
          is = ap (λ (l : Tallies). set l x.0 y) w.is
              ∙ table_set 16 (tally_for w.past) (tally_for (w.past ++ (b.here ∷ []))) x.0 y v
              (λ j d. ap (λ (l : List (List ℕ)). record { count = length l; total = length (joined l) }) (sym (items_other j w.past b.here (λ q. d (sym q ∙ b.is)))));
        }

  -- and no more
  module _ {g : Frames} (step : frame_steps f None g) where
    pub tally_stop : g.at < length s → None ≡ tally_of (run frame s)
    unfolding tally_of
    tally_stop h = let (e, k) = step_none w.bytes step in rw (walk_stop w.walk (omega arith) e)

    pub tally_done : length s ≤ g.at → Some t ≡ tally_of (run frame s)
    unfolding tally_of
    tally_done h = let (e, k) = step_none w.bytes step in rw (walk_done w.walk (omega arith), w.is)
