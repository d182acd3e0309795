-- How far the copying of a section's items has come. Assumes nothing.
use mathlib.Core.Path.{◌≡◌, refl, sym, ap, subst, ◌∙◌}
use mathlib.Core.Bool.{false, true≢false}
use mathlib.Core.Option.{Option, none, some, none-ne-some}
use mathlib.Core.List.{List, [], ◌∷◌, ◌++◌, append-nil}
use Prim.Native.Nat.{ℕ, ◌+◌, ◌-◌, ◌≤◌, ◌<◌, ◌^◌}
use mathlib.Core.Logic.{⊎_elim}
use native.Mathlib.Omega.{arith}
use mir.Syntax.{w64}
use mir.Val.{Fits}
use lib.ListN.{length, length-append}
use borrow.Rule.Slice.PartMut.{put_mid, mid_of}
use Rattle.format.specs.Lists.{prints_append, prints_more}
use Rattle.format.specs.Runs.{run}
use Rattle.format.specs.Write.{Writes, writes, writes_as, writes_then, room_then, fitted, told_length, fits_or, within}
use Rattle.format.specs.Write.{Written}
use Rattle.frames.specs.Frames.{Frame, frame, no_frames, held}
use Rattle.std.specs.Borrow.{Bor}
use Rattle.frames.specs.Steps.{frame_steps}
use Rattle.frames.specs.declared.Frames.{Frames}
use Rattle.frames.specs.Tally.{items_of, joined, item_bytes}
use Rattle.std.specs.Prelude as R
use Rattle.std.specs.Prelude.{None, Some, IsSome, Ok, IsOk}
use Rattle.frames.proofs.Walking.{Walked, Step, step_some, step_none, walk_none, walk_more, walk_rest, walk_stop, walk_done, items_append, items_one, items_other}

-- the items of section id among the frames of s before the place of a walk are written, n bytes; those of all frames have `total`
pub record Copied (s : List ℕ) (id total : ℕ) (xs ys : List ℕ) (n : ℕ) (f : Frames) : Type 0 where
  pub bytes : f.bytes.now ≡ s
  pub all : List Frame
  pub is : run frame s ≡ some all
  pub size : total ≡ length (joined (items_of id all))
  pub room : total ≤ length xs
  pub past : List Frame
  pub walk : Walked s past f.at
  pub done : Writes (joined (items_of id past)) xs ys (Ok n)

pub no_bytes : (l : List ℕ) → length l ≡ 0 → l ≡ []
no_bytes [] e = refl
no_bytes (x ∷ l) e = absurd (omega arith)

pub some_of : (o : Option (List Frame)) → no_frames o ≡ false → (all : List Frame) × (o ≡ some all)
some_of none e = absurd (true≢false e)
some_of (some all) e = (all, refl)

pub copied_none : {s : List ℕ} {id total : ℕ} {xs : List ℕ} → no_frames (run frame s) ≡ false → total ≡ length (item_bytes id s) → total ≤ length xs
    → {f : Frames} → (f.bytes.now ≡ s) × (f.at ≡ 0) → Copied s id total xs xs 0 f
copied_none {s} e l h (p, z) =
    let (all, q) = some_of (run frame s) e in
    record { bytes = p; all = all; is = q; size = rw q at l; room = h; past = []; walk = rw z (walk_none s); done = writes (omega arith) refl refl }

-- a section's items among the frames that were passed, and the others
module _ {s : List ℕ} {all : List Frame} (is : run frame s ≡ some all) (id : ℕ) {fs : List Frame} {at : ℕ} (w : Walked s fs at) where
  items_left : (gs : List Frame) × (joined (items_of id all) ≡ joined (items_of id fs) ++ joined (items_of id gs))
  items_left = let (gs, e) = walk_rest w all is in (gs, ap (λ (l : List Frame). joined (items_of id l)) e ∙ rw (items_append id fs gs) (prints_append (λ l. l) (items_of id fs) (items_of id gs)))

  pub items_bounded : length (joined (items_of id fs)) ≤ length (joined (items_of id all))
  items_bounded = let (gs, e) = items_left in omega (arith, ap length e, length-append (joined (items_of id fs)) (joined (items_of id gs)))

-- one item more
pub joined_one : (id : ℕ) (fs : List Frame) (f : Frame) → f.id ≡ id → joined (items_of id (fs ++ (f ∷ []))) ≡ joined (items_of id fs) ++ f.item
joined_one id fs f q = ap joined (items_one id fs f q) ∙ prints_more (λ l. l) (items_of id fs) f.item

-- where there are frames, one is found before the end
pub step_there : {s : List ℕ} {all fs : List Frame} (f : Frames) → Walked s fs f.at → run frame s ≡ some all → f.at < length s → f.bytes.now ≡ s
    → (r : R.Option (ℕ × Bor (List ℕ))) (g : Frames) → frame_steps f r g → IsSome r
step_there {all = all} f w is h e None g step = absurd (none-ne-some all (sym (walk_stop w h (step_none e step).0) ∙ is))
step_there f w is h e (Some x) g step = refl

module _ {s : List ℕ} {id total : ℕ} {xs ys : List ℕ} {n : ℕ} {f : Frames} (c : Copied s id total xs ys n f) where
  copied_more : n < total → f.at < length s
  copied_more h = ⊎_elim ended (λ k. k) (fits_or (length s) f.at)
    where
      ended : length s ≤ f.at → f.at < length s
      ended k =
          let e : c.past ≡ c.all = cc (walk_done c.walk k, c.is) in
          let (m, _, _) = told_length c.done refl in
          absurd (omega (arith, c.size, ap (λ (l : List Frame). length (joined (items_of id l))) e))

  module _ (h : n < total) (r : R.Option (ℕ × Bor (List ℕ))) (g : Frames) (step : frame_steps f r g) where
    pub copied_goes : IsSome r
    copied_goes = step_there f c.walk c.is (copied_more h) c.bytes r g step

    -- a frame is found
    module _ (x : ℕ × Bor (List ℕ)) (e : r ≡ Some x) where
      one : Step s f x g
      one = step_some c.bytes x (subst (λ (o : R.Option (ℕ × Bor (List ℕ))). frame_steps f o g) e step)

      pub copied_less : length g.bytes.now - g.at < length f.bytes.now - f.at
      copied_less = omega (arith, one.found.long, one.found.within, ap length one.bytes, ap length c.bytes)

      walk : Walked s (c.past ++ (one.found.here ∷ [])) g.at
      walk = walk_more c.walk (copied_more h) one.found

      copied : {zs : List ℕ} {m : ℕ} → Writes (joined (items_of id (c.past ++ (one.found.here ∷ [])))) xs zs (Ok m) → Copied s id total xs zs m g
      copied w = record { bytes = one.bytes; all = c.all; is = c.is; size = c.size; room = c.room; past = c.past ++ (one.found.here ∷ []); walk = walk; done = w }

      pub copied_other : (x.0 ≡ id → ⊥) → Copied s id total xs ys n g
      copied_other p = copied (writes_as (ap joined (sym (items_other id c.past one.found.here (λ e. p (sym one.found.is ∙ e))))) c.done)

      -- of the section: its item is written
      module _ (p : x.0 ≡ id) {w : Written} {zs : List ℕ} (put : Writes x.1.now (mid_of n (length ys - n) ys) zs w) where
        both_are : joined (items_of id (c.past ++ (one.found.here ∷ []))) ≡ joined (items_of id c.past) ++ one.found.here.item
        both_are = joined_one id c.past one.found.here (one.found.is ∙ p)

        item : Writes one.found.here.item (mid_of n (length ys - n) ys) zs w
        item = writes_as one.item put

        room : length one.found.here.item ≤ length (mid_of n (length ys - n) ys)
        room = (room_then one.found.here.item c.done (omega (arith, items_bounded c.is id walk, ap length both_are, c.size, c.room))).room

        both : Writes (joined (items_of id c.past) ++ one.found.here.item) xs (put_mid n (length ys - n) ys zs) (Ok (n + length x.1.now))
        both =
            let v = writes_then c.done (fitted item room) in
            subst (λ (k : ℕ). Writes (joined (items_of id c.past) ++ one.found.here.item) xs (put_mid n (length ys - n) ys zs) (Ok (n + k))) (sym (ap length one.item)) v

        pub copied_fits : length xs < 2 ^ 64 → Fits w64 (n + length x.1.now)
        copied_fits m = record { fits = omega (arith, within both) }

        pub copied_item : Copied s id total xs (put_mid n (length ys - n) ys zs) (n + length x.1.now) g
        copied_item = copied (writes_as (sym both_are) both)

  pub copied_done : total ≤ n → Writes (item_bytes id s) xs ys (Ok n)
  copied_done h =
      let (gs, e) = items_left c.is id c.walk in
      let (m, _, _) = told_length c.done refl in
      let z : joined (items_of id gs) ≡ [] = no_bytes (joined (items_of id gs)) (omega (arith, c.size, ap length e, length-append (joined (items_of id c.past)) (joined (items_of id gs)))) in
      let f : item_bytes id s ≡ joined (items_of id c.past) =
      ap (λ (o : Option (List Frame)). joined (items_of id (held o))) c.is ∙ e ∙ ap (λ (l : List ℕ). joined (items_of id c.past) ++ l) z ∙ append-nil (joined (items_of id c.past)) in
      writes_as (sym f) c.done
