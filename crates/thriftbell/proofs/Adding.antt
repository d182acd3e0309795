-- What the calls of an add tell of its answer: each law takes what they ensure and what was tested, in the code's order. Assumes nothing.
use mathlib.Core.Path.{◌≡◌, refl, sym, ap, ◌∙◌}
use mathlib.Core.Bool.{Bool, true, false}
use mathlib.Core.List.{List}
use Prim.Native.Nat.{ℕ, ◌+◌, ◌-◌, ◌≤◌, ◌<◌}
use native.Mathlib.Omega.{arith}
use mir.Val.{Fits}
use mir.Syntax.{w8}
use lib.ListN.{length, get_or, length-drop}
use borrow.Rule.Slice.PartMut.{put_mid, mid_of, same_len_mid}
use Rattle.format.specs.Write.{Writes, writes, todo_two, rest_lent}
use Rattle.format.specs.Write.{Written}
use Rattle.frames.specs.Ids.{id_of, id_small}
use Rattle.frames.specs.Builder.{grown_for, store_most, is_over, is_full, Within, within, has_room}
use Rattle.frames.specs.Append.{head_bytes, refused}
use Rattle.frames.specs.declared.State.{State}
use Rattle.texts.specs.Judge.{item_most, why, item_in}
use Rattle.items.specs.Record.{records}
use Rattle.items.specs.Judging.{section_in, first_word, judged, Judges, Tried, Puts, told_refused, told_length, judged_tried}
use Rattle.std.specs.Prelude.{Result, Ok, Err}
use Rattle.format.specs.Refusal.{number_of, numbered}
use Rattle.format.specs.declared.refusal.Refusal.{Refusal}
use Rattle.thriftbell.specs.Add.{outcome, added, adding, over, drawn, full, fits, Storable}

-- ---- the answer

pub state_within : (state : State) (xs : List ℕ) {b : Bool} → b ≡ is_over state xs → b ≡ false → Within state xs
state_within state xs o i = within state xs (sym o ∙ i)

pub few_bytes : {w t old new : List ℕ} {r : Result ℕ Refusal} {n : ℕ} → Judges w t old new r → r ≡ Ok n → n ≤ item_most
few_bytes {w} {t} {n = n} j e = (told_length w t n (sym j.is ∙ ap judged e)).2

module _ (state : State) (xs w t : List ℕ) {b : Bool} (o : b ≡ is_over state xs) where
  pub over_refused : b ≡ true → refused state xs 1 ≡ adding state xs w t
  over_refused e = over state xs w t (sym o ∙ e)

  module _ (i : b ≡ false) {old new : List ℕ} {r : Result ℕ Refusal} (j : Judges w t old new r) where
    not_over : is_over state xs ≡ false
    not_over = sym o ∙ i

    pub record_refused : {k : Refusal} → r ≡ Err k → refused state xs (number_of k) ≡ adding state xs w t
    record_refused {k} e = let h = numbered k in drawn state xs w t not_over (number_of k) (λ z. omega arith) (told_refused w t k (sym j.is ∙ ap judged e))

    module _ {n : ℕ} (e : r ≡ Ok n) where
      good : (why records w t ≡ 0) × (length (item_in records w t) ≡ n) × (n ≤ item_most)
      good = told_length w t n (sym j.is ∙ ap judged e)

      module _ {f : Bool} (q : f ≡ is_full state xs n) where
        filled : is_full state xs (length (item_in records w t)) ≡ f
        filled = ap (is_full state xs) good.1 ∙ sym q

        pub full_refused : f ≡ true → refused state xs 7 ≡ adding state xs w t
        full_refused m = full state xs w t not_over good.0 (filled ∙ m)

        pub frame_added : {g : State} {ys : List ℕ} → f ≡ false → outcome state (Ok g) ys ≡ added state xs w t
            → outcome state (Ok g) ys ≡ adding state xs w t
        frame_added m p = p ∙ fits state xs w t not_over good.0 (filled ∙ m)

pub accepted : {state : State} {xs w t old new : List ℕ} {r : Result ℕ Refusal} {n : ℕ} {f : Bool} → Judges w t old new r → length new ≡ length old → r ≡ Ok n → Within state xs
    → f ≡ is_full state xs n → f ≡ false → Storable state xs w t n new
accepted {w = w} {t = t} {old = old} {new = new} {n = n} j l e i q m =
    let g = told_length w t n (sym j.is ∙ ap judged e) in
    record { inside = i; sound = g.0; tried = judged_tried w t n old new g.0 g.1 l j.puts; room = sym q ∙ m }

-- ---- the frame

module _ {state : State} {xs w t : List ℕ} {n : ℕ} {s : List ℕ} (a : Storable state xs w t n s) where
  first : (0 < length w) × (get_or w 0 0 ≡ id_of (section_in w))
  first = first_word w t a.sound

  pub some_word : 0 < length w
  some_word = first.0

  pub word_as_id : Fits w8 (get_or w 0 0)
  word_as_id = record { fits = omega (arith, first.1, id_small (section_in w)) }

  room : state.used + n + 5 ≤ length xs
  room = has_room state xs n a.room

  pub frame_within : state.used + n + 5 ≤ store_most
  frame_within = omega (arith, room, a.inside.most)

  module _ {h : List ℕ} {r : Written} (p : Writes (head_bytes (get_or w 0 0) n) (mid_of state.used (length xs - state.used) xs) h r)
      (k : length h ≡ length (mid_of state.used (length xs - state.used) xs)) where
    abbrev headed : List ℕ
    headed = put_mid state.used (length xs - state.used) xs h

    long : length headed ≡ length xs
    long = same_len_mid state.used (length xs - state.used) xs h k

    pub item_place : state.used + 5 ≤ length headed
    item_place = omega (arith, room, long)

    -- head and item, one behind the other, and the state that they make
    pub frame_put : {g : State} {ys : List ℕ}
        → (Tried w t n s → Puts w t (mid_of (state.used + 5) (length headed - (state.used + 5)) headed) ys) → g ≡ grown_for state n
        → outcome state (Ok g) (put_mid (state.used + 5) (length headed - (state.used + 5)) headed ys) ≡ added state xs w t
    frame_put {g} {ys} b e =
        let at = state.used in
        let item = item_in records w t in
        let l = a.tried.0 in
        let head : Writes (head_bytes (id_of (section_in w)) (length item)) (mid_of at (length xs - at) xs) h r = rw (first.1, sym l) at p in
        let left : length (mid_of (at + 5) (length headed - (at + 5)) headed) ≡ length headed - (at + 5) = ap length (rest_lent (at + 5) headed) ∙ length-drop (at + 5) headed in
        let fit : length item ≤ length (mid_of (at + 5) (length headed - (at + 5)) headed) = omega (arith, left, long, room, l) in
        let stored = todo_two at (head_bytes (id_of (section_in w)) (length item)) item xs (omega (arith, room, l)) head (writes fit refl (b a.tried a.sound fit)) in
        (λ i. record { number = 0; state = (e ∙ ap (grown_for state) (sym l)) i; store = stored i })
