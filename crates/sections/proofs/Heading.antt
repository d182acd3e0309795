-- How far the writing of the heads of sections has come. Assumes nothing.
use mathlib.Core.Path.{◌≡◌, refl, sym, ap, ◌∙◌, subst}
use mathlib.Core.Bool.{true}
use mathlib.Core.List.{List, [], ◌∷◌, ◌++◌, append_assoc}
use Prim.Native.Nat.{ℕ, zero, suc, ◌+◌, ◌-◌, ◌≤◌, ◌<◌, ◌^◌}
use native.Mathlib.Omega.{arith}
use mir.Syntax.{w64}
use mir.Val.{Fits}
use lib.ListN.{length, take, drop, get_or, set, length-append, length-drop, length-set, take-append-drop}
use lib.Seq.{length-take-le, drop_at, drop-drop, get_or-set_same, get_or-set_other}
use borrow.Rule.Slice.PartMut.{put_mid, mid_of}
use Rattle.format.specs.Write.{Writes, Room, writes, writes_as, writes_then, room_then, told_length, same_long, within}
use Rattle.std.specs.Prelude.{Ok}
use Rattle.frames.specs.Tally.{Tallies, tally_at}
use Rattle.sections.specs.declared.Given.{Given}
use Rattle.sections.specs.Section.{head_of, said_of}
use Rattle.sections.specs.Order.{order_ids, all_among, Away, Once}
use Rattle.sections.specs.Laid.{Plan, plan_of, room_of, laid_none, Headed}
use Rattle.sections.proofs.Listed.{next_below}
use Rattle.sections.proofs.Seen.{all_less, take_more, once_at, zeros, zeros_at}
use Rattle.sections.proofs.Laying.{laid_long, laid_next, laid_other}

room_more : (p : Plan) (order : List ℕ) (k : ℕ) → k < length order → room_of p (take k order) + (length (p.head (get_or order k 0)) + p.total (get_or order k 0)) ≤ room_of p order
room_more p [] k h = absurd (omega arith)
room_more p (i ∷ order) zero h = omega arith
room_more p (i ∷ order) (suc k) h = omega (arith, room_more p order k (omega arith))

-- what was written, and k bytes that stand behind it
writes_more : {a xs ys : List ℕ} {n : ℕ} → Writes a xs ys (Ok n) → (k : ℕ) → n + k ≤ length xs → Writes (a ++ take k (drop n ys)) xs ys (Ok (n + k))
writes_more {a} {xs} {ys} {n} w k h =
    let (e, l, m) = told_length w refl in
    let t = drop (length a) xs in
    let d : drop n ys ≡ t = ap (drop n) m ∙ drop_at a t n (sym e) in
    let long : length (take k t) ≡ k = length-take-le k t (omega (arith, length-drop (length a) xs)) in
    let g : length (a ++ take k t) ≡ length a + k = length-append a (take k t) ∙ ap (λ (j : ℕ). length a + j) long in
    let z : t ≡ take k t ++ drop (length (a ++ take k t)) xs = sym (take-append-drop k t) ∙ ap (λ (l : List ℕ). take k t ++ l) (drop-drop k (length a) xs ∙ ap (λ (j : ℕ). drop j xs) (sym g)) in
    rw d (writes (omega arith) (omega arith) (m ∙ ap (λ (l : List ℕ). a ++ l) z ∙ sym (append_assoc a (take k t) (drop (length (a ++ take k t)) xs))))

headed_as : {p : Plan} {order order' xs ys places : List ℕ} {n : ℕ} → order ≡ order' → Headed p order xs ys places n → Headed p order' xs ys places n
headed_as {p} {xs = xs} {ys = ys} {places = places} {n = n} e h = subst (λ (o : List ℕ). Headed p o xs ys places n) e h

module _ {p : Plan} {order xs ys places : List ℕ} {n : ℕ} (h : Headed p order xs ys places n) (i : ℕ) (fits : room_of p order + (length (p.head i) + p.total i) ≤ length xs) where
  headed_room : Room (p.head i) ys n
  headed_room = room_then (p.head i) h.done (omega (arith, laid_long h.laid, length-append h.bytes (p.head i)))

  module _ (below : i < 16) (away : Away i order) {zs : List ℕ} {m : ℕ} (w : Writes (p.head i) (mid_of n (length ys - n) ys) zs (Ok m)) where
    abbrev out : List ℕ
    out = put_mid n (length ys - n) ys zs

    headed : Writes (h.bytes ++ p.head i) xs out (Ok (n + m))
    headed = writes_then h.done w

    abbrev gap : List ℕ
    gap = take (p.total i) (drop (n + m) out)

    headed_more : Headed p (order ++ (i ∷ [])) xs out (set places i (n + m)) (n + m + p.total i)
    headed_more =
        let (e, l, _) = told_length headed refl in
        let long : length (h.bytes ++ p.head i) ≡ length h.bytes + length (p.head i) = length-append h.bytes (p.head i) in
        let size = laid_long h.laid in
        let some : length gap ≡ p.total i = length-take-le (p.total i) (drop (n + m) out) (omega (arith, length-drop (n + m) out, same_long headed)) in
        let few = h.few in
        let here : get_or (set places i (n + m)) i 0 ≡ n + m = get_or-set_same places i (n + m) 0 (omega arith) in
        record {
          bytes = h.bytes ++ (p.head i ++ gap);
          laid = laid_next i gap refl some (laid_other p i (λ j. []) (λ j. []) places (set places i (n + m)) (λ j d. (refl, sym (get_or-set_other places i j (n + m) 0 d))) away h.laid) (omega arith);
          done = writes_as (append_assoc h.bytes (p.head i) gap) (writes_more headed (p.total i) (omega arith));
          few = length-set places i (n + m) ∙ few;
          others = λ j b a.
              let (c, d) = all_less (λ k. k ≡ j → ⊥) order i a in
              get_or-set_other places i j (n + m) 0 (λ q. d (sym q)) ∙ h.others j b c;
        }

-- ---- those of the first k sections of an order list

pub record Heading (order : List ℕ) (given : Given) (t : Tallies) (xs ys places : List ℕ) (n k : ℕ) : Type 0 where
  pub put : Headed (plan_of t given) (take k order) xs ys places n

pub heading_none : {order : List ℕ} {given : Given} {t : Tallies} {xs : List ℕ} → Heading order given t xs xs zeros 0 0
heading_none = record { put = record { bytes = []; laid = laid_none; done = writes (omega arith) refl refl; few = refl; others = λ i h a. zeros_at i h } }

module _ {order : List ℕ} {given : Given} {t : Tallies} {xs ys places : List ℕ} {n k : ℕ} (h : Heading order given t xs ys places n k) where
  -- c is the count that the next section says
  module _ (l : k < length order) (c : ℕ) (d : c ≡ said_of given (get_or order k 0) ((tally_at t (get_or order k 0)).count)) (r : room_of (plan_of t given) order ≤ length xs) where
    abbrev i : ℕ
    i = get_or order k 0

    abbrev next : List ℕ
    next = head_of i c ((tally_at t i).total)

    same : next ≡ (plan_of t given).head i
    same = ap (λ (n : ℕ). head_of i n ((tally_at t i).total)) d

    fits : room_of (plan_of t given) (take k order) + (length ((plan_of t given).head i) + (tally_at t i).total) ≤ length xs
    fits = omega (arith, room_more (plan_of t given) order k l)

    pub heading_room : length next ≤ length (mid_of n (length ys - n) ys)
    heading_room = omega (arith, ap length same, (headed_room h.put i fits).room)

    module _ (a : all_among order_ids order ≡ true) (o : Once order) {zs : List ℕ} {m : ℕ} (w : Writes next (mid_of n (length ys - n) ys) zs (Ok m)) where
      pub heading_more : Heading order given t xs (put_mid n (length ys - n) ys zs) (set places i (n + m)) (n + m + (tally_at t i).total) (k + 1)
      heading_more =
          record { put = headed_as (sym (take_more order k l)) (headed_more h.put i fits (next_below order k a l) (once_at order k o l) (writes_as same w)) }

      pub heading_fits : length xs < 2 ^ 64 → Fits w64 (n + m + (tally_at t i).total)
      heading_fits b = record { fits = omega (arith, within heading_more.put.done) }
