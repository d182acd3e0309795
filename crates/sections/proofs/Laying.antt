-- Sections laid out: how long they are, one section more, one item more, and all items. Assumes nothing.
use mathlib.Core.Path.{◌≡◌, refl, sym, ap, ap₂, ◌∙◌, subst}
use mathlib.Core.Logic.{◌⊎◌, inl, inr, ⊎_elim}
use mathlib.Core.Bool.{Bool, true, false}
use mathlib.Core.List.{List, [], ◌∷◌, ◌++◌, append_assoc, append-nil}
use Prim.Native.Nat.{ℕ, ◌+◌, ◌-◌, ◌≤◌, ◌<◌}
use native.Mathlib.Omega.{arith}
use lib.Dec.{eqb}
use lib.ListN.{length, take, drop, get_or, length-append, length-drop}
use lib.Seq.{take_at, drop_at, drop-append-add, drop-append-le}
use borrow.Author.Tests.{eqb-true, eqb-false}
use borrow.Rule.Slice.PartMut.{put_mid, mid_of}
use Rattle.format.specs.Lists.{All, prints}
use Rattle.format.specs.Write.{Writes, Room, writes, told_length, todo, todo_end, todo_part, rest_lent}
use Rattle.format.specs.Write.{Written}
use Rattle.std.specs.Prelude.{Ok}
use Rattle.sections.specs.Order.{Away, Once}
use Rattle.sections.specs.Laid.{Plan, room_of, Laid, laid_none, laid_more}
use Rattle.sections.proofs.Copying.{no_bytes}

module _ {p : Plan} {got : ℕ → List ℕ} {places : List ℕ} where
  pub laid_long : {at : ℕ} {order b : List ℕ} → Laid p got places at order b → length b ≡ room_of p order
  laid_long laid_none = refl
  laid_long (laid_more {i = i} {rest = rest} gap e l q r) = ap length e ∙ simp length-append (omega (arith, laid_long r))

  -- with all their items
  pub laid_all : (f : ℕ → List ℕ) {at : ℕ} {order b : List ℕ} → Laid p got places at order b
      → All (λ i. (p.total i ≡ length (got i)) × (p.head i ++ got i ≡ f i)) order → b ≡ prints f order
  laid_all f laid_none h = refl
  laid_all f (laid_more {i = i} {rest = rest} gap e l q r) h =
      let z : gap ≡ [] = no_bytes gap (omega (arith, h.0.0)) in
      let w : p.head i ++ (got i ++ gap) ≡ f i = ap (λ (g : List ℕ). p.head i ++ (got i ++ g)) z ∙ ap (λ (g : List ℕ). p.head i ++ g) (append-nil (got i)) ∙ h.0.1 in
      e ∙ ap₂ (λ (x y : List ℕ). x ++ y) w (laid_all f r h.1)

  -- one section more, which has got nothing
  pub laid_next : (i : ℕ) (gap : List ℕ) → got i ≡ [] → length gap ≡ p.total i → {at : ℕ} {order b : List ℕ} → Laid p got places at order b
      → get_or places i 0 ≡ at + length b + length (p.head i) → Laid p got places at (order ++ (i ∷ [])) (b ++ (p.head i ++ gap))
  laid_next i gap z l {at} laid_none q =
      laid_more {at = at} {i = i} {rest = []} gap (ap (λ (g : List ℕ). p.head i ++ (g ++ gap)) (sym z) ∙ sym (append-nil (p.head i ++ (got i ++ gap)))) (rw z (omega arith)) (rw z (omega arith)) laid_none
  laid_next i gap z l (laid_more {i = j} {rest = rest} g e m n r) q =
      let long : length (p.head j ++ (got j ++ g)) ≡ length (p.head j) + p.total j = simp length-append (omega arith) in
      laid_more {rest = rest ++ (p.head i ++ gap)} g (ap (λ (x : List ℕ). x ++ (p.head i ++ gap)) e ∙ append_assoc (p.head j ++ (got j ++ g)) rest (p.head i ++ gap)) m n
      (laid_next i gap z l r (q ∙ omega (arith, ap length e, length-append (p.head j ++ (got j ++ g)) rest)))

-- ---- a change at section i alone

-- where c goes, in the gap of section i, and what it leaves
pub record Spot (p : Plan) (i : ℕ) (c : List ℕ) (got got' : ℕ → List ℕ) (places places' : List ℕ) (at : ℕ) (order b : List ℕ) : Type 0 where
  pub front : List ℕ
  pub gap : List ℕ
  pub rest : List ℕ
  pub is : b ≡ front ++ (gap ++ rest)
  pub lead : 0 < length front
  pub place : get_or places i 0 ≡ at + length front
  pub room : length (got i) + length gap ≡ p.total i
  pub put : (left : List ℕ) → length c + length left ≡ length gap → Laid p got' places' at order (front ++ (c ++ (left ++ rest)))

module _ (p : Plan) (i : ℕ) (got got' : ℕ → List ℕ) (places places' : List ℕ)
    (same : (j : ℕ) → (j ≡ i → ⊥) → (got j ≡ got' j) × (get_or places j 0 ≡ get_or places' j 0)) where
  pub laid_other : {at : ℕ} {order b : List ℕ} → Away i order → Laid p got places at order b → Laid p got' places' at order b
  laid_other a laid_none = laid_none
  laid_other {at} a (laid_more {i = j} {rest = rest} gap e l q r) =
      let (d, k) = same j a.0 in
      laid_more {at = at} {rest = rest} gap (e ∙ ap (λ (g : List ℕ). (p.head j ++ (g ++ gap)) ++ rest) d) (rw (← d) l) (rw (← d, ← k) q) (laid_other a.1 r)

  module _ (some : (j : ℕ) → 0 < length (p.head j)) (c : List ℕ) (grown : got' i ≡ got i ++ c) (moved : get_or places' i 0 ≡ get_or places i 0 + length c) where
    abbrev At : ℕ → List ℕ → List ℕ → Type 0
    At at order b = Spot p i c got got' places places' at order b

    pub seek : {at : ℕ} {order b : List ℕ} → Once order → Laid p got places at order b → Away i order ⊎ At at order b
    seek o laid_none = inl tt
    seek {at} {b = b} o (laid_more {i = j} {order = order} {rest = rest} gap e l q r) = go (eqb j i) refl (seek o.1 r)
      where
        front : List ℕ
        front = p.head j ++ (got j ++ gap)

        put_here : j ≡ i → (left : List ℕ) → length c + length left ≡ length gap → Laid p got' places' at (j ∷ order) ((p.head j ++ got j) ++ (c ++ (left ++ rest)))
        put_here d left h =
            let g : got' j ≡ got j ++ c = subst (λ (k : ℕ). got' k ≡ got k ++ c) (sym d) grown in
            let m : get_or places' j 0 ≡ get_or places j 0 + length c = subst (λ (k : ℕ). get_or places' k 0 ≡ get_or places k 0 + length c) (sym d) moved in
            let w : (p.head j ++ got j) ++ (c ++ (left ++ rest)) ≡ (p.head j ++ (got' j ++ left)) ++ rest = rw g (simp append_assoc) in
            let n : length (got' j) ≡ length (got j) + length c = rw g (simp length-append) in
            laid_more {at = at} left w (omega arith) (omega arith) (laid_other (subst (λ (k : ℕ). Away k order) d o.0) r)

        here : j ≡ i → At at (j ∷ order) b
        here d =
            record {
              front = p.head j ++ got j;
              gap = gap;
              rest = rest;
              is = e ∙ simp append_assoc;
              lead = simp length-append (omega (arith, some j));
              place = subst (λ (k : ℕ). get_or places k 0 ≡ at + length (p.head j ++ got j)) d (simp length-append (omega arith));
              room = subst (λ (k : ℕ). length (got k) + length gap ≡ p.total k) d l;
              put = put_here d;
            }

        there : (j ≡ i → ⊥) → At (at + (length (p.head j) + p.total j)) order rest → At at (j ∷ order) b
        there n s =
            let (d, k) = same j n in
            record {
              front = front ++ s.front;
              gap = s.gap;
              rest = s.rest;
              is = e ∙ ap (λ (l : List ℕ). front ++ l) s.is ∙ sym (append_assoc front s.front (s.gap ++ s.rest));
              lead = simp length-append (omega (arith, s.lead));
              place = s.place ∙ simp length-append (omega arith);
              room = s.room;
              put = λ left h.
                  laid_more {at = at} {i = j} {rest = s.front ++ (c ++ (left ++ s.rest))} gap
                  (append_assoc front s.front (c ++ (left ++ s.rest)) ∙ ap (λ (g : List ℕ). (p.head j ++ (g ++ gap)) ++ (s.front ++ (c ++ (left ++ s.rest)))) d)
                  (rw (← d) l) (rw (← d, ← k) q) (s.put left h);
            }

        go : (t : Bool) → eqb j i ≡ t → Away i order ⊎ At (at + (length (p.head j) + p.total j)) order rest → Away i (j ∷ order) ⊎ At at (j ∷ order) b
        go true d s = inr (here (eqb-true j i d))
        go false d s = ⊎_elim (λ a. inl (eqb-false j i d, a)) (λ s. inr (there (eqb-false j i d) s)) s

-- ---- writing into what was written

-- a place within it
pub within_room : {b xs ys : List ℕ} {n : ℕ} → Writes b xs ys (Ok n) → (front gap rest : List ℕ) → b ≡ front ++ (gap ++ rest)
    → {to : ℕ} → to ≡ length front → (c : List ℕ) → length c ≤ length gap → Room c ys to
within_room {b} {xs} {ys} {n} w front gap rest e {to} q c h =
    let (k, l, m) = told_length w refl in
    let long : length b ≡ length front + (length gap + length rest) = ap length e ∙ simp length-append in
    let u : length ys ≡ length b + (length xs - length b) = ap length m ∙ simp (length-append, length-drop) in
    record { start = omega arith; room = omega (arith, ap length (rest_lent to ys), length-drop to ys) }

pub within_put : {b xs ys : List ℕ} {n : ℕ} → Writes b xs ys (Ok n) → (front gap rest : List ℕ) → b ≡ front ++ (gap ++ rest)
    → {to : ℕ} → to ≡ length front → (c : List ℕ) → length c ≤ length gap → {r : Written} {zs : List ℕ} → Writes c (mid_of to (length ys - to) ys) zs r
    → Writes (front ++ (c ++ (drop (length c) gap ++ rest))) xs (put_mid to (length ys - to) ys zs) (Ok n)
within_put {b} {xs} {ys} {n} w front gap rest e {to} q c h {r} {zs} v =
    let (k, l, m) = told_length w refl in
    let b' = front ++ (c ++ (drop (length c) gap ++ rest)) in
    let t = drop (length b) xs in
    let long : length b ≡ length front + (length gap + length rest) = ap length e ∙ simp length-append in
    let long' : length b' ≡ length b = simp (length-append, length-drop) (omega arith) in
    let u : length ys ≡ length b + (length xs - length b) = ap length m ∙ simp (length-append, length-drop) in
    let whole : ys ≡ front ++ (gap ++ (rest ++ t)) = m ∙ ap (λ (l : List ℕ). l ++ t) e ∙ simp append_assoc in
    let placed : put_mid to (length ys - to) ys zs ≡ todo to c ys =
    sym (todo_end (to + length c) (put_mid to (length ys - to) ys zs)) ∙ todo_part to c [] ys v (omega arith) ∙ ap (λ (l : List ℕ). todo to l ys) (append-nil c) in
    let before : take to ys ≡ front = ap (take to) whole ∙ take_at front (gap ++ (rest ++ t)) to (sym q) in
    let behind : drop (to + length c) ys ≡ drop (length c) gap ++ (rest ++ t) =
    ap₂ (λ (a : ℕ) (l : List ℕ). drop (a + length c) l) q whole ∙ drop-append-add front (gap ++ (rest ++ t)) (length c) ∙ drop-append-le (length c) gap (rest ++ t) h in
    writes (omega arith) (omega arith)
    (placed ∙ ap₂ (λ (x y : List ℕ). x ++ (c ++ y)) before behind ∙ ap (λ (a : ℕ). front ++ (c ++ (drop (length c) gap ++ (rest ++ drop a xs)))) (sym long') ∙ simp append_assoc)

-- over what was written over
pub writes_again : {a b xs ys zs : List ℕ} {n : ℕ} → Writes a xs ys (Ok n) → Writes b ys zs (Ok n) → Writes b xs zs (Ok n)
writes_again {a} {b} {xs} {ys} {zs} {n} w v =
    let (k, l, m) = told_length w refl in
    let (k', l', m') = told_length v refl in
    let e : length b ≡ length a = omega arith in
    let d : drop (length b) ys ≡ drop (length b) xs =
    ap (drop (length b)) m ∙ drop_at a (drop (length a) xs) (length b) (sym e) ∙ ap (λ (j : ℕ). drop j xs) (sym e) in
    writes (omega arith) k' (m' ∙ ap (λ (l : List ℕ). b ++ l) d)
