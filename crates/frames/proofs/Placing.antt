-- When the bytes at a place begin a frame: five of them say so, and what is left. Assumes nothing.
use mathlib.Core.Path.{◌≡◌, refl, sym, ap, ◌∙◌}
use mathlib.Core.Bool.{Bool, true, false, cond}
use mathlib.Core.List.{List, ◌∷◌, ◌++◌}
use Prim.Native.Nat.{ℕ, ◌+◌, ◌-◌, ◌≤◌, ◌<◌, min}
use native.Mathlib.Omega.{arith}
use mir.Syntax.{w8}
use mir.Val.{Fits}
use lib.Dec.{leb}
use lib.ListN.{length, take, drop, get_or, length-append, length-drop}
use borrow.Author.Tests.{lt-ltb, le-leb, lt-leb}
use lib.Seq.{drop-drop, take_at, take_all}
use mathlib.Core.Logic.{◌⊎◌, ⊎_elim}
use Rattle.format.specs.Write.{fits_or}
use Rattle.format.specs.Parsed.{Parsed, fail, got}
use Rattle.format.specs.Read.{drop_more, place_of, rest_at}
use Rattle.frames.specs.Frames.{Frame, frame, frame_long, value_of, item_most}
use Rattle.frames.specs.Ids.{sections, among, among_each}
use Rattle.std.specs.Prelude.{None, Some, slice_range}
use Rattle.std.proofs.lemmas.List.{get_or-drop}
use Rattle.std.proofs.lemmas.Option.{some_pair_parts}
use Rattle.frames.specs.Place.{placed, frame_at}

-- five bytes, and what is left
abbrev pub judge : ℕ → ℕ → List ℕ → Parsed Frame
judge i n r = cond (among sections i) (cond (leb n item_most) (cond (leb n (length r)) (got (record { id = i; item = take n r }) (drop n r)) fail) fail) fail

pub frame_head : (i a b c d : ℕ) (r : List ℕ) → i < 256 → a < 256 → b < 256 → c < 256 → d < 256
    → frame.parse (i ∷ a ∷ b ∷ c ∷ d ∷ r) ≡ judge i (value_of (a, (b, (c, d)))) r
frame_head i a b c d r hi ha hb hc hd = go (among sections i) refl (leb n item_most) refl (leb n (length r)) refl
  where
    n : ℕ
    n = value_of (a, (b, (c, d)))

    go : (t : Bool) → among sections i ≡ t → (u : Bool) → leb n item_most ≡ u → (v : Bool) → leb n (length r) ≡ v → frame.parse (i ∷ a ∷ b ∷ c ∷ d ∷ r) ≡ judge i n r
    go true e true f true g = rw (lt-ltb i 256 hi, e, lt-ltb a 256 ha, lt-ltb b 256 hb, lt-ltb c 256 hc, lt-ltb d 256 hd, f, g)
    go true e true f false g = rw (lt-ltb i 256 hi, e, lt-ltb a 256 ha, lt-ltb b 256 hb, lt-ltb c 256 hc, lt-ltb d 256 hd, f, g)
    go true e false f v g = rw (lt-ltb i 256 hi, e, lt-ltb a 256 ha, lt-ltb b 256 hb, lt-ltb c 256 hc, lt-ltb d 256 hd, f)
    go false e u f v g = rw (lt-ltb i 256 hi, e)

pub frame_cut : (s : List ℕ) → length s < 5 → frame.parse s ≡ fail
frame_cut s h = go (frame.parse s) refl
  where
    go : (m : Parsed Frame) → frame.parse s ≡ m → m ≡ fail
    go fail e = refl
    go (got f t) e =
        let l : length s ≡ length (frame.print f) + length t = ap length (frame.only s f t e).1 ∙ length-append (frame.print f) t in
        absurd (omega (arith, frame_long f))

no_parse : (s : List ℕ) (at : ℕ) → frame.parse (drop at s) ≡ fail → None ≡ frame_at s at
unfolding frame_at
no_parse s at e = sym (ap (placed s) e)

no_head : (s : List ℕ) (at : ℕ) → length s < at + 5 → None ≡ frame_at s at
no_head s at h = no_parse s at (frame_cut (drop at s) (omega (arith, length-drop at s)))

pub none_past : (s : List ℕ) (at : ℕ) → (length s < at) ⊎ (length s < length s) → None ≡ frame_at s at
none_past s at h = no_head s at (omega arith)

-- ---- the bytes u from the place on

module _ (s : List ℕ) (at : ℕ) {u : List ℕ} (from : u ≡ slice_range s at (length s)) (long : length u + at ≡ length s) where
  same : u ≡ drop at s
  same = from ∙ take_all (length s - at) (drop at s) (omega (arith, length-drop at s))

  pub none_short : length u < 5 → None ≡ frame_at s at
  none_short h = no_head s at (omega arith)

  module _ (h : 5 ≤ length u) (each : (k : ℕ) → Fits w8 (get_or s k 0)) where
    byte : (k : ℕ) → get_or u k 0 < 256
    byte k = let f = each (at + k) in rw (same, get_or-drop at s k 0) (omega arith)

    -- the id and the length that stand there
    abbrev id_at : ℕ
    id_at = get_or u 0 0

    abbrev size_at : ℕ
    size_at = value_of (get_or u 1 0, (get_or u 2 0, (get_or u 3 0, get_or u 4 0)))

    abbrev rest : List ℕ
    rest = drop 5 u

    five : u ≡ id_at ∷ get_or u 1 0 ∷ get_or u 2 0 ∷ get_or u 3 0 ∷ get_or u 4 0 ∷ rest
    five = drop_more u 0 (omega arith) ∙ rw (drop_more u 1 (omega arith), drop_more u 2 (omega arith), drop_more u 3 (omega arith), drop_more u 4 (omega arith))

    parsed : frame.parse (drop at s) ≡ judge id_at size_at rest
    parsed =
        ap frame.parse (sym same ∙ five)
        ∙ frame_head id_at (get_or u 1 0) (get_or u 2 0) (get_or u 3 0) (get_or u 4 0) rest (byte 0) (byte 1) (byte 2) (byte 3) (byte 4)

    left : length rest ≡ length u - 5
    left = length-drop 5 u

    module _ {t : Bool} (q : t ≡ among sections id_at) where
      pub no_section : t ≡ false → None ≡ frame_at s at
      no_section e = no_parse s at (parsed ∙ rw (sym q ∙ e))

      module _ (e : t ≡ true) {n l : ℕ} (z : n ≡ size_at) (m : l ≡ min item_most (length (take (length u - 5) rest))) where
        listed : among sections id_at ≡ true
        listed = sym q ∙ e

        most : l ≡ min item_most (length rest)
        most = m ∙ ap (λ (r : List ℕ). min item_most (length r)) (take_all (length u - 5) rest (omega (arith, left)))

        pub is_at : n ≤ l → Some (id_at, at + 5 + n) ≡ frame_at s at
        unfolding frame_at
        is_at k =
            let o : length s - length (drop n rest) ≡ at + 5 + n = omega (arith, left, most, length-drop n rest) in
            let p : frame.parse (drop at s) ≡ got (record { id = id_at; item = take n rest }) (drop n rest) =
            parsed ∙ rw (← z, listed, le-leb n item_most (omega (arith, most)), le-leb n (length rest) (omega (arith, most))) in
            sym (ap (placed s) p ∙ ap (λ (e : ℕ). Some (id_at, e)) o)

        pub no_size : l < n → None ≡ frame_at s at
        no_size k = no_parse s at (parsed ∙ rw (← z) (rw listed (⊎_elim
            (λ u. rw (le-leb n item_most u, lt-leb n (length rest) (omega (arith, most))))
            (λ u. rw (lt-leb n item_most u))
            (fits_or n item_most))))

-- ---- what is found at a place

-- the frame that begins there
pub record Begins (s : List ℕ) (at i end : ℕ) : Type 0 where
  pub here : Frame
  pub is : here.id ≡ i
  pub ok : frame.Ok here
  pub parse : frame.parse (drop at s) ≡ got here (drop end s)
  pub long : at + 5 + length here.item ≡ end
  pub within : end ≤ length s
  pub item : here.item ≡ take (end - (at + 5)) (drop (at + 5) s)

frame_rest : (f : Frame) (r : List ℕ) → drop 5 (frame.print f ++ r) ≡ f.item ++ r
frame_rest f r = refl

pub frame_found : (s : List ℕ) (at i end : ℕ) → Some (i, end) ≡ frame_at s at → Begins s at i end
unfolding frame_at
frame_found s at i end e = go (frame.parse (drop at s)) refl e
  where
    go : (m : Parsed Frame) → frame.parse (drop at s) ≡ m → Some (i, end) ≡ placed s m → Begins s at i end
    go fail p q = let z : ◌≡◌ {A = ℕ} 0 1 = cc in absurd (omega arith)
    go (got f r) p q =
        let o = frame.only (drop at s) f r p in
        let (c, w) = rest_at frame s at f r p in
        let (j, k) = some_pair_parts i f.id end (place_of s r) q in
        let l : length s - at ≡ length f.item + 5 + length r = sym (length-drop at s) ∙ ap length o.1 ∙ length-append (frame.print f) r ∙ ap (λ (n : ℕ). n + length r) (frame_long f) in
        let b : drop (at + 5) s ≡ f.item ++ r = sym (drop-drop 5 at s) ∙ ap (drop 5) o.1 ∙ frame_rest f r in
        let n : end - (at + 5) ≡ length f.item = omega arith in
        record {
          here = f;
          is = sym j;
          ok = o.0;
          parse = p ∙ ap (got f) (c ∙ ap (λ (m : ℕ). drop m s) (sym k));
          long = omega arith;
          within = omega arith;
          item = sym (ap (take (end - (at + 5))) b ∙ take_at f.item r (end - (at + 5)) (sym n));
        }

-- a section's id is below 16
pub begins_below : {s : List ℕ} {at i end : ℕ} → Begins s at i end → i < 16
begins_below b = rw (← b.is) (among_each (λ i. i < 16) sections b.here.id (omega arith, (omega arith, (omega arith, (omega arith, (omega arith, tt))))) b.ok.0.1)

pub frame_within : (s : List ℕ) (at : ℕ) {i end : ℕ} → Some (i, end) ≡ frame_at s at → (i < 16) × (at + 5 ≤ end) × (end ≤ length s)
frame_within s at {i} {end} e = let b = frame_found s at i end e in (begins_below b, omega (arith, b.long), b.within)

pub none_found : (s : List ℕ) (at : ℕ) → None ≡ frame_at s at → frame.parse (drop at s) ≡ fail
unfolding frame_at
none_found s at e = go (frame.parse (drop at s)) e
  where
    go : (m : Parsed Frame) → None ≡ placed s m → m ≡ fail
    go fail q = refl
    go (got f r) q = let z : ◌≡◌ {A = ℕ} 0 1 = cc in absurd (omega arith)
