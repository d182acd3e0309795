-- Appending to a lent buffer: the count and the lowest refusal are those of all that was appended, and where all of it fits its bytes stand at the front.
-- Assumes nothing.
use Rattle.std.specs.Prelude.{◌≡◌, refl, List, [], ◌∷◌, ◌++◌, ℕ, ◌+◌, ◌-◌, ◌*◌, ◌/◌, ◌%◌, ◌≤◌, min, length, get_or, take, drop, set}
use Rattle.std.proofs.Common.{sym, ◌∙◌, ap, subst, append_assoc, append-nil, arith, length-append, length-drop, length-set, take_at, drop_at, drop-drop}
use Rattle.std.proofs.Math.Seq.{set-append_seam}
use borrow.Rule.Slice.PartMut.{put_mid, mid_of, same_len_mid}
use Rattle.format.specs.Read.{drop_more}
use Rattle.format.specs.Write.{Written, over, Writes, wrote, rest_lent, rest_back}
use Rattle.format.specs.declared.Done.{Done}

-- stands for no refusal: it is above all that a text draws (3, 4, 5)
abbrev pub no_refusal : ℕ
no_refusal = 9

-- what draws none
abbrev pub silent : {A : Type 0} → A → ℕ
silent a = no_refusal

-- no more is ever written; one more stands for all that is
abbrev pub count_most : ℕ
count_most = 65536

abbrev pub counted : ℕ → ℕ
counted n = min n (count_most + 1)

-- one number holds both: so many refusals there is room for below the count
abbrev pub low_room : ℕ
low_room = 16

-- how much was appended, and the lowest refusal
abbrev pub count_in : Done → ℕ
count_in s = s.v / low_room

abbrev pub low_in : Done → ℕ
low_in s = s.v % low_room

abbrev pub grown_by : Done → ℕ → ℕ
grown_by s k = low_room * counted (count_in s + k) + low_in s

abbrev pub lowered : Done → ℕ → Done
lowered s k = record { v = low_room * count_in s + min (low_in s) k }

-- p was appended to a buffer that held old and now holds out; l is the lowest refusal
pub record Has {A : Type 0} (p : List A) (l : ℕ) (old out : List A) (s : Done) : Type 0 where
  pub holds : s.v ≡ low_room * counted (length p) + l
  pub small : l ≤ no_refusal
  pub kept : length out ≡ length old
  pub bytes : length p ≤ count_most → length p ≤ length old → out ≡ over p old

pub has_count : {A : Type 0} {p : List A} {l : ℕ} {old out : List A} {s : Done} → Has p l old out s → count_in s ≡ counted (length p)
has_count h = omega (arith, h.holds, h.small)

pub has_lowest : {A : Type 0} {p : List A} {l : ℕ} {old out : List A} {s : Done} → Has p l old out s → low_in s ≡ l
has_lowest h = omega (arith, h.holds, h.small)

-- q is appended, with the refusal m, whatever was appended before
pub record Adds {A : Type 0} (q : List A) (m : ℕ) (before : List A) (s : Done) (after : List A) (t : Done) : Type 0 where
  pub more : (p : List A) (l : ℕ) (old : List A) → Has p l old before s → Has (p ++ q) (min l m) old after t

-- and no refusal is drawn
abbrev pub Appends : {A : Type 0} → List A → List A → Done → List A → Done → Type 0
Appends q = Adds q no_refusal

pub has_eq : {A : Type 0} {p q : List A} {l m : ℕ} {old out : List A} {s : Done} → p ≡ q → l ≡ m → Has p l old out s → Has q m old out s
has_eq {A} {p} {q} {l} {m} {old} {out} {s} e f h = subst (λ (x : List A). Has x m old out s) e (subst (λ (k : ℕ). Has p k old out s) f h)

pub adds_eq : {A : Type 0} {p q : List A} {l m : ℕ} {a b : List A} {s t : Done} → p ≡ q → l ≡ m → Adds p l a s b t → Adds q m a s b t
adds_eq {A} {p} {q} {l} {m} {a} {b} {s} {t} e f h = subst (λ (x : List A). Adds x m a s b t) e (subst (λ (k : ℕ). Adds p k a s b t) f h)

pub min_assoc : (a b c : ℕ) → min (min a b) c ≡ min a (min b c)
min_assoc a b c = omega arith

-- ---- one after the other

pub adds_nil : {A : Type 0} (a : List A) (s : Done) → Appends [] a s a s
adds_nil {A} a s = record { more = go }
  where
    go : (p : List A) (l : ℕ) (old : List A) → Has p l old a s → Has (p ++ []) (min l no_refusal) old a s
    go p l old h = let i : l ≤ no_refusal = h.small in has_eq (sym (append-nil p)) (omega arith) h

pub adds_seq : {A : Type 0} {p q : List A} {l m : ℕ} {a b c : List A} {s t u : Done} → Adds p l a s b t → Adds q m b t c u → Adds (p ++ q) (min l m) a s c u
adds_seq {p} {q} {l} {m} {a} {b} {c} {s} {t} {u} x y =
    record { more = λ r k old h. has_eq (append_assoc r p q) (min_assoc k l m) (y.more (r ++ p) (min k l) old (x.more r k old h)) }

-- a refusal is drawn too
pub adds_low : {A : Type 0} {q : List A} {m : ℕ} {a : List A} {s : Done} {b : List A} {t : Done} (k : ℕ) → Adds q m a s b t → Adds q (min m k) a s b (lowered t k)
adds_low {A} {q} {m} {a} {s} {b} {t} k x = record { more = go }
  where
    go : (p : List A) (l : ℕ) (old : List A) → Has p l old a s → Has (p ++ q) (min l (min m k)) old b (lowered t k)
    go p l old h =
        let g = x.more p l old h in
        record { holds = omega (arith, g.holds, g.small); small = omega (arith, g.small); kept = g.kept; bytes = g.bytes }

-- ---- the start, where nothing has been appended yet, and the end

pub has_start : {A : Type 0} (old : List A) (s : Done) (l : ℕ) → s.v ≡ l → l ≤ no_refusal → Has [] l old old s
has_start old s l e h = record { holds = omega (arith, e); small = h; kept = refl; bytes = λ i k. refl }

pub adds_fresh : {A : Type 0} {q : List A} {m : ℕ} {old new : List A} {s t : Done} → Adds q m old s new t → s.v ≡ no_refusal → m ≤ no_refusal → Has q m old new t
adds_fresh {q} {m} {old} {new} {s} x e h = has_eq refl (omega arith) (x.more [] no_refusal old (has_start old s no_refusal e (omega arith)))

-- ---- a leaf: it is counted, and where all fits it leaves its bytes behind those before

module _ {A : Type 0} (b out new : List A) (s t : Done) (g : t.v ≡ grown_by s (length b)) (k : length new ≡ length out) where
  leaf_has : ((p old : List A) → count_in s ≡ length p → length p + length b ≤ length out → length out ≡ length old → out ≡ over p old → new ≡ over (p ++ b) old)
      → (p : List A) (l : ℕ) (old : List A) → Has p l old out s → Has (p ++ b) (min l no_refusal) old new t
  leaf_has w p l old h =
      let c = has_count h in
      let e = has_lowest h in
      let i : l ≤ no_refusal = h.small in
      let o : length out ≡ length old = h.kept in
      let long : length (p ++ b) ≡ length p + length b = length-append p b in
      record {
        holds = omega (arith, g, c, e);
        small = omega arith;
        kept = k ∙ o;
        bytes = λ u v. w p old (omega (arith, c)) (omega arith) o (h.bytes (omega arith) (omega arith));
      }

  pub adds_leaf : ((p old : List A) → count_in s ≡ length p → length p + length b ≤ length out → length out ≡ length old → out ≡ over p old → new ≡ over (p ++ b) old)
      → Appends b out s new t
  adds_leaf w = record { more = leaf_has w }

-- b over what stands behind p
behind : {A : Type 0} (p b old : List A) → p ++ over b (drop (length p) old) ≡ over (p ++ b) old
behind p b old = rw (drop-drop, length-append, append_assoc)

-- a writer was lent the part from the current end on
pub adds_part : {A : Type 0} (b out part : List A) {r : Written} (s t : Done) (at : ℕ) → at ≡ min (count_in s) (length out) → t.v ≡ grown_by s (length b)
    → length part ≡ length (mid_of at (length out - at) out) → Writes b (mid_of at (length out - at) out) part r
    → Appends b out s (put_mid at (length out - at) out part) t
adds_part {A} b out part {r} s t at is g k w = adds_leaf b out (put_mid at (length out - at) out part) s t g (same_len_mid at (length out - at) out part k) go
  where
    go : (p old : List A) → count_in s ≡ length p → length p + length b ≤ length out → length out ≡ length old → out ≡ over p old
        → put_mid at (length out - at) out part ≡ over (p ++ b) old
    go p old e room o d =
        let v : Writes b (drop at out) part r = rw rest_lent at w in
        let l : at ≡ length p = omega arith in
        let front : take at out ≡ p = rw d (take_at p (drop (length p) old) at (sym l)) in
        let rest : drop at out ≡ drop (length p) old = rw d (drop_at p (drop (length p) old) at (sym l)) in
        let fits : length b ≤ length (drop at out) = simp length-drop (omega arith) in
        rw (rest_back at out part (omega arith), front, (wrote v fits).1, rest) (behind p b old)

-- as `adds_part`, with the current end by the count's own name: the bytes are counted, whether there was room for them or not
pub adds_lent : {A : Type 0} {b : List A} (out : List A) (s : Done) {n at : ℕ} → n ≡ count_in s → at ≡ min n (length out) → {part : List A} {r : Written} → Writes b (mid_of at (length out - at) out) part r
    → length part ≡ length (mid_of at (length out - at) out) → {t : Done} → t.v ≡ grown_by s (length b) → Appends b out s (put_mid at (length out - at) out part) t
adds_lent {b} out s {n} {at} c is {part} {r} w k {t} g = adds_part b out part s t at (is ∙ ap (λ (m : ℕ). min m (length out)) c) g k w

-- one number, by a store at the current end
pub adds_set : (x : ℕ) (out : List ℕ) (s t : Done) → t.v ≡ grown_by s 1 → Appends (x ∷ []) out s (set out (count_in s) x) t
adds_set x out s t g = adds_leaf (x ∷ []) out (set out (count_in s) x) s t g (length-set out (count_in s) x) go
  where
    go : (p old : List ℕ) → count_in s ≡ length p → length p + 1 ≤ length out → length out ≡ length old → out ≡ over p old → set out (count_in s) x ≡ over (p ++ (x ∷ [])) old
    go p old e r o d =
        let m : drop (length p) old ≡ get_or old (length p) 0 ∷ drop (length p + 1) old = drop_more old (length p) (omega arith) in
        let q : out ≡ p ++ (get_or old (length p) 0 ∷ drop (length p + 1) old) = d ∙ ap (λ (l : List ℕ). p ++ l) m in
        rw (e, q, set-append_seam p (get_or old (length p) 0) (drop (length p + 1) old) x, length-append p (x ∷ []), append_assoc p (x ∷ []) (drop (length p + 1) old))

-- there is no room for it
pub adds_past : (x : ℕ) (out : List ℕ) (s t : Done) → t.v ≡ grown_by s 1 → length out ≤ count_in s → Appends (x ∷ []) out s out t
adds_past x out s t g h = adds_leaf (x ∷ []) out out s t g refl (λ p old e r o d. absurd (omega arith))
