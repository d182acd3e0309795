-- A reference in a record (document 01, Records): word h, low four bits kind, bit 4 nullable, bit 5 shared and only with kinds 0 to 13, higher bits 0;
-- word x, the index for kinds 14 and 15, else 0. Assumes nothing.
use Rattle.std.specs.Prelude.{◌≡◌, refl, Bool, true, false, cond, List, ◌∷◌, ℕ, ◌+◌, ◌*◌, ◌/◌, ◌%◌, ◌^◌, ◌<◌, ◌≤◌, eqb, ltb}
use Rattle.std.proofs.Common.{sym, ◌∙◌, ap, subst, arith, lit<, ltb-true, lt-ltb, le-ltb, eqb-true, ne_eqb}
use Rattle.std.proofs.Math.Option.{Option, none, some, map, none-ne-some}
use Rattle.std.specs.Int.Bits.{bit_and}
use Rattle.std.proofs.lemmas.Nat.{and_mask}
use Rattle.format.specs.Parsed.{from_option}
use Rattle.format.specs.Format.{Format}
use Rattle.format.specs.Basic.{find, find_only, via, bit, bit_small, bit_one, eqb_bit}
use Rattle.format.specs.Combine.{pair}
use Rattle.words.specs.Words.{word}
use Rattle.types.specs.Abstract.{abstracts, kind_of, kind_small, kind_full}
use Rattle.types.specs.declared.HeapType.{HeapType}
use Rattle.types.specs.declared.HeapType.TheVariants.{Abstract, Concrete, Exact}
use Rattle.types.specs.declared.RefType.{RefType}

-- ---- the three parts of a heap type in a record: its kind, whether it is shared, its index

abbrev pub heap_kind : HeapType → ℕ
heap_kind (Abstract s a) = kind_of a
heap_kind (Concrete x) = 14
heap_kind (Exact x) = 15

abbrev pub heap_shared : HeapType → Bool
heap_shared (Abstract s a) = s
heap_shared (Concrete x) = false
heap_shared (Exact x) = false

abbrev pub heap_index : HeapType → ℕ
heap_index (Abstract s a) = 0
heap_index (Concrete x) = x
heap_index (Exact x) = x

-- shared only with kinds 0 to 13, an index only with kinds 14 and 15
abbrev pub heap_of : ℕ → Bool → ℕ → Option HeapType
heap_of k s x =
    cond (eqb k 14) (cond s none (some (Concrete x)))
    (cond (eqb k 15) (cond s none (some (Exact x)))
    (cond (eqb x 0) (map (λ a. Abstract s a) (find kind_of abstracts k)) none))

pub heap_of_to : (t : HeapType) → heap_of (heap_kind t) (heap_shared t) (heap_index t) ≡ some t
heap_of_to (Abstract s a) =
    let h = kind_small a in
    rw (ne_eqb (kind_of a) 14 (λ e. omega arith), ne_eqb (kind_of a) 15 (λ e. omega arith), kind_full a)
heap_of_to (Concrete x) = refl
heap_of_to (Exact x) = refl

abbrev pub Heaped : ℕ → Bool → ℕ → HeapType → Type 0
Heaped k s x t = (k ≡ heap_kind t) × (s ≡ heap_shared t) × (x ≡ heap_index t)

some_inv : {A : Type 0} {a b : A} → some a ≡ some b → a ≡ b
some_inv e = cc

pub heap_to_of : (k : ℕ) (s : Bool) (x : ℕ) (t : HeapType) → heap_of k s x ≡ some t → Heaped k s x t
heap_to_of k s x t e = go (eqb k 14) refl (eqb k 15) refl (eqb x 0) refl s refl (find kind_of abstracts k) refl e
  where
    go : (b : Bool) → eqb k 14 ≡ b → (c : Bool) → eqb k 15 ≡ c → (d : Bool) → eqb x 0 ≡ d → (v : Bool) → s ≡ v → (o : Option _) → find kind_of abstracts k ≡ o
        → cond b (cond v none (some (Concrete x))) (cond c (cond v none (some (Exact x))) (cond d (map (λ a. Abstract v a) o) none)) ≡ some t → Heaped k s x t
    go true p c q d r true v o f e = absurd (none-ne-some t e)
    go true p c q d r false v o f e = subst (Heaped k s x) (some_inv e) (eqb-true k 14 p, v, refl)
    go false p true q d r true v o f e = absurd (none-ne-some t e)
    go false p true q d r false v o f e = subst (Heaped k s x) (some_inv e) (eqb-true k 15 q, v, refl)
    go false p false q true r b v none f e = absurd (none-ne-some t e)
    go false p false q true r b v (some a) f e = subst (Heaped k s x) (some_inv e) (find_only kind_of abstracts k a f, v, eqb-true x 0 r)
    go false p false q false r b v o f e = absurd (none-ne-some t e)

pub heap_kind_small : (t : HeapType) → heap_kind t < 16
heap_kind_small (Abstract s a) = let h = kind_small a in omega arith
heap_kind_small (Concrete x) = lit< tt
heap_kind_small (Exact x) = lit< tt

-- ---- word h by its bits, and word x

abbrev pub ref_to : RefType → ℕ × ℕ
ref_to r = (heap_kind r.heap_type + 16 * bit r.nullable + 32 * bit (heap_shared r.heap_type), heap_index r.heap_type)

abbrev pub ref_of : ℕ × ℕ → Option RefType
ref_of w =
    cond (ltb w.0 64)
    (map (λ t. record { nullable = eqb (w.0 / 16 % 2) 1; heap_type = t }) (heap_of (w.0 % 16) (eqb (w.0 / 32) 1) w.1))
    none

pub ref_head_small : (r : RefType) → (ref_to r).0 < 2 ^ 32
ref_head_small r =
    let hk = heap_kind_small r.heap_type in
    let hn = bit_small r.nullable in
    let hs = bit_small (heap_shared r.heap_type) in
    omega arith

pub ref_of_to : (r : RefType) → ref_of (ref_to r) ≡ some r
ref_of_to r =
    let k = heap_kind r.heap_type in
    let n = bit r.nullable in
    let s = bit (heap_shared r.heap_type) in
    let hk : k < 16 = heap_kind_small r.heap_type in
    let hn : n < 2 = bit_small r.nullable in
    let hs : s < 2 = bit_small (heap_shared r.heap_type) in
    let e0 : (k + 16 * n + 32 * s) % 16 ≡ k = omega arith in
    let d : (k + 16 * n + 32 * s) / 16 ≡ n + 2 * s = omega arith in
    let d' : (k + 16 * n + 32 * s) / 16 / 2 ≡ s = omega arith in
    let e1 : (k + 16 * n + 32 * s) / 16 % 2 ≡ n = omega arith in
    let e2 : (k + 16 * n + 32 * s) / 32 ≡ s = omega arith in
    let h : k + 16 * n + 32 * s < 64 = omega arith in
    rw (lt-ltb (k + 16 * n + 32 * s) 64 h, e0, e1, e2, eqb_bit r.nullable, eqb_bit (heap_shared r.heap_type), heap_of_to r.heap_type)

map-some : {A B : Type 0} (f : A → B) (o : Option A) (b : B) → map f o ≡ some b → (a : A) × (o ≡ some a) × (f a ≡ b)
map-some f none b e = absurd (none-ne-some b e)
map-some f (some a) b e = (a, refl, some_inv e)

cond_some : {A : Type 0} (c : Bool) (o : Option A) (a : A) → cond c o none ≡ some a → (c ≡ true) × (o ≡ some a)
cond_some true o a e = (refl, e)
cond_some false o a e = absurd (none-ne-some a e)

pub ref_to_of : (w : ℕ × ℕ) (r : RefType) → ref_of w ≡ some r → w ≡ ref_to r
ref_to_of w r e =
    let p = cond_some (ltb w.0 64) _ r e in
    let h : w.0 < 64 = ltb-true w.0 64 p.0 in
    let m = map-some (λ t. record { nullable = eqb (w.0 / 16 % 2) 1; heap_type = t }) _ r p.1 in
    let q = heap_to_of (w.0 % 16) (eqb (w.0 / 32) 1) w.1 m.0 m.1 in
    let f1 : bit (eqb (w.0 / 16 % 2) 1) ≡ w.0 / 16 % 2 = bit_one (w.0 / 16 % 2) (omega arith) in
    let f2 : bit (eqb (w.0 / 32) 1) ≡ w.0 / 32 = bit_one (w.0 / 32) (omega arith) in
    let t = m.0 in
    let f3 : bit (heap_shared t) ≡ w.0 / 32 = sym (ap bit q.1) ∙ f2 in
    let k0 : w.0 % 16 ≡ heap_kind t = q.0 in
    let e0 : w.0 ≡ heap_kind t + 16 * bit (eqb (w.0 / 16 % 2) 1) + 32 * bit (heap_shared t) = omega arith in
    let x0 : w.1 ≡ heap_index t = q.2 in
    subst (λ (r : RefType). w ≡ ref_to r) m.2 (λ i. (e0 i, x0 i))

abbrev pub ref_words : Format RefType
ref_words =
    via (pair word word)
    (record {
      OkA = λ r. heap_index r.heap_type < 2 ^ 32;
      to = ref_to;
      of = ref_of;
      fits = λ r h. (ref_head_small r, h);
      of_to = λ r h. ref_of_to r;
      to_of = λ w r h e. (subst (λ (p : ℕ × ℕ). p.1 < 2 ^ 32) (ref_to_of w r e) h.1, ref_to_of w r e);
    })

-- ---- what reading two words finds, by the shifts and masks that a program has

pub ref_words_at : (h x : ℕ) (r : List ℕ) → h < 2 ^ 32 → x < 2 ^ 32 → ref_words.parse (h ∷ x ∷ r) ≡ from_option (ref_of (h, x)) r
ref_words_at h x r p q = rw (lt-ltb h (2 ^ 32) p, lt-ltb x (2 ^ 32) q)

pub ref_words_large : (h x : ℕ) → 64 ≤ h → ref_of (h, x) ≡ none
ref_words_large h x l = rw (le-ltb h 64 l)

pub ref_words_bits : (h x : ℕ) → h < 64
    → ref_of (h, x) ≡ map (λ t. record { nullable = eqb (bit_and (h / 16) 1) 1; heap_type = t }) (heap_of (bit_and h 15) (eqb (bit_and (h / 32) 1) 1) x)
ref_words_bits h x l =
    let e : bit_and (h / 32) 1 ≡ h / 32 = and_mask (h / 32) 1 ∙ omega arith in
    rw (lt-ltb h 64 l, and_mask h 4, and_mask (h / 16) 1, e)
