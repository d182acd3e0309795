-- A number in the middle of a buffer, with a byte before and one behind it. Assumes nothing.
use mathlib.Core.Path.{◌≡◌, refl, sym, ap, subst, ◌∙◌}
use mathlib.Core.List.{List, [], ◌∷◌, ◌++◌, append_assoc}
use Prim.Native.Nat.{ℕ, suc, ◌+◌, ◌-◌, ◌≤◌, ◌<◌, ◌^◌}
use native.Mathlib.Omega.{arith}
use mir.Syntax.{w64}
use mir.Val.{Fits, SFits, to_z, of_z}
use mir.Facts.{to_z-of_z}
use lib.IntN.{ℤ}
use lib.ListN.{length, take, drop, get_or, set, length-append, length-drop, length-set, take-append-drop}
use lib.Seq.{drop-append-le, drop-cons, length-take-le, set-append_seam}
use borrow.Rule.Slice.PartMut.{put_mid, mid_of, put_same}
use Rattle.format.specs.Write.{Writes, one_outcome, writes, writes_not, told_length, told_short, over, within, same_long}
use Rattle.format.specs.Write.{Written}
use Rattle.std.specs.Prelude.{Ok, Err}
use Rattle.format.specs.declared.refusal.Refusal.{Refusal}
use Rattle.format.specs.declared.refusal.Refusal.TheVariants.{OutputShort}
use Rattle.leb128.specs.Leb.{sleb}
use Rattle.exprs.specs.Const.{const_of}

-- what stands behind the first k of n bytes, and behind those n
behind : (k n : ℕ) (l : List ℕ) → k ≤ n → n ≤ length l → drop k (take n l) ++ drop n l ≡ drop k l
behind k n l h m =
    let q : k ≤ length (take n l) = omega (arith, length-take-le n l m) in
    sym (drop-append-le k (take n l) (drop n l) q) ∙ ap (drop k) (take-append-drop n l)

made : (op : ℕ) (b : List ℕ) (x : ℕ) (l zs : List ℕ) (n k : ℕ) → n + 1 ≡ length l → Writes b (mid_of 1 n (x ∷ l)) zs (Ok k)
    → set (set (put_mid 1 n (x ∷ l) zs) 0 op) (k + 1) 0x0B ≡ over (op ∷ (b ++ (0x0B ∷ []))) (x ∷ l)
made op b x l zs n k h w =
    let (e, r, z) = told_length w refl in
    let m : length b ≤ n = omega (arith, length-take-le n l (omega arith)) in
    let t : zs ++ drop n l ≡ b ++ drop (length b) l =
    ap (λ (q : List ℕ). q ++ drop n l) z ∙ append_assoc b (drop (length b) (take n l)) (drop n l) ∙ ap (λ (q : List ℕ). b ++ q) (behind (length b) n l m (omega arith)) in
    let d : drop (length b) l ≡ get_or l (length b) 0 ∷ drop (suc (length b)) l = drop-cons l (length b) 0 (omega arith) in
    let i : k + 1 ≡ suc (length b) = omega arith in
    let j : length (b ++ (0x0B ∷ [])) ≡ suc (length b) = length-append b (0x0B ∷ []) ∙ omega arith in
    let left : set (zs ++ drop n l) (length b) 0x0B ≡ b ++ (0x0B ∷ drop (suc (length b)) l) =
    ap (λ (q : List ℕ). set q (length b) 0x0B) (t ∙ ap (λ (q : List ℕ). b ++ q) d) ∙ set-append_seam b (get_or l (length b) 0) (drop (suc (length b)) l) 0x0B in
    let right : (b ++ (0x0B ∷ [])) ++ drop (length (b ++ (0x0B ∷ []))) l ≡ b ++ (0x0B ∷ drop (suc (length b)) l) =
    append_assoc b (0x0B ∷ []) (drop (length (b ++ (0x0B ∷ []))) l) ∙ ap (λ (q : ℕ). b ++ (0x0B ∷ drop q l)) j in
    ap (λ (q : ℕ). set (op ∷ (zs ++ drop n l)) q 0x0B) i ∙ ap (λ (q : List ℕ). op ∷ q) (left ∙ sym right)

-- the byte before and the byte behind
abbrev around : ℕ → List ℕ → List ℕ
around op b = op ∷ (b ++ (0x0B ∷ []))

around_long : (op : ℕ) (b : List ℕ) → length (around op b) ≡ length b + 2
around_long op b = omega (arith, length-append b (0x0B ∷ []))

mid_long : (n : ℕ) (xs : List ℕ) → 2 ≤ length xs → n ≡ length xs - 1 - 1 → length (mid_of 1 n xs) ≡ n
mid_long n xs h e = length-take-le n (drop 1 xs) (omega (arith, length-drop 1 xs))

made_too : (op : ℕ) (b xs : List ℕ) (n k : ℕ) {zs : List ℕ} → 2 ≤ length xs → n ≡ length xs - 1 - 1 → Writes b (mid_of 1 n xs) zs (Ok k)
    → Writes (around op b) xs (set (set (put_mid 1 n xs zs) 0 op) (k + 1) 0x0B) (Ok (k + 2))
made_too op b [] n k h e w = absurd (omega arith)
made_too op b (x ∷ l) n k {zs} h e w =
    let (p, r, _) = told_length w refl in
    let q = around_long op b in
    writes (omega (arith, mid_long n (x ∷ l) h e)) (omega arith) (made op b x l zs n k (omega arith) w)

made_not : (op : ℕ) (b xs : List ℕ) (n : ℕ) {zs : List ℕ} {d : Refusal} → 2 ≤ length xs → n ≡ length xs - 1 - 1 → Writes b (mid_of 1 n xs) zs (Err d)
    → Writes (around op b) xs (put_mid 1 n xs zs) (Err d)
made_not op b xs n {zs} {d} h e w =
    let (p, z) = told_short w refl in
    let same : xs ≡ put_mid 1 n xs zs = sym (ap (put_mid 1 n xs) z ∙ put_same 1 n xs) in
    let short : Writes (around op b) xs xs (Err OutputShort) = writes_not (omega (arith, around_long op b, mid_long n xs h e)) in
    rw (← same, (one_outcome w (writes_not p)).0) short

-- ---- a constant, as it is written

pub const_short : (op : ℕ) (v : ℤ) (xs : List ℕ) → length xs < 2 → Writes (const_of op v) xs xs (Err OutputShort)
const_short op v xs h = writes_not (omega (arith, around_long op (sleb v)))

module _ (op : ℕ) (v : ℤ) (xs : List ℕ) {zs : List ℕ} {r : Written} (f : SFits w64 v) (h : 2 ≤ length xs) (w : Writes (sleb (to_z w64 (of_z w64 v))) (mid_of 1 (length xs - 1 - 1) xs) zs r) where
  number : {t : Written} → r ≡ t → Writes (sleb v) (mid_of 1 (length xs - 1 - 1) xs) zs t
  number e = subst (Writes (sleb v) _ zs) e (rw (to_z-of_z f) at w)

  pub const_not : {d : Refusal} → r ≡ Err d → Writes (const_of op v) xs (put_mid 1 (length xs - 1 - 1) xs zs) (Err d)
  const_not e = made_not op (sleb v) xs (length xs - 1 - 1) h refl (number e)

  module _ {k : ℕ} (e : r ≡ Ok k) where
    abbrev begun : List ℕ
    begun = set (put_mid 1 (length xs - 1 - 1) xs zs) 0 op

    pub const_made : Writes (const_of op v) xs (set begun (k + 1) 0x0B) (Ok (k + 2))
    const_made = made_too op (sleb v) xs (length xs - 1 - 1) k h refl (number e)

    pub const_long : length (set begun (k + 1) 0x0B) ≡ length xs
    const_long = same_long const_made

    pub end_fits : length xs < 2 ^ 63 → Fits w64 (k + 1)
    end_fits l = record { fits = omega (arith, within const_made) }

    pub long_fits : length xs < 2 ^ 63 → Fits w64 (k + 2)
    long_fits l = record { fits = omega (arith, within const_made) }

    pub end_within : k + 1 < length begun
    end_within = omega (arith, within const_made, const_long, length-set begun (k + 1) 0x0B)
