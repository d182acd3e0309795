-- The bytes of heap and reference types at a place: by the first of them, what they are. Assumes nothing.
use mathlib.Core.Path.{◌≡◌, refl, ap, ◌∙◌}
use Rattle.std.specs.Prelude.{Option}
use mathlib.Core.Bool.{Bool, true, false}
use mathlib.Core.List.{List}
use Prim.Native.Nat.{ℕ, ◌+◌, ◌/◌, ◌<◌}
use lib.ListN.{length, get_or, drop}
use borrow.Author.Tests.{ne_eqb}
use Rattle.format.specs.Parsed.{Parsed, fail, got, map, map-map}
use Rattle.format.specs.Read.{drop_more}
use Rattle.types.specs.Bytes.{abs_of, abs_bytes, heap_bytes, ref_bytes}
use Rattle.types.specs.Answers.{heap_at, ref_at, ref_placed}
use Rattle.types.specs.declared.HeapType.{HeapType}
use Rattle.types.specs.declared.RefType.{RefType}

-- the answer for a reference, from that for a heap type
placed_is : (s : List ℕ) (n : Bool) (m : Parsed HeapType) → ref_placed n (heap_at s m) ≡ ref_at s (map (λ t. record { nullable = n; heap_type = t }) m)
placed_is s n fail = refl
placed_is s n (got t r) = refl

-- ---- what the finders tell: found is what was found as a heap type, and x is the byte at the place

module _ (w : List ℕ) (at : ℕ) (k : at < length w) (found : Option (HeapType × ℕ)) (x : ℕ) (y : x ≡ get_or w at 0) where
  pub abstract_found : (x ≡ 0x62 → ⊥) → x / 64 ≡ 1 → found ≡ heap_at w (map abs_of (abs_bytes.parse (drop at w))) → found ≡ heap_at w (heap_bytes.parse (drop at w))
  abstract_found n e d = d ∙ rw (drop_more w at k, ← y, ne_eqb x 0x62 n, e) (simp map-map)

  module _ (r : Option (RefType × ℕ)) where
    pub non_null_found : x ≡ 0x64 → found ≡ heap_at w (heap_bytes.parse (drop (at + 1) w)) → r ≡ ref_placed false found → r ≡ ref_at w (ref_bytes.parse (drop at w))
    non_null_found e d p = p ∙ ap (ref_placed false) d ∙ placed_is w false (heap_bytes.parse (drop (at + 1) w)) ∙ rw (drop_more w at k, ← y, e) (simp map-map)

    pub alone_found : (x ≡ 0x64 → ⊥) → (x ≡ 0x63 → ⊥) → found ≡ heap_at w (map abs_of (abs_bytes.parse (drop at w))) → r ≡ ref_placed true found → r ≡ ref_at w (ref_bytes.parse (drop at w))
    alone_found n m d p =
        p ∙ ap (ref_placed true) d ∙ placed_is w true (map abs_of (abs_bytes.parse (drop at w)))
        ∙ rw (drop_more w at k, ← y, ne_eqb x 0x64 n, ne_eqb x 0x63 m) (simp map-map)
