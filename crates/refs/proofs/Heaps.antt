-- What is appended of heap and reference types, case by case: their bytes. Assumes nothing.
use mathlib.Core.Path.{◌≡◌, refl, sym, ◌∙◌}
use mathlib.Core.Bool.{Bool, true, false, true≢false}
use mathlib.Core.List.{List, [], ◌∷◌}
use Prim.Native.Nat.{ℕ}
use Rattle.format.specs.Count.{Appends, adds_eq, adds_seq}
use Rattle.format.specs.declared.Done.{Done}
use Rattle.leb128.specs.Leb.{uleb}
use Rattle.types.specs.Abstract.{byte_of}
use Rattle.types.specs.Bytes.{heap_bytes, ref_bytes, is_abs}
use Rattle.types.specs.declared.AbstractHeapType.{AbstractHeapType}
use Rattle.types.specs.declared.RefType.{RefType}
use Rattle.types.specs.declared.HeapType.{HeapType}
use Rattle.types.specs.declared.HeapType.TheVariants.{Abstract, Concrete, Exact}

alone_is : (n : Bool) (t : HeapType) → n ≡ true → is_abs t ≡ true → heap_bytes.print t ≡ ref_bytes.print (record { nullable = n; heap_type = t })
alone_is true (Abstract s a) e h = refl
alone_is true (Concrete x) e h = absurd (true≢false (sym h))
alone_is true (Exact x) e h = absurd (true≢false (sym h))
alone_is false t e h = absurd (true≢false (sym e))

null_is : (n : Bool) (t : HeapType) → n ≡ true → is_abs t ≡ false → 0x63 ∷ heap_bytes.print t ≡ ref_bytes.print (record { nullable = n; heap_type = t })
null_is true (Abstract s a) e h = absurd (true≢false h)
null_is true (Concrete x) e h = refl
null_is true (Exact x) e h = refl
null_is false t e h = absurd (true≢false (sym e))

-- ---- what was appended: laws that leave out all that `search` finds

module _ {old : List ℕ} {s : Done} {cur : List ℕ} {u : Done} {new : List ℕ} {v : Done} where
  module _ {t : HeapType} where
    pub shared_added : {f : Bool} {a : AbstractHeapType} {b : ℕ} → t ≡ Abstract f a → f ≡ true → b ≡ byte_of a → Appends (0x65 ∷ []) old s cur u → Appends (b ∷ []) cur u new v
        → Appends (heap_bytes.print t) old s new v
    shared_added e g h x y = adds_eq (rw (e, g, h)) refl (adds_seq x y)

    pub exact_added : {x : ℕ} → t ≡ Exact x → Appends (0x62 ∷ []) old s cur u → Appends (uleb x) cur u new v → Appends (heap_bytes.print t) old s new v
    exact_added e y z = adds_eq (rw e) refl (adds_seq y z)

  module _ (r : RefType) where
    pub null_added : {f : Bool} → r.nullable ≡ true → f ≡ is_abs r.heap_type → f ≡ false → Appends (0x63 ∷ []) old s cur u → Appends (heap_bytes.print r.heap_type) cur u new v
        → Appends (ref_bytes.print r) old s new v
    null_added n d e x y = adds_eq (null_is r.nullable r.heap_type n (sym d ∙ e)) refl (adds_seq x y)

    pub non_null_added : r.nullable ≡ false → Appends (0x64 ∷ []) old s cur u → Appends (heap_bytes.print r.heap_type) cur u new v → Appends (ref_bytes.print r) old s new v
    non_null_added n x y = adds_eq (rw n) refl (adds_seq x y)

pub alone_added : {old : List ℕ} {s : Done} {new : List ℕ} {v : Done} (r : RefType) {f : Bool} → r.nullable ≡ true → f ≡ is_abs r.heap_type → f ≡ true → Appends (heap_bytes.print r.heap_type) old s new v → Appends (ref_bytes.print r) old s new v
alone_added r n d e x = adds_eq (alone_is r.nullable r.heap_type n (sym d ∙ e)) refl x
