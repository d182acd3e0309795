-- The types that have words are those that have bytes (document 01, Records and Types to bytes): an index takes 32 bits in both. Assumes nothing.
use Rattle.std.specs.Prelude.{◌↔◌, Bool, true, false, ◌<◌, ◌^◌}
use Rattle.std.proofs.Common.{arith}
use Rattle.format.specs.Basic.{tag, flag}
use Rattle.format.specs.Alternatives.{is}
use Rattle.format.specs.Agree.{Agree, agree_same, pair_agree, alt_agree}
use Rattle.types.specs.Words.{heap_index, ref_words}
use Rattle.types.specs.Bytes.{abs_bytes, ref_bytes}
use Rattle.types.specs.Vals.{num_words, num_bytes, val_to, is_ref_byte, val_words, val_bytes, packed_words, packed_bytes, storage_to, is_packed, is_packed_byte, storage_words, storage_bytes, field_words, field_bytes}
use Rattle.types.specs.declared.AbstractHeapType.{AbstractHeapType}
use Rattle.types.specs.declared.HeapType.{HeapType}
use Rattle.types.specs.declared.HeapType.TheVariants.{Abstract, Concrete, Exact}

-- every abstract heap type has bytes
abs_ok : (s : Bool) (a : AbstractHeapType) → abs_bytes.Ok (s, a)
abs_ok true a = (tt, tt)
abs_ok false a = (tt, tt)

pub ref_agree : Agree ref_words ref_bytes
ref_agree r = go r.nullable r.heap_type
  where
    go : (n : Bool) (t : HeapType) → (heap_index t < 2 ^ 32) ↔ ref_bytes.Ok (record { nullable = n; heap_type = t })
    go true (Abstract s a) = (λ h. abs_ok s a, λ h. omega arith)
    go true (Concrete x) = (λ h. h, λ h. h)
    go true (Exact x) = (λ h. h, λ h. h)
    go false (Abstract s a) = (λ h. abs_ok s a, λ h. omega arith)
    go false (Concrete x) = (λ h. h, λ h. h)
    go false (Exact x) = (λ h. h, λ h. h)

pub val_agree : Agree val_words val_bytes
val_agree v = alt_agree (tag 5 ref_words) ref_bytes num_words num_bytes ref_agree (λ n. (λ h. tt, λ h. (tt, tt))) (is 5) is_ref_byte (val_to v)

pub storage_agree : Agree storage_words storage_bytes
storage_agree v = alt_agree packed_words packed_bytes val_words val_bytes (λ p. (λ h. tt, λ h. (tt, tt))) val_agree is_packed is_packed_byte (storage_to v)

pub field_agree : Agree field_words field_bytes
field_agree f = pair_agree storage_words storage_bytes flag flag storage_agree (agree_same flag) (f.element_type, f.mutable)
