-- Heap and reference types as bytes (document 01, Types to bytes; Core Specification 3.0, Binary Format, Types, Heap Types and Reference Types; 65 and 62
-- are the source's). Assumes nothing.
use Rattle.std.specs.Prelude.{◌≡◌, refl, ◌⊎◌, Bool, true, false, ℕ, ◌/◌, ◌<◌, ◌≤◌}
use Rattle.std.proofs.Common.{inl, inr, arith, eq-eqb, ne_eqb}
use Rattle.format.specs.Format.{Format}
use Rattle.format.specs.Basic.{tag}
use Rattle.format.specs.Combine.{iso}
use Rattle.format.specs.Alternatives.{Heads, is, alt, heads_tag, heads_alt, heads_code}
use Rattle.format.specs.Leads.{led, mark, heads_mark}
use Rattle.leb128.proofs.Formats.{u32, index, heads_index}
use Rattle.types.specs.Abstract.{byte_of, byte_range, abstract_byte}
use Rattle.types.specs.declared.AbstractHeapType.{AbstractHeapType}
use Rattle.types.specs.declared.HeapType.{HeapType}
use Rattle.types.specs.declared.HeapType.TheVariants.{Abstract, Concrete, Exact}
use Rattle.types.specs.declared.RefType.{RefType}

-- ---- an abstract heap type, 65 before it where it is shared

-- the byte of an abstract heap type is none of the others that begin a type
pub byte_not : (k : ℕ) → k < 0x68 → (a : AbstractHeapType) → is k (byte_of a) ≡ false
byte_not k h a = let l = byte_range a in ne_eqb (byte_of a) k (λ e. omega arith)

abbrev pub Abs : Type 0
Abs = Bool × AbstractHeapType

pub unshared : Heads abstract_byte (mark 0x65).begins false
unshared = heads_code byte_of (mark 0x65).begins false (λ a. rw (byte_not 0x65 (omega arith) a))

abbrev pub abs_bytes : Format Abs
abs_bytes = led (mark 0x65) abstract_byte unshared

pub heads_abs : (p : ℕ → Bool) (v : Bool) → p 0x65 ≡ v → ((a : AbstractHeapType) → p (byte_of a) ≡ v) → Heads abs_bytes p v
heads_abs p v h k = heads_mark 0x65 abstract_byte unshared p v h (heads_code byte_of p v k)

abbrev pub abs_of : Abs → HeapType
abs_of p = Abstract p.0 p.1

-- ---- an index: exact, 62 and unsigned (inl); concrete, a signed number of 64 bits (inr)

pub index_is_not : (k : ℕ) → 0x40 ≤ k → k < 0x80 → Heads index (is k) false
index_is_not k l h = heads_index (is k) false (λ x a. ne_eqb x k (λ e. omega arith)) (λ x a b. ne_eqb x k (λ e. omega arith))

abbrev pub idx_bytes : Format (ℕ ⊎ ℕ)
idx_bytes = alt (is 0x62) (tag 0x62 u32) index (heads_tag 0x62 u32 (is 0x62) true refl) (index_is_not 0x62 (omega arith) (omega arith))

abbrev pub idx_from : ℕ ⊎ ℕ → HeapType
idx_from (inl x) = Exact x
idx_from (inr x) = Concrete x

-- ---- a heap type. An index never begins with 40 to 7F, and an abstract heap type always does

abbrev pub short : ℕ → Bool
short x = is 1 (x / 64)

pub heads_short : Heads abs_bytes short true
heads_short = heads_abs short true refl (λ a. let l = byte_range a in eq-eqb (byte_of a / 64) 1 (omega arith))

pub index_long : Heads index short false
index_long = heads_index short false (λ x a. ne_eqb (x / 64) 1 (λ e. omega arith)) (λ x a b. ne_eqb (x / 64) 1 (λ e. omega arith))

abbrev pub HeapSum : Type 0
HeapSum = ℕ ⊎ (Abs ⊎ ℕ)

abbrev pub heap_to : HeapType → HeapSum
heap_to (Abstract s a) = inr (inl (s, a))
heap_to (Concrete x) = inr (inr x)
heap_to (Exact x) = inl x

abbrev pub heap_from : HeapSum → HeapType
heap_from (inl x) = Exact x
heap_from (inr (inl p)) = abs_of p
heap_from (inr (inr x)) = Concrete x

pub heap_from_to : (t : HeapType) → heap_from (heap_to t) ≡ t
heap_from_to (Abstract s a) = refl
heap_from_to (Concrete x) = refl
heap_from_to (Exact x) = refl

pub heap_to_from : (w : HeapSum) → heap_to (heap_from w) ≡ w
heap_to_from (inl x) = refl
heap_to_from (inr (inl p)) = refl
heap_to_from (inr (inr x)) = refl

abbrev pub plain_bytes : Format (Abs ⊎ ℕ)
plain_bytes = alt short abs_bytes index heads_short index_long

pub plain_not_exact : Heads plain_bytes (is 0x62) false
plain_not_exact =
    heads_alt short abs_bytes index (is 0x62) false (heads_abs (is 0x62) false refl (byte_not 0x62 (omega arith))) (index_is_not 0x62 (omega arith) (omega arith))

abbrev pub heap_bytes : Format HeapType
heap_bytes =
    iso (alt (is 0x62) (tag 0x62 u32) plain_bytes (heads_tag 0x62 u32 (is 0x62) true refl) plain_not_exact) heap_to heap_from heap_from_to heap_to_from

-- ---- a reference type: 64 and a heap type, not nullable; 63 and an index, nullable; an abstract heap type alone, nullable

abbrev pub NullSum : Type 0
NullSum = (ℕ ⊎ ℕ) ⊎ Abs

abbrev pub null_to : HeapType → NullSum
null_to (Abstract s a) = inr (s, a)
null_to (Concrete x) = inl (inr x)
null_to (Exact x) = inl (inl x)

abbrev pub null_from : NullSum → HeapType
null_from (inl w) = idx_from w
null_from (inr p) = abs_of p

abbrev pub RefSum : Type 0
RefSum = HeapType ⊎ NullSum

abbrev pub ref_to_sum : Bool → HeapType → RefSum
ref_to_sum false t = inl t
ref_to_sum true t = inr (null_to t)

abbrev pub null_of : HeapType → RefType
null_of t = record { nullable = true; heap_type = t }

abbrev pub non_null_of : HeapType → RefType
non_null_of t = record { nullable = false; heap_type = t }

abbrev pub ref_from_sum : RefSum → RefType
ref_from_sum (inl t) = non_null_of t
ref_from_sum (inr w) = null_of (null_from w)

null_from_to : (t : HeapType) → null_from (null_to t) ≡ t
null_from_to (Abstract s a) = refl
null_from_to (Concrete x) = refl
null_from_to (Exact x) = refl

null_to_from : (w : NullSum) → null_to (null_from w) ≡ w
null_to_from (inl (inl x)) = refl
null_to_from (inl (inr x)) = refl
null_to_from (inr p) = refl

pub ref_from_to : (n : Bool) (t : HeapType) → ref_from_sum (ref_to_sum n t) ≡ record { nullable = n; heap_type = t }
ref_from_to false t = refl
ref_from_to true t = rw (null_from_to t)

pub ref_to_from : (w : RefSum) → ref_to_sum (ref_from_sum w).nullable (ref_from_sum w).heap_type ≡ w
ref_to_from (inl t) = refl
ref_to_from (inr w) = rw (null_to_from w)

abbrev pub null_bytes : Format NullSum
null_bytes =
    alt (is 0x63) (tag 0x63 idx_bytes) abs_bytes (heads_tag 0x63 idx_bytes (is 0x63) true refl) (heads_abs (is 0x63) false refl (byte_not 0x63 (omega arith)))

pub heads_null : (p : ℕ → Bool) (v : Bool) → p 0x63 ≡ v → p 0x65 ≡ v → ((a : AbstractHeapType) → p (byte_of a) ≡ v) → Heads null_bytes p v
heads_null p v n h k = heads_alt (is 0x63) (tag 0x63 idx_bytes) abs_bytes p v (heads_tag 0x63 idx_bytes p v n) (heads_abs p v h k)

abbrev pub ref_bytes : Format RefType
ref_bytes =
    iso
    (alt (is 0x64) (tag 0x64 heap_bytes) null_bytes (heads_tag 0x64 heap_bytes (is 0x64) true refl) (heads_null (is 0x64) false refl refl (byte_not 0x64 (omega arith))))
    (λ r. ref_to_sum r.nullable r.heap_type) ref_from_sum (λ r. ref_from_to r.nullable r.heap_type) ref_to_from

pub heads_ref : (p : ℕ → Bool) (v : Bool) → p 0x64 ≡ v → p 0x63 ≡ v → p 0x65 ≡ v → ((a : AbstractHeapType) → p (byte_of a) ≡ v) → Heads ref_bytes p v
heads_ref p v m n h k r ok =
    heads_alt (is 0x64) (tag 0x64 heap_bytes) null_bytes p v (heads_tag 0x64 heap_bytes p v m) (heads_null p v n h k) (ref_to_sum r.nullable r.heap_type) ok

-- whether a heap type stands alone where it is nullable
abbrev pub is_abs : HeapType → Bool
is_abs (Abstract s a) = true
is_abs (Concrete x) = false
is_abs (Exact x) = false
