-- What reading finds, as the answers of the functions. Assumes nothing.
use Rattle.std.specs.Prelude.{◌≡◌, refl, Bool, List, ℕ, Option, None, Some}
use Rattle.std.proofs.Common.{arith}
use Rattle.std.proofs.Math.Option as logic
use Rattle.std.proofs.Math.Option.{none, some}
use Rattle.format.specs.Parsed.{Parsed, fail, got}
use Rattle.format.specs.Read.{place_of}
use Rattle.types.specs.declared.AbstractHeapType.{AbstractHeapType}
use Rattle.types.specs.declared.RefType.{RefType}
use Rattle.types.specs.declared.HeapType.{HeapType}

-- what there may be none of
abbrev pub option_ans : {A : Type 0} → logic.Option A → Option A
option_ans none = None
option_ans (some a) = Some a

abbrev pub kind_ans : logic.Option AbstractHeapType → Option AbstractHeapType
kind_ans = option_ans

abbrev pub ref_ans : logic.Option RefType → Option RefType
ref_ans = option_ans

-- the code of what there may be none of, z where there is none
abbrev pub code_or : {A : Type 0} → (A → ℕ) → ℕ → logic.Option A → ℕ
code_or code z none = z
code_or code z (some a) = code a

-- what was read of the bytes s, and the place behind it
abbrev pub found_at : {A : Type 0} → List ℕ → Parsed A → Option (A × ℕ)
found_at s fail = None
found_at s (got a r) = Some (a, place_of s r)

abbrev pub heap_at : List ℕ → Parsed HeapType → Option (HeapType × ℕ)
heap_at = found_at

abbrev pub ref_at : List ℕ → Parsed RefType → Option (RefType × ℕ)
ref_at = found_at

abbrev pub ref_placed : Bool → Option (HeapType × ℕ) → Option (RefType × ℕ)
ref_placed n None = None
ref_placed n (Some x) = Some (record { nullable = n; heap_type = x.0 }, x.1)

-- ---- what an answer tells

pub ans_some : {A : Type 0} (o : logic.Option A) (a : A) → option_ans o ≡ Some a → o ≡ some a
ans_some none a e = let z : ◌≡◌ {A = ℕ} 0 1 = cc in absurd (omega arith)
ans_some (some b) a e = cc

pub ans_none : {A : Type 0} (o : logic.Option A) → option_ans o ≡ None → o ≡ none
ans_none none e = refl
ans_none (some b) e = let z : ◌≡◌ {A = ℕ} 0 1 = cc in absurd (omega arith)

pub kind_some : (o : logic.Option AbstractHeapType) (a : AbstractHeapType) → kind_ans o ≡ Some a → o ≡ some a
kind_some = ans_some

pub kind_none : (o : logic.Option AbstractHeapType) → kind_ans o ≡ None → o ≡ none
kind_none = ans_none

pub ref_some : (o : logic.Option RefType) (r : RefType) → ref_ans o ≡ Some r → o ≡ some r
ref_some = ans_some

pub ref_none : (o : logic.Option RefType) → ref_ans o ≡ None → o ≡ none
ref_none = ans_none
