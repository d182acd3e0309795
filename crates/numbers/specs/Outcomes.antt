-- How tightly each entry is bound: any two outcomes that its contract allows are equal; and what was written is read back. Assumes nothing.
use Rattle.std.specs.Prelude.{◌≡◌, refl, true, List, ℕ, ◌<◌, ◌^◌, ℤ, pos, length}
use Rattle.std.proofs.Common.{sym, ◌∙◌}
use Rattle.format.specs.Read.{Outcome, found, reading, answer_of, one_answer}
use Rattle.format.specs.Write.{Written, Writes, one_outcome}
use Rattle.format.specs.RoundTrip.{written_read}
use Rattle.std.specs.Prelude.{Option, None, Some, Ok}
use Rattle.leb128.specs.Leb.{signed, within, uleb, sleb}
use Rattle.leb128.proofs.Formats.{u_n, s_n, index}
use Rattle.numbers.specs.Answers.{read_as}

-- ---- writers: encode_u32, encode_u64, encode_i32, encode_i64, encode_index

pub one_written : {b xs ys zs : List ℕ} {r s : Written} → Writes b xs ys r → Writes b xs zs s → (r ≡ s) × (ys ≡ zs)
one_written p q = one_outcome p q

-- ---- readers: the outcome tells the answer

read_back : {A : Type 0} (zero : A) (r : Option (A × ℕ)) → answer_of (λ a p. Some (a, p)) None (read_as zero r) ≡ r
read_back zero (Some r) = refl
read_back zero None = refl

-- decode_u32, decode_u64, decode_i32, decode_i64, decode_index
pub one_read : {A : Type 0} (zero : A) {w : Outcome A} {r s : Option (A × ℕ)} → read_as zero r ≡ w → read_as zero s ≡ w → r ≡ s
one_read zero p q = one_answer (read_as zero) (λ a p. Some (a, p)) None (read_back zero) p q

-- ---- encoding_size

pub one_size : (n : ℕ) {r s : ℕ} → r ≡ length (uleb n) → s ≡ length (uleb n) → r ≡ s
one_size n p q = p ∙ sym q

-- ---- there and back, over the width: whatever stood in the buffer before and behind

pub unsigned_there_and_back : (N v : ℕ) (xs ys : List ℕ) (n : ℕ) → v < 2 ^ N → Writes (uleb v) xs ys (Ok n) → reading 0 ys ((u_n N).parse ys) ≡ found v n
unsigned_there_and_back N v xs ys n h w = written_read (u_n N) 0 v xs ys n h w

pub signed_there_and_back : (N : ℕ) (v : ℤ) (xs ys : List ℕ) (n : ℕ) → within signed N v ≡ true → Writes (sleb v) xs ys (Ok n) → reading (pos 0) ys ((s_n N).parse ys) ≡ found v n
signed_there_and_back N v xs ys n h w = written_read (s_n N) (pos 0) v xs ys n h w

pub index_there_and_back : (v : ℕ) (xs ys : List ℕ) (n : ℕ) → v < 2 ^ 32 → Writes (sleb (pos v)) xs ys (Ok n) → reading 0 ys (index.parse ys) ≡ found v n
index_there_and_back v xs ys n h w = written_read index 0 v xs ys n h w
