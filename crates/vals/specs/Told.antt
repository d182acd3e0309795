-- What the first byte or word of a value or storage type tells, as the answers of the functions. Assumes nothing.
use Rattle.std.specs.Prelude.{ℕ, Option, None, Some}
use Rattle.std.proofs.Math.Option as logic
use Rattle.std.proofs.Math.Option.{none, some}
use Rattle.format.specs.Basic.{find}
use Rattle.types.specs.Vals.{nums, num_byte, num_kind, packeds, packed_byte, packed_kind}

-- the code of what was found, or else another answer
abbrev pub code_else : {A : Type 0} → (A → ℕ) → Option ℕ → logic.Option A → Option ℕ
code_else code z none = z
code_else code z (some a) = Some (code a)

abbrev pub code_told : {A : Type 0} → (A → ℕ) → logic.Option A → Option ℕ
code_told code = code_else code None

-- the kind of a storage type that is one byte, x
abbrev pub kind_told : ℕ → Option ℕ
kind_told x = code_else packed_kind (code_told num_kind (find num_byte nums x)) (find packed_byte packeds x)
