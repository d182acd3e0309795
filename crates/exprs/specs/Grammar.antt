-- Constant expressions (WebAssembly Core Specification 3.0, Binary Format, Instructions, Expressions), cut to the instructions of document 01 (Items to
-- bytes, Constant expression). A byte is a number below 2 ^ 8.
use Rattle.std.specs.Prelude.{◌≡◌, List, [], ◌∷◌, ◌++◌, ℕ, ◌<◌, ◌≤◌, ◌^◌, ℤ, length}
use Rattle.format.specs.Lists.{All}
use Rattle.leb128.specs.Integers.{U, S}

-- so many bytes
pub record Bytes (n : ℕ) (o : List ℕ) : Type 0 where
  pub long : length o ≡ n
  pub each : All (λ b. b < 2 ^ 8) o

-- 41 n:s32, 42 n:s64, 43 z:f32, 44 z:f64, 23 x:u32, D0 ht with an abstract heap type, D2 x:u32, and add, sub and mul
pub data Instr : List ℕ → Type 0 where
  i32_const : (o : List ℕ) (z : ℤ) → S 32 o z → Instr (0x41 ∷ o)
  i64_const : (o : List ℕ) (z : ℤ) → S 64 o z → Instr (0x42 ∷ o)
  f32_const : (o : List ℕ) → Bytes 4 o → Instr (0x43 ∷ o)
  f64_const : (o : List ℕ) → Bytes 8 o → Instr (0x44 ∷ o)
  global_get : (o : List ℕ) (x : ℕ) → U 32 o x → Instr (0x23 ∷ o)
  ref_null : (b : ℕ) → 0x68 ≤ b → b ≤ 0x75 → Instr (0xD0 ∷ b ∷ [])
  ref_func : (o : List ℕ) (x : ℕ) → U 32 o x → Instr (0xD2 ∷ o)
  i32_add : Instr (0x6A ∷ [])
  i32_sub : Instr (0x6B ∷ [])
  i32_mul : Instr (0x6C ∷ [])
  i64_add : Instr (0x7C ∷ [])
  i64_sub : Instr (0x7D ∷ [])
  i64_mul : Instr (0x7E ∷ [])

-- any run of instructions, and then 0B
pub data Expr : List ℕ → Type 0 where
  stop : Expr (0x0B ∷ [])
  more : (a e : List ℕ) → Instr a → Expr e → Expr (a ++ e)
