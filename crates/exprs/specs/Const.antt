-- The expressions that are made from a number (document 01, Items to bytes): 41 n 0B and 42 n 0B, n in its shortest form. Assumes nothing.
use Rattle.std.specs.Prelude.{◌≡◌, ◌↔◌, true, List, [], ◌∷◌, ◌++◌, ℕ, ◌+◌, ◌≤◌, ℤ, length}
use Rattle.std.proofs.Common.{arith, length-append}
use Rattle.format.specs.Write.{Writes, outcome, zero_exactly as written-zero}
use Rattle.format.specs.Write.{Written}
use Rattle.leb128.specs.Leb.{signed, within, sleb}
use Rattle.leb128.proofs.Standard.{s_written}
use Rattle.exprs.specs.Grammar.{i32_const, i64_const, Expr, stop, more}

abbrev pub const_of : ℕ → ℤ → List ℕ
const_of op z = op ∷ (sleb z ++ (0x0B ∷ []))

-- they are expressions
pub i32_expr : (z : ℤ) → within signed 32 z ≡ true → Expr (const_of 0x41 z)
i32_expr z h = more (0x41 ∷ sleb z) (0x0B ∷ []) (i32_const (sleb z) z (s_written 32 z h)) stop

pub i64_expr : (z : ℤ) → within signed 64 z ≡ true → Expr (const_of 0x42 z)
i64_expr z h = more (0x42 ∷ sleb z) (0x0B ∷ []) (i64_const (sleb z) z (s_written 64 z h)) stop

-- they are made exactly where there is room for the number and two bytes more
pub zero_exactly : (op : ℕ) (z : ℤ) {xs ys : List ℕ} {r : Written} → Writes (const_of op z) xs ys r → ((outcome r ys).number ≡ 0) ↔ (length (sleb z) + 2 ≤ length xs)
zero_exactly op z w =
    let n : length (const_of op z) ≡ length (sleb z) + 2 = simp length-append (omega arith) in
    rw n at (written-zero w)
