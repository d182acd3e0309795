-- What the check leaves of `hex_text::digits::decode`.
use Rattle.std.proofs.Common.{arith}
use Rattle.hex_text.proofs.Decoding.{decodes_odd, decodes_short, high_wrong, low_wrong, both_right, decoding_done}
use Rattle.hex_text.specs.Hex.{digit_only}
use Rattle.hex_text.proofs.digits.decode.Goals as goal

pub returns-then-line-eq1 : goal.returns-then-line-eq1
returns-then-line-eq1 c = search decodes_odd

pub returns-then-out-n : goal.returns-then-out-n
returns-then-out-n c = search decodes_short

pub returns-in_err-high : goal.returns-in_err-high
returns-in_err-high c = rw c.from_residual.ensures (high_wrong c.loop-i.invariant (search) c.type_inv.line c.in_err-high.ensures)

pub returns-in_err-low : goal.returns-in_err-low
returns-in_err-low c =
    rw c.from_residual-in_err-low.ensures (low_wrong c.loop-i.invariant (search) c.type_inv.line c.in_ok-high.ensures c.in_err-low.ensures)

pub overflow_mul-out : goal.overflow_mul-out
overflow_mul-out c = omega (arith, (digit_only _ _ c.in_ok-high.ensures).0)

pub overflow_add-out : goal.overflow_add-out
overflow_add-out c = omega (arith, (digit_only _ _ c.in_ok-high.ensures).0, (digit_only _ _ c.in_ok-low.ensures).0)

pub loop-i-preserved : goal.loop-i-preserved
loop-i-preserved c = both_right c.loop-i.invariant (search) c.type_inv.line c.in_ok-high.ensures c.in_ok-low.ensures (search)

pub returns : goal.returns
returns c = search decoding_done
