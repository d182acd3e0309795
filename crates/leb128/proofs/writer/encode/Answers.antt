-- `leb128::writer::encode` meets its contract: a number that a last byte holds is that byte. Assumes nothing.
use Rattle.std.proofs.Common.{◌≡◌, length, arith}
use Rattle.std.proofs.lemmas.Grind.{common_steps}
use Rattle.leb128.proofs.Writing.{group_fits, byte_short, byte_put}
use Rattle.leb128.proofs.writer.encode.Goals as goal

pub returns-then-is_empty : goal.returns-then-is_empty
returns-then-is_empty c = let h : length c.args.out.now ≡ 0 = grind (arith, common_steps) in search byte_short

pub overflow_cast-out : goal.overflow_cast-out
overflow_cast-out c = search group_fits

pub returns : goal.returns
returns c = let h : length c.args.out.now ≡ 0 → ⊥ = grind (arith, common_steps) in search byte_put
