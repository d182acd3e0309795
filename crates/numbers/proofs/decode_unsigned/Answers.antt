-- `numbers::decode_unsigned` meets its contract: a number of one byte is that byte, and any other what `leb128::decode` finds. Assumes nothing.
use Rattle.numbers.proofs.Answering.{unsigned_none, unsigned_one, unsigned_found}
use Rattle.numbers.proofs.decode_unsigned.Goals as goal

pub returns-in_err-b : goal.returns-in_err-b
returns-in_err-b c = rw c.from_residual.ensures (search (unsigned_none, c.in_err-b.ensures.lookup.3))

pub returns-then-b-lt128 : goal.returns-then-b-lt128
returns-then-b-lt128 c = let x = c.in_ok-b.ensures.lookup.3 in search (unsigned_one, x.0, x.1 0, c.from.ensures)

pub returns : goal.returns
returns c = search (c.in_ok-v.was, unsigned_found)
