-- `numbers::decode_i32` meets its contract: a number of 32 bits fits its type. Assumes nothing.
use Rattle.format.proofs.Handing.{took}
use Rattle.numbers.proofs.Answering.{found_i32, fits_i32}
use Rattle.numbers.proofs.decode_i32.Goals as goal

pub overflow_cast-result : goal.overflow_cast-result
overflow_cast-result c = search (c.in_ok-v.was, fits_i32)

pub returns : goal.returns
returns c = search (took, found_i32)
