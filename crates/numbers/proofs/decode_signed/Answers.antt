-- `numbers::decode_signed` meets its contract: the number of its sign and its magnitude. Assumes nothing.
use Rattle.numbers.proofs.Answering.{integer_fits}
use Rattle.numbers.proofs.decode_signed.Goals as goal

pub number-requires : goal.number-requires
number-requires c = search (c.in_ok-v.was, integer_fits)
