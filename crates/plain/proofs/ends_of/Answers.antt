-- `plain::ends_of` meets its contract. Assumes nothing.
use Rattle.plain.proofs.Blocks.{bits_ends}
use Rattle.plain.proofs.ends_of.Goals as goal

pub returns : goal.returns
returns g c = bits_ends c.requires c.bits_of.ensures c.bits_of-2.ensures
