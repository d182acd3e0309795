-- `composites::reader::read_func` meets its contract: the parameters, and then the results. Assumes nothing.
use Rattle.format.proofs.Handing.{took}
use Rattle.format.specs.Sequence.{second_follows}
use Rattle.composites.proofs.Inner.{func_read}
use Rattle.composites.proofs.reader.read_func.Goals as goal

pub returns : goal.returns
returns c = search (took, second_follows func_read)
