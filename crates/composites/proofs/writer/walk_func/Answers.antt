-- `composites::writer::walk_func` meets its contract: the parameters, and then the results. Assumes nothing.
use Rattle.format.proofs.Handing.{took}
use Rattle.format.specs.Sequence.{second_follows}
use Rattle.composites.proofs.Inner.{func_walk}
use Rattle.composites.proofs.writer.walk_func.Goals as goal

pub returns : goal.returns
returns c = search (took, second_follows func_walk)
