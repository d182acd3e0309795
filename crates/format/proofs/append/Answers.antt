-- `format::append` meets its contract: the leaf was lent the part from the current end on. Assumes nothing.
use Rattle.format.specs.Count.{adds_lent}
use Rattle.format.proofs.append.Goals as goal

pub returns : goal.returns
returns g c = search adds_lent
