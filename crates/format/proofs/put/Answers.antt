-- `format::put` meets its contract: a store at the front, where there is one. Assumes nothing.
use Rattle.std.proofs.Common.{arith}
use Rattle.std.proofs.lemmas.Grind.{common_steps}
use Rattle.format.specs.Write.{writes_not, write_one}
use Rattle.format.proofs.put.Goals as goal

pub returns-then-is_empty : goal.returns-then-is_empty
returns-then-is_empty g c = writes_not (grind (arith, common_steps))

pub returns : goal.returns
returns g c = write_one _ _ (grind (arith, common_steps))
