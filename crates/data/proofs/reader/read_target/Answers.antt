-- `data::reader::read_target` meets its contract: by the first byte. Assumes nothing.
use Rattle.format.specs.Walk.{nothing_left}
use Rattle.data.proofs.Targets.{passive_reads, active_reads}
use Rattle.data.proofs.reader.read_target.Goals as goal

pub returns-in_err-get : goal.returns-in_err-get
returns-in_err-get c = rw c.from_residual.ensures (search (nothing_left, c.in_err-get.ensures.lookup.3))

pub returns-then-branch-eq1 : goal.returns-then-branch-eq1
returns-then-branch-eq1 c = let x = c.in_ok-get.ensures.lookup.3 in search (passive_reads, x.0, x.1 0)

pub returns : goal.returns
returns c = let x = c.in_ok-get.ensures.lookup.3 in search (active_reads, x.0, x.1 0)
