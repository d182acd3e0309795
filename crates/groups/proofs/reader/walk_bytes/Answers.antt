-- `groups::reader::walk_bytes` meets its contract: a group, or a type alone. Assumes nothing.
use Rattle.format.specs.Walk.{nothing_left}
use Rattle.groups.proofs.Groups.{group_reads, single_reads}
use Rattle.groups.proofs.reader.walk_bytes.Goals as goal

pub returns-in_err-get : goal.returns-in_err-get
returns-in_err-get c = rw c.from_residual.ensures (search (nothing_left, c.in_err-get.ensures.lookup.3))

pub returns-then-branch-eq78 : goal.returns-then-branch-eq78
returns-then-branch-eq78 c = let x = c.in_ok-get.ensures.lookup.3 in search (group_reads, x.0, x.1 0)

pub returns : goal.returns
returns c = let x = c.in_ok-get.ensures.lookup.3 in search (single_reads, x.0, x.1 0)
