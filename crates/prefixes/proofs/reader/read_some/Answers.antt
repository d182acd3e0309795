-- `prefixes::reader::read_some` meets its contract. Assumes nothing.
use Rattle.prefixes.proofs.Bytes.{some_empty, some-none, some_walk}
use Rattle.prefixes.proofs.reader.read_some.Goals as goal

pub returns-in_err-get : goal.returns-in_err-get
returns-in_err-get c = rw c.from_residual.ensures (search (some_empty, c.in_err-get.ensures.lookup.3))

pub returns-then-branch-eq0 : goal.returns-then-branch-eq0
returns-then-branch-eq0 c = let x = c.in_ok-get.ensures.lookup.3 in search (some-none, x.0, x.1 0)

pub returns : goal.returns
returns c = let x = c.in_ok-get.ensures.lookup.3 in search (some_walk, x.0, x.1 0)
