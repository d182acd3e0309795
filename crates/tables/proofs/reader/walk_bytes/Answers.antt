-- `tables::reader::walk_bytes` meets its contract: by the first bytes. Assumes nothing.
use Rattle.format.specs.Walk.{nothing_left}
use Rattle.tables.proofs.Tables.{bare_reads, init_short, init_other, init_reads}
use Rattle.tables.proofs.reader.walk_bytes.Goals as goal

pub returns-in_err-get : goal.returns-in_err-get
returns-in_err-get c = rw c.from_residual.ensures (search (nothing_left, c.in_err-get.ensures.lookup.3))

pub returns-then-branch-ne64 : goal.returns-then-branch-ne64
returns-then-branch-ne64 c = let x = c.in_ok-get.ensures.lookup.3 in search (bare_reads, x.0, x.1 0)

pub returns-in_err-get-2 : goal.returns-in_err-get-2
returns-in_err-get-2 c = let x = c.in_ok-get.ensures.lookup.3 in rw c.from_residual-in_err-get-2.ensures (search (init_short, x.0, x.1 0, c.in_err-get-2.ensures.lookup.3))

pub returns-then-branch-ne0 : goal.returns-then-branch-ne0
returns-then-branch-ne0 c = let x = c.in_ok-get.ensures.lookup.3 in let y = c.in_ok-get-2.ensures.lookup.3 in search (init_other, x.0, x.1 0, y.0, y.1 0)

pub returns : goal.returns
returns c = let x = c.in_ok-get.ensures.lookup.3 in let y = c.in_ok-get-2.ensures.lookup.3 in search (init_reads, x.0, x.1 0, y.0, y.1 0)
