-- `elements::reader::walk_bytes` meets its contract: the flag, and what it says follows. Assumes nothing.
use Rattle.format.proofs.Handing.{left}
use Rattle.elements.proofs.Items.{place_not_read, functions_follow, expressions_follow}
use Rattle.elements.proofs.reader.walk_bytes.Goals as goal

pub returns-in_err-p : goal.returns-in_err-p
returns-in_err-p c = let x = c.in_ok-f.ensures.lookup.3 in rw c.from_residual-in_err-p.ensures (search (left, place_not_read, x.0, x.1 0))

pub returns-then-f-lt4 : goal.returns-then-f-lt4
returns-then-f-lt4 c = let x = c.in_ok-f.ensures.lookup.3 in search (c.in_ok-p.was, functions_follow, x.0, x.1 0) fits 3000

pub returns : goal.returns
returns c = let x = c.in_ok-f.ensures.lookup.3 in search (c.in_ok-p.was, expressions_follow, x.0, x.1 0) fits 3000
