-- `composites::reader::read_inner` meets its contract: by its kind. Assumes nothing.
use Rattle.composites.specs.Composite.{func, array, struct, cont}
use Rattle.composites.proofs.Inner.{kind_reads}
use Rattle.composites.proofs.reader.read_inner.Goals as goal

pub returns-in-96 : goal.returns-in-96
returns-in-96 c = let x = c.in_ok-get.ensures.lookup.3 in search (kind_reads func, x.0, x.1 0)

pub returns-in-94 : goal.returns-in-94
returns-in-94 c = let x = c.in_ok-get.ensures.lookup.3 in search (kind_reads array, x.0, x.1 0)

pub returns-in-95 : goal.returns-in-95
returns-in-95 c = let x = c.in_ok-get.ensures.lookup.3 in search (kind_reads struct, x.0, x.1 0)

pub returns-in-93 : goal.returns-in-93
returns-in-93 c = let x = c.in_ok-get.ensures.lookup.3 in search (kind_reads cont, x.0, x.1 0)
