-- `composites::writer::walk_inner` meets its contract: by its kind. Assumes nothing.
use Rattle.composites.specs.Composite.{func, array, struct, cont}
use Rattle.composites.proofs.Inner.{kind_walks}
use Rattle.composites.proofs.writer.walk_inner.Goals as goal

pub returns-in-0 : goal.returns-in-0
returns-in-0 c = let x = c.in_ok-get.ensures.lookup.3 in search (kind_walks func, x.0, x.1 0)

pub returns-in-1 : goal.returns-in-1
returns-in-1 c = let x = c.in_ok-get.ensures.lookup.3 in search (kind_walks array, x.0, x.1 0)

pub returns-in-2 : goal.returns-in-2
returns-in-2 c = let x = c.in_ok-get.ensures.lookup.3 in search (kind_walks struct, x.0, x.1 0)

pub returns-in-3 : goal.returns-in-3
returns-in-3 c = let x = c.in_ok-get.ensures.lookup.3 in search (kind_walks cont, x.0, x.1 0)
