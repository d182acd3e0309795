-- `imports::reader::read_entity` meets its contract: each sort by its own walk. Assumes nothing.
use Rattle.imports.specs.Entity.{function, of_table, of_memory, of_global, of_tag, exact}
use Rattle.imports.proofs.Entities.{sort_reads}
use Rattle.imports.proofs.reader.read_entity.Goals as goal

pub returns-in-0 : goal.returns-in-0
returns-in-0 c = let x = c.in_ok-sort.ensures.lookup.3 in search (sort_reads function, x.0, x.1 0)

pub returns-in-1 : goal.returns-in-1
returns-in-1 c = let x = c.in_ok-sort.ensures.lookup.3 in search (sort_reads of_table, x.0, x.1 0)

pub returns-in-2 : goal.returns-in-2
returns-in-2 c = let x = c.in_ok-sort.ensures.lookup.3 in search (sort_reads of_memory, x.0, x.1 0)

pub returns-in-3 : goal.returns-in-3
returns-in-3 c = let x = c.in_ok-sort.ensures.lookup.3 in search (sort_reads of_global, x.0, x.1 0)

pub returns-in-4 : goal.returns-in-4
returns-in-4 c = let x = c.in_ok-sort.ensures.lookup.3 in search (sort_reads of_tag, x.0, x.1 0)

pub returns-in-32 : goal.returns-in-32
returns-in-32 c = let x = c.in_ok-sort.ensures.lookup.3 in search (sort_reads exact, x.0, x.1 0)
