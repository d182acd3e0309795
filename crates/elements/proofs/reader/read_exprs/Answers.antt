-- `elements::reader::read_exprs` meets its contract: each call of its closure reads an expression. Assumes nothing.
use Rattle.std.proofs.Common.{rules}
use Rattle.parts.specs.Text.{expression}
use Rattle.parts.specs.ListWalks.{list_read_by}
use Rattle.elements.proofs.Lists.{byte_each}
use Rattle.elements.proofs.reader.read_exprs.Goals as goal

pub returns : goal.returns
returns c = list_read_by expression byte_each c.read_list.ensures (λ p lent s left r y. search rules)
