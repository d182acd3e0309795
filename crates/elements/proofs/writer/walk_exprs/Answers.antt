-- `elements::writer::walk_exprs` meets its contract: each call of its closure writes an expression. Assumes nothing.
use Rattle.std.proofs.Common.{rules}
use Rattle.parts.specs.Text.{expression}
use Rattle.parts.specs.ListWalks.{list_written_by}
use Rattle.elements.proofs.Lists.{word_each}
use Rattle.elements.proofs.writer.walk_exprs.Goals as goal

pub returns : goal.returns
returns c = list_written_by expression word_each c.args.text.now c.walk_list.ensures (λ p lent s left r y. search rules)
