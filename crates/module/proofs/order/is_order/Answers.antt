-- `module::order::is_order` meets its contract: every id is looked at until one is not of the list. Assumes nothing.
use borrow.Author.Rules.{rules}
use Rattle.sections.specs.Order.{order_ids}
use Rattle.module.proofs.Looking.{all_told}
use Rattle.module.proofs.order.is_order.Goals as goal

pub returns : goal.returns
returns c = all_told order_ids c.args.order.now (search rules)
