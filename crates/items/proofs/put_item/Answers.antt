-- `items::put_item` meets its contract. Assumes nothing.
use Rattle.items.proofs.Judging.{copied, walked_again}
use Rattle.items.proofs.put_item.Goals as goal

pub returns-in-Some : goal.returns-in-Some
returns-in-Some c = let (_, long, from, _) = c.in-Some.ensures.lookup.0 in search (copied, from, long)

pub returns : goal.returns
returns c tried = search walked_again
