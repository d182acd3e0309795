-- `prefixes::reader::read_option` meets its contract. Assumes nothing.
use Rattle.prefixes.proofs.Bytes.{option_walk, option_gone}
use Rattle.prefixes.proofs.reader.read_option.Goals as goal

pub returns-then-branch-k : goal.returns-then-branch-k
returns-then-branch-k c = let x = c.in_ok-get.ensures.lookup.3 in search (option_walk, x.0, x.1 0)

pub returns : goal.returns
returns c = let x = c.in_ok-get.ensures.lookup.3 in search (option_gone, x.0, x.1 0)
