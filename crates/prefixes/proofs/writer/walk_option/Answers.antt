-- `prefixes::writer::walk_option` meets its contract. Assumes nothing.
use Rattle.words.proofs.Lent.{two_of}
use Rattle.prefixes.proofs.Words.{option_some, option_none}
use Rattle.prefixes.proofs.writer.walk_option.Goals as goal

pub returns-in-1 : goal.returns-in-1
returns-in-1 c = let h = c.in_ok-get.ensures.lookup.0 in search (option_some (two_of h.0 h.2 h.3 c.in-1.len_at_least))

pub returns-in-0 : goal.returns-in-0
returns-in-0 c = let h = c.in_ok-get.ensures.lookup.0 in search (option_none (two_of h.0 h.2 h.3 c.in-0.len_at_least))
