-- `prefixes::writer::walk_supers` meets its contract: by the flag, and by the count. Assumes nothing.
use Rattle.words.proofs.Lent.{two_of}
use Rattle.prefixes.proofs.Words.{open_supers, no_supers, final_supers}
use Rattle.prefixes.proofs.writer.walk_supers.Goals as goal

pub returns-in-0 : goal.returns-in-0
returns-in-0 c = let h = c.in_ok-get.ensures.lookup.0 in search (open_supers (two_of h.0 h.2 h.3 c.in-0.len_at_least))

pub returns-in-1 : goal.returns-in-1
returns-in-1 c = let h = c.in_ok-get.ensures.lookup.0 in search (no_supers (two_of h.0 h.2 h.3 c.in-1.len_at_least))

pub returns-in-1-2 : goal.returns-in-1-2
returns-in-1-2 c = let h = c.in_ok-get.ensures.lookup.0 in search (final_supers (two_of h.0 h.2 h.3 c.in-1-2.len_at_least))
