-- `groups::writer::walk_words` meets its contract: by the group flag. Assumes nothing.
use Rattle.words.proofs.Lent.{two_of}
use Rattle.groups.proofs.Groups.{group_writes, single_writes}
use Rattle.groups.proofs.writer.walk_words.Goals as goal

pub returns-in-1 : goal.returns-in-1
returns-in-1 c t = let h = c.in_ok-get.ensures.lookup.0 in search (group_writes (two_of h.0 h.2 h.3 c.in-1.len_at_least))

pub returns-in-0 : goal.returns-in-0
returns-in-0 c t = let h = c.in_ok-get.ensures.lookup.0 in search (single_writes (two_of h.0 h.2 h.3 c.in-0.len_at_least))
