-- `limits::writer::walk_limits` meets its contract. Assumes nothing.
use Rattle.limits.proofs.Limits.{of_words, sizes_follow}
use Rattle.limits.proofs.writer.walk_limits.Goals as goal

pub returns : goal.returns
returns c = let x = c.in_ok-flags.ensures.lookup.3 in search (sizes_follow of_words, x.0, x.1 0)
