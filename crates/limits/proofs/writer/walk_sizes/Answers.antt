-- `limits::writer::walk_sizes` meets its contract: the minimum, and the maximum or none. Assumes nothing.
use Rattle.format.proofs.Handing.{took}
use mathlib.Core.Bool.{true}
use Rattle.limits.proofs.Limits.{of_words, rest_follows, unused_follow}
use Rattle.limits.proofs.writer.walk_sizes.Goals as goal

pub returns-then-maximum : goal.returns-then-maximum
returns-then-maximum c = search (took, rest_follows of_words true)

pub returns : goal.returns
returns c = search (c.in_ok-p.was, unused_follow)
