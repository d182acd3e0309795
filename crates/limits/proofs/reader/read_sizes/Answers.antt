-- `limits::reader::read_sizes` meets its contract: the minimum, and the maximum or none. Assumes nothing.
use Rattle.format.proofs.Handing.{took}
use mathlib.Core.Bool.{true}
use Rattle.limits.proofs.Limits.{of_bytes, rest_follows, none_there}
use Rattle.limits.proofs.reader.read_sizes.Goals as goal

pub returns-then-maximum : goal.returns-then-maximum
returns-then-maximum c = search (took, rest_follows of_bytes true)

pub returns : goal.returns
returns c = search (took, none_there)
