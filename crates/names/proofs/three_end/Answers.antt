-- `names::three_end` meets its contract. Assumes nothing.
use Rattle.names.proofs.Reading.{three_cut, three_none, three_if}
use Rattle.names.proofs.three_end.Goals as goal

pub returns-then-s-at-lt3 : goal.returns-then-s-at-lt3
returns-then-s-at-lt3 c = search three_cut

pub returns-then-above-gt63 : goal.returns-then-above-gt63
returns-then-above-gt63 c = search three_none

pub returns : goal.returns
returns c = search three_if
