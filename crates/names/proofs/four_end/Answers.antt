-- `names::four_end` meets its contract. Assumes nothing.
use Rattle.names.proofs.Reading.{four_cut, four_none, four_if}
use Rattle.names.proofs.four_end.Goals as goal

pub returns-then-s-at-lt4 : goal.returns-then-s-at-lt4
returns-then-s-at-lt4 c = search four_cut

pub returns-then-above-gt63 : goal.returns-then-above-gt63
returns-then-above-gt63 c = search four_none

pub returns : goal.returns
returns c = search four_if
