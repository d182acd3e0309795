-- `leb128::reader::shortest` meets its contract: only where the last group is empty can fewer bytes do. Assumes nothing.
use Rattle.leb128.proofs.Reading.{short_less, short_enough, short_topped}
use Rattle.leb128.proofs.reader.shortest.Goals as goal
use Rattle.leb128.proofs.reader.shortest.Goals.{else-top-eq0-via-then-top-eq0+else-shorter, else-top-eq0-via-else-top-eq0}

pub returns-then-shorter : goal.returns-then-shorter
returns-then-shorter c = search short_less

pub returns : goal.returns
returns c = elim c.else-top-eq0.branch [ else-top-eq0-via-then-top-eq0+else-shorter w ↦ search short_enough | else-top-eq0-via-else-top-eq0 w ↦ search short_topped ]
