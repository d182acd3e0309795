-- `lines::tell::tell` meets its contract: by the frame's kind. Assumes nothing.
use Rattle.lines.proofs.Framing.{kind_none, kind_other}
use Rattle.lines.proofs.Telling.{does_none, add_told, finish_told_lem}
use Rattle.lines.proofs.tell.tell.Goals as goal

pub returns-in-1 : goal.returns-in-1
returns-in-1 c = search add_told

pub returns-in-2 : goal.returns-in-2
returns-in-2 c = search finish_told_lem

pub returns-in-len1-up : goal.returns-in-len1-up
returns-in-len1-up c = search (does_none, kind_other)

pub returns-in-empty : goal.returns-in-empty
returns-in-empty c = search (does_none, kind_none)
