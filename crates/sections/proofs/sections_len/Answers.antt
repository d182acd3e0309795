-- What the check leaves of `sections::sections_len`.
use Rattle.sections.proofs.Listed.{next_below, measured_more}
use Rattle.sections.proofs.sections_len.Goals as goal

pub bounds-tallies-id : goal.bounds-tallies-id
bounds-tallies-id c = search next_below

pub loop-id-preserved : goal.loop-id-preserved
loop-id-preserved c = search measured_more
