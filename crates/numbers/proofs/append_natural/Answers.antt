-- `numbers::append_natural` meets its contract: the writer was lent the part from the current end on. Assumes nothing.
use Rattle.numbers.proofs.Appending.{appends_written, appends_counted}
use Rattle.numbers.proofs.append_natural.Goals as goal

pub returns-in-Ok : goal.returns-in-Ok
returns-in-Ok c = search appends_written

pub returns-in-Err : goal.returns-in-Err
returns-in-Err c = search appends_counted
