-- `modes::reader::append_two` meets its contract. Assumes nothing.
use Rattle.modes.proofs.Places.{two_added}
use Rattle.modes.proofs.reader.append_two.Goals as goal

pub returns : goal.returns
returns c = search two_added
