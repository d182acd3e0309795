-- `replies::input::gather` meets its contract. Assumes nothing.
use Rattle.replies.proofs.Showing.{part_gathered}
use Rattle.replies.proofs.input.gather.Goals as goal

pub returns : goal.returns
returns c = search part_gathered
