-- `replies::reply::end_line` meets its contract. Assumes nothing.
use Rattle.replies.proofs.Showing.{line_ends}
use Rattle.replies.proofs.reply.end_line.Goals as goal

pub returns : goal.returns
returns c = search line_ends
