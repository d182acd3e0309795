-- `replies::input::end_input` meets its contract. Assumes nothing.
use Rattle.replies.proofs.Showing.{nothing_closes, line_closes}
use Rattle.replies.proofs.input.end_input.Goals as goal

pub returns-then-r-eq0 : goal.returns-then-r-eq0
returns-then-r-eq0 c = search nothing_closes

pub returns : goal.returns
returns c = search line_closes
