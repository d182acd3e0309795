-- `replies::reply::reply` meets its contract: there is room for the answer, and for its line feed. Assumes nothing.
use Rattle.replies.proofs.Replying.{end_fits, next_fits, feed_within, not_short, replied}
use Rattle.replies.proofs.reply.reply.Goals as goal

pub returns-in_default : goal.returns-in_default
returns-in_default c = search not_short

pub overflow_add-end : goal.overflow_add-end
overflow_add-end c = search end_fits

pub bounds-out-end : goal.bounds-out-end
bounds-out-end c = search feed_within

pub overflow_add-result : goal.overflow_add-result
overflow_add-result c = search next_fits

pub returns : goal.returns
returns c = search replied
