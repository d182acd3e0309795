-- `thriftbell::add_tried` meets its contract. Assumes nothing.
use Rattle.std.proofs.lemmas.Result.{err_from_is_err_and}
use Rattle.thriftbell.proofs.Adding.{over_refused, record_refused, state_within, few_bytes, full_refused, accepted, frame_added}
use Rattle.thriftbell.proofs.add_tried.Goals as goal

pub returns-then-is_over : goal.returns-then-is_over
returns-then-is_over c = search over_refused

pub returns-in_err-n : goal.returns-in_err-n
returns-in_err-n c = let p = err_from_is_err_and c.from_residual.result c.from_residual.ensures.1 in rw (p.1, p.2) (search (c.in_err-n.was, record_refused))

pub is_full-requires : goal.is_full-requires
is_full-requires c = search (c.in_ok-n.was, state_within, few_bytes)

pub returns-then-is_full : goal.returns-then-is_full
returns-then-is_full c = search (c.in_ok-n.was, full_refused)

pub put_frame-requires : goal.put_frame-requires
put_frame-requires c = accepted c.judge.ensures c.judge.auto.tried (search (c.in_ok-n.was)) (search state_within) c.is_full.ensures (search)

pub returns : goal.returns
returns c = search (c.in_ok-n.was, frame_added) depth 2
