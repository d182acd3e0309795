-- What the check leaves of `format::walk_members`.
use Rattle.std.proofs.Common.{rules}
use Rattle.format.proofs.Repeating.{called, onto_none, onto_more, onto_stop, onto_done}
use Rattle.format.proofs.walk_members.Goals as goal

pub loop-init : goal.loop-init
loop-init g c = search onto_none

pub loop-preserved : goal.loop-preserved
loop-preserved g c = onto_more c.loop.invariant (search rules) (called _ _ c.in_ok-p.ensures) (search rules)

pub returns-in_err-p : goal.returns-in_err-p
returns-in_err-p g c = rw c.from_residual.ensures (onto_stop c.loop.invariant (search rules) (called _ _ c.in_err-p.ensures) (search rules))

pub returns : goal.returns
returns g c = search onto_done
