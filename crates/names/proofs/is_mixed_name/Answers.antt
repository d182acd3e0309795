-- What the check leaves of `names::is_mixed_name`.
use Rattle.names.proofs.Naming.{none_passed, wide_passed, less_left, plain_passed, plains_passed, all_passed}
use Rattle.names.proofs.is_mixed_name.Goals as goal

pub returns-in_default : goal.returns-in_default
returns-in_default c = none_passed c.loop-at-test.true c.if-b-gt127.true c.in_default.ensures c.loop-at.invariant

pub loop-at-smaller-then-b-gt127 : goal.loop-at-smaller-then-b-gt127
loop-at-smaller-then-b-gt127 c = less_left c.loop-at-test.true c.if-b-gt127.true c.in-Some.ensures

pub loop-at-preserved-then-b-gt127 : goal.loop-at-preserved-then-b-gt127
loop-at-preserved-then-b-gt127 c = wide_passed c.loop-at-test.true c.if-b-gt127.true c.in-Some.ensures c.loop-at.invariant

pub loop-at-preserved-then-at-eq0 : goal.loop-at-preserved-then-at-eq0
loop-at-preserved-then-at-eq0 c = search plains_passed

pub loop-at-preserved : goal.loop-at-preserved
loop-at-preserved c = search plain_passed

pub returns : goal.returns
returns c = search all_passed
