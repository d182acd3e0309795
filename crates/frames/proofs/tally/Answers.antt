-- What the check leaves of `frames::tally`.
use Prim.Native.Nat.{◌<◌, ◌^◌}
use lib.ListN.{length}
use borrow.Author.Rules.{rules}
use Rattle.frames.specs.Tally.{table}
use Rattle.frames.proofs.Walking.{tally_none, item_fits, tally_more, tally_stop, tally_done}
use Rattle.frames.proofs.tally.Goals as goal

pub loop-id-init : goal.loop-id-init
unfolding table
loop-id-init c = tally_none c.new-walk.ensures

pub add-requires : goal.add-requires
add-requires c = let fits : length c.args.frames.now < 2 ^ 63 = search rules in item_fits c.loop-id.invariant (c.in-Some.id, c.in-Some.item) c.in-Some.ensures.steps fits

pub loop-id-preserved : goal.loop-id-preserved
loop-id-preserved c = tally_more c.loop-id.invariant (c.in-Some.id, c.in-Some.item) c.in-Some.ensures.steps c.add.ensures

pub returns : goal.returns
returns c = tally_done c.loop-id.invariant c.in_default.ensures.steps c.if-walk-frames.false

pub returns-then-walk-frames : goal.returns-then-walk-frames
returns-then-walk-frames c = tally_stop c.loop-id.invariant c.in_default.ensures.steps c.if-walk-frames.true
