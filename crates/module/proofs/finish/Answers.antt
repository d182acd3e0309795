-- `module::finish` meets its contract: 1 and 8 are judged, and then it builds. Assumes nothing.
use Rattle.module.proofs.Finishing.{over_refused, long_refused, other_refused, built}
use Rattle.module.proofs.finish.Goals as goal
use Rattle.module.proofs.finish.Goals.{then-order-gt-ORDER_MOST-via-then-order-gt-ORDER_MOST, then-order-gt-ORDER_MOST-via-else-order-gt-ORDER_MOST+then-not-is_order}

pub returns-then-is_over : goal.returns-then-is_over
returns-then-is_over c = search over_refused

pub returns-then-order-gt-ORDER_MOST : goal.returns-then-order-gt-ORDER_MOST
returns-then-order-gt-ORDER_MOST c =
    elim c.then-order-gt-ORDER_MOST.branch [
      | then-order-gt-ORDER_MOST-via-then-order-gt-ORDER_MOST w ↦ search long_refused
      | then-order-gt-ORDER_MOST-via-else-order-gt-ORDER_MOST+then-not-is_order w ↦ search other_refused
    ]

pub returns : goal.returns
returns c = search built
