-- What the check leaves of `leb128::writer::size`.
use lib.Dec.{lit<}
use Rattle.leb128.proofs.Writing.{less_left, count_starts, count_fits, count_goes_on, count_ends}
use Rattle.leb128.proofs.writer.size.Goals as goal

pub loop-w-init : goal.loop-w-init
loop-w-init c = search count_starts

pub overflow_add-n : goal.overflow_add-n
overflow_add-n c = search count_fits

pub loop-w-smaller : goal.loop-w-smaller
loop-w-smaller c = search (less_left, lit<)

pub loop-w-preserved : goal.loop-w-preserved
loop-w-preserved c = search count_goes_on

pub returns : goal.returns
returns c = search count_ends
