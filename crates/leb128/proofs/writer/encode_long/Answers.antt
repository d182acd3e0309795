-- What the check leaves of `leb128::writer::encode_long`.
use lib.Dec.{lit<}
use Rattle.leb128.proofs.Writing.{group_fits, less_left, put_short, put_starts, put_kept, put_goes_on, put_ends}
use Rattle.leb128.proofs.writer.encode_long.Goals as goal

pub returns-then-not-fits : goal.returns-then-not-fits
returns-then-not-fits c = search put_short

pub loop-w-init : goal.loop-w-init
loop-w-init c = search put_starts

pub overflow_cast-out : goal.overflow_cast-out
overflow_cast-out c = search group_fits

pub loop-w-smaller : goal.loop-w-smaller
loop-w-smaller c = search (less_left, lit<)

pub loop-w-preserved : goal.loop-w-preserved
loop-w-preserved c = search put_goes_on

pub overflow_cast-out-2 : goal.overflow_cast-out-2
overflow_cast-out-2 c = search group_fits

pub shape_of-out : goal.shape_of-out
shape_of-out c = search put_kept

pub returns : goal.returns
returns c = search put_ends
