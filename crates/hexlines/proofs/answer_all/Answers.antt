-- What the check leaves of `hexlines::answer_all`.
use Rattle.replies.specs.Keeping.{line_kept, store_kept, buffer_kept, out_kept}
use Rattle.hexlines.proofs.Answering.{answering_starts, piece_kept, answering_goes_on}
use Rattle.hexlines.proofs.answer_all.Goals as goal

pub loop-init : goal.loop-init
loop-init g c = search answering_starts

pub shape_of-piece-then-not-t : goal.shape_of-piece-then-not-t
shape_of-piece-then-not-t g c = search piece_kept

pub shape_of-line-then-not-t : goal.shape_of-line-then-not-t
shape_of-line-then-not-t g c = search line_kept

pub shape_of-store-then-not-t : goal.shape_of-store-then-not-t
shape_of-store-then-not-t g c = search store_kept

pub shape_of-buffer-then-not-t : goal.shape_of-buffer-then-not-t
shape_of-buffer-then-not-t g c = search buffer_kept

pub shape_of-out-then-not-t : goal.shape_of-out-then-not-t
shape_of-out-then-not-t g c = search out_kept

pub loop-preserved : goal.loop-preserved
loop-preserved g c = search answering_goes_on
