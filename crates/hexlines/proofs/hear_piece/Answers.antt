-- What the check leaves of `hexlines::hear_piece`.
use Rattle.replies.specs.Keeping.{line_kept, store_kept, buffer_kept, out_kept}
use Rattle.hexlines.proofs.Hearing.{hearing_starts, all_heard, next_fits, fewer_left, waiting_within, not_written, hearing_goes_on}
use Rattle.hexlines.proofs.hear_piece.Goals as goal

pub loop-i-init : goal.loop-i-init
loop-i-init g c = search hearing_starts

pub slice_bounds-is_written-end : goal.slice_bounds-is_written-end
slice_bounds-is_written-end g c = search waiting_within

pub shape_of-line-then-not-ok : goal.shape_of-line-then-not-ok
shape_of-line-then-not-ok g c = search line_kept

pub shape_of-store-then-not-ok : goal.shape_of-store-then-not-ok
shape_of-store-then-not-ok g c = search store_kept

pub shape_of-buffer-then-not-ok : goal.shape_of-buffer-then-not-ok
shape_of-buffer-then-not-ok g c = search buffer_kept

pub shape_of-out-then-not-ok : goal.shape_of-out-then-not-ok
shape_of-out-then-not-ok g c = search out_kept

pub returns-then-not-ok : goal.returns-then-not-ok
returns-then-not-ok g c = search not_written

pub overflow_add-i : goal.overflow_add-i
overflow_add-i g c = search next_fits

pub loop-i-smaller : goal.loop-i-smaller
loop-i-smaller g c = search fewer_left

pub loop-i-preserved : goal.loop-i-preserved
loop-i-preserved g c = search hearing_goes_on

pub returns : goal.returns
returns g c = search all_heard
