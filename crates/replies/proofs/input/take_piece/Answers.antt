-- What the check leaves of `replies::input::take_piece`.
use Rattle.replies.proofs.Taking.{none_taken, all_taken, next_fits, fewer_left, part_ready, part_taken, part_waits, line_room, line_taken}
use Rattle.replies.proofs.input.take_piece.Goals as goal

pub loop-i-init : goal.loop-i-init
loop-i-init c = search none_taken

pub returns-then-piece-end : goal.returns-then-piece-end
returns-then-piece-end c = search part_taken

pub returns-then-out-run-lt-LONGEST : goal.returns-then-out-run-lt-LONGEST
returns-then-out-run-lt-LONGEST c = search part_waits

pub end_line-run-requires : goal.end_line-run-requires
end_line-run-requires c = record { ready = search part_ready; room = search line_room }

pub overflow_add-i : goal.overflow_add-i
overflow_add-i c = search next_fits

pub loop-i-smaller : goal.loop-i-smaller
loop-i-smaller c = search fewer_left

pub loop-i-preserved : goal.loop-i-preserved
loop-i-preserved c = search line_taken

pub returns : goal.returns
returns c = search all_taken
