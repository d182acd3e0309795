-- `hex_text::frame::frame_bytes` meets its contract. Assumes nothing.
use Rattle.std.proofs.Common.{ℕ, length-take, arith}
use Rattle.hex_text.proofs.Checking.{long_held, none_held, nothing_held, last_within, frame_held, wrong_held}
use Rattle.hex_text.proofs.frame.frame_bytes.Goals as goal

pub returns-then-line-gt-DIGITS_MOST : goal.returns-then-line-gt-DIGITS_MOST
returns-then-line-gt-DIGITS_MOST c = search long_held

pub returns-in_err-decode : goal.returns-in_err-decode
returns-in_err-decode c = rw c.from_residual.ensures (none_held (search) c.decode.ensures (search) c.in_err-decode.was)

pub returns-in_err-end : goal.returns-in_err-end
returns-in_err-end c = rw c.from_residual-in_err-end.ensures (nothing_held (search) c.decode.ensures c.in_ok-decode.was c.in_err-end.ensures)

pub bounds-out-end : goal.bounds-out-end
bounds-out-end c = last_within (search) c.decode.ensures c.in_ok-decode.was c.in_ok-end.ensures

pub slice_bounds-check_byte-end : goal.slice_bounds-check_byte-end
slice_bounds-check_byte-end c = omega (arith, last_within (search) c.decode.ensures c.in_ok-decode.was c.in_ok-end.ensures)

pub slice_bounds-check_byte-end-2 : goal.slice_bounds-check_byte-end-2
slice_bounds-check_byte-end-2 c = omega (arith, length-take {A = ℕ}, last_within (search) c.decode.ensures c.in_ok-decode.was c.in_ok-end.ensures)

pub returns-then-out-end : goal.returns-then-out-end
returns-then-out-end c = frame_held (search) c.decode.ensures c.in_ok-decode.was c.in_ok-end.ensures (search) c.check_byte.ensures c.if-out-end.true

pub returns-else-out-end : goal.returns-else-out-end
returns-else-out-end c = wrong_held (search) c.decode.ensures c.in_ok-decode.was c.in_ok-end.ensures (search) c.check_byte.ensures c.if-out-end.false
