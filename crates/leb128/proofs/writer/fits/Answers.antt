-- `leb128::writer::fits` meets its contract: ten bytes are enough for any number. Assumes nothing.
use Rattle.std.proofs.Common.{◌≤◌, ◌∙◌, arith, le-leb}
use Rattle.leb128.proofs.Writing.{ten_fits}
use Rattle.leb128.proofs.writer.fits.Goals as goal

pub returns-then-room-ge10 : goal.returns-then-room-ge10
returns-then-room-ge10 c = let room = c.args.room in let h : 10 ≤ room = omega arith in le-leb 10 room h ∙ search ten_fits
