-- `hex_text::digits::put_hex` meets its contract: two characters a turn, where there is room for all. Assumes nothing.
use Rattle.hex_text.proofs.Printing.{Printing}
use Rattle.hex_text.proofs.digits.put_hex.Given as goal

abbrev pub invariant-loop-i : goal.invariant-loop-i
invariant-loop-i l = Printing l.bytes l.initial.out l.out l.i
