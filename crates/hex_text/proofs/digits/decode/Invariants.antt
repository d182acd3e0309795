-- `hex_text::digits::decode` meets its contract: two characters a turn. Assumes nothing.
use Rattle.hex_text.proofs.Decoding.{Decoding}
use Rattle.hex_text.proofs.digits.decode.Given as goal

abbrev pub invariant-loop-i : goal.invariant-loop-i
invariant-loop-i l = Decoding l.line l.initial.out l.out l.i
