-- `hex_text::words::read_words` meets its contract: a word a turn, where all are there and have room. Assumes nothing.
use Rattle.hex_text.proofs.Reading.{Reading}
use Rattle.hex_text.proofs.words.read_words.Given as goal

abbrev pub invariant-loop-i : goal.invariant-loop-i
invariant-loop-i l = Reading l.n l.bytes l.initial.out l.out l.i
