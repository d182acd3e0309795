-- What the check leaves of `hex_text::words::read_words`.
use Rattle.hex_text.proofs.Reading.{reads_few, reads_short, reading_more, reading_done}
use Rattle.hex_text.proofs.words.read_words.Goals as goal

pub returns-then-bytes-n : goal.returns-then-bytes-n
returns-then-bytes-n c = search reads_few

pub returns-then-out-n : goal.returns-then-out-n
returns-then-out-n c = search reads_short

pub loop-i-preserved : goal.loop-i-preserved
loop-i-preserved c = search reading_more

pub returns : goal.returns
returns c = search reading_done
