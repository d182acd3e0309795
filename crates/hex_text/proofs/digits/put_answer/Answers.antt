-- `hex_text::digits::put_answer` meets its contract: the bytes' digits are written behind the number's. Assumes nothing.
use Rattle.hex_text.proofs.Printing.{answer_written}
use Rattle.hex_text.proofs.digits.put_answer.Goals as goal

pub returns : goal.returns
returns c = search answer_written
