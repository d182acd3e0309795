-- What the check leaves of `hex_text::digits::put_hex`.
use Rattle.hex_text.proofs.Printing.{printing_done, printing_short}
use Rattle.hex_text.proofs.digits.put_hex.Goals as goal

pub returns-then-out-bytes : goal.returns-then-out-bytes
returns-then-out-bytes c = search printing_short

pub returns : goal.returns
returns c = search printing_done
