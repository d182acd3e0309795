-- `leb128::reader::ones` meets its contract: nothing of 2^k is shifted out. Assumes nothing.
use Rattle.leb128.proofs.Reading.{one_there, ones_turned}
use Rattle.leb128.proofs.reader.ones.Goals as goal

pub overflow_sub-result : goal.overflow_sub-result
overflow_sub-result c = search one_there

pub returns-then-neg : goal.returns-then-neg
returns-then-neg c = search ones_turned
