-- `words::reader::read_number64` meets its contract. Assumes nothing.
use Rattle.words.proofs.Numbers.{number64_there}
use Rattle.words.proofs.reader.read_number64.Goals as goal

pub returns : goal.returns
returns c = search number64_there
