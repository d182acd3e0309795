-- `elements::reader::read_functions` meets its contract: three words of 0, and the list. Assumes nothing.
use Rattle.elements.proofs.Lists.{said_functions, bare_functions}
use Rattle.elements.proofs.reader.read_functions.Goals as goal

pub returns-in-0 : goal.returns-in-0
returns-in-0 c = let x = c.in_ok-get.ensures.lookup.3 in search (said_functions, x.0, x.1 0)

pub returns : goal.returns
returns c = search bare_functions
