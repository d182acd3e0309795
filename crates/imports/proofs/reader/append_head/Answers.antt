-- `imports::reader::append_head` meets its contract. Assumes nothing.
use Rattle.imports.proofs.Imports.{head_added}
use Rattle.imports.proofs.reader.append_head.Goals as goal

pub returns : goal.returns
returns c = search head_added
