-- `elements::reader::read_expressions` meets its contract: the type, and the list of expressions. Assumes nothing.
use Rattle.format.proofs.Handing.{took, left}
use Rattle.elements.proofs.Lists.{type_not_read, typed_reads, funcrefs_read}
use Rattle.elements.proofs.reader.read_expressions.Goals as goal

pub returns-in_err-p : goal.returns-in_err-p
returns-in_err-p c = rw c.from_residual.ensures (search (left, type_not_read))

pub returns-then-said : goal.returns-then-said
returns-then-said c = search (took, typed_reads)

pub returns : goal.returns
returns c = search (took, funcrefs_read)
