-- `imports::reader::walk_bytes` meets its contract: the module's name, the form by the two bytes behind it, and what follows. Assumes nothing.
use Rattle.format.proofs.Handing.{took}
use Rattle.imports.proofs.Imports.{single_reads, compact1_reads, compact2_reads}
use Rattle.imports.proofs.reader.walk_bytes.Goals as goal

pub returns-in-Single : goal.returns-in-Single
returns-in-Single c = search (took, single_reads)

pub returns-in-Compact1 : goal.returns-in-Compact1
returns-in-Compact1 c = search (took, compact1_reads)

pub returns-in-Compact2 : goal.returns-in-Compact2
returns-in-Compact2 c = search (took, compact2_reads)
