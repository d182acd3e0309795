-- `imports::reader::read_names` meets its contract: each call of its closure reads a name. Assumes nothing.
use Rattle.std.proofs.Common.{rules}
use Rattle.parts.specs.ListWalks.{list_read_by}
use Rattle.imports.specs.Forms.{member, Name}
use Rattle.imports.proofs.Members.{bytes_long}
use Rattle.imports.proofs.reader.read_names.Goals as goal

pub returns : goal.returns
returns c = list_read_by (member Name) (bytes_long Name) c.read_list.ensures (λ p lent s left r y. search rules)
