-- `imports::reader::read_imports` meets its contract: each call of its closure reads a name and its entity. Assumes nothing.
use Rattle.std.proofs.Common.{rules}
use Rattle.parts.specs.ListWalks.{list_read_by}
use Rattle.imports.specs.Forms.{member, Import}
use Rattle.imports.proofs.Members.{bytes_long}
use Rattle.imports.proofs.reader.read_imports.Goals as goal

pub returns : goal.returns
returns c = list_read_by (member Import) (bytes_long Import) c.read_list.ensures (λ p lent s left r y. search rules)
