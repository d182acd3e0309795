-- `groups::reader::read_many` meets its contract: each call of its closure reads a subtype. Assumes nothing.
use Rattle.std.proofs.Common.{rules}
use Rattle.parts.specs.Reading.{textless_reads}
use Rattle.parts.specs.ListWalks.{list_read_by}
use Rattle.groups.specs.RecGroup.{sub_type, sub_bytes_long}
use Rattle.groups.proofs.reader.read_many.Goals as goal

pub returns : goal.returns
returns c = list_read_by sub_type sub_bytes_long c.read_list.ensures (λ p lent s left r y. textless_reads _ _ _ (search rules))
