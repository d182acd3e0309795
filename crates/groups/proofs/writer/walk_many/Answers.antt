-- `groups::writer::walk_many` meets its contract: each call of its closure writes a subtype. Assumes nothing.
use Rattle.std.proofs.Common.{rules}
use Rattle.parts.specs.ListWalks.{list_written_by}
use Rattle.groups.specs.RecGroup.{sub_type, sub_words_long}
use Rattle.groups.proofs.writer.walk_many.Goals as goal

pub returns : goal.returns
returns c t = list_written_by sub_type sub_words_long t c.walk_list.ensures (λ p lent s left r y. search rules)
