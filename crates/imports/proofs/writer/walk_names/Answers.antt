-- `imports::writer::walk_names` meets its contract: each call of its closure writes a name. Assumes nothing.
use Rattle.std.proofs.Common.{rules}
use Rattle.parts.specs.ListWalks.{list_written_by}
use Rattle.imports.specs.Forms.{member, Name}
use Rattle.imports.proofs.Members.{words_long}
use Rattle.imports.proofs.writer.walk_names.Goals as goal

pub returns : goal.returns
returns c = list_written_by (member Name) (words_long Name) c.args.text.now c.walk_list.ensures (λ p lent s left r y. search rules)
