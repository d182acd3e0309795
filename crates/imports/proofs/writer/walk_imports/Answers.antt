-- `imports::writer::walk_imports` meets its contract: each call of its closure writes a name and its entity. Assumes nothing.
use Rattle.std.proofs.Common.{rules}
use Rattle.parts.specs.ListWalks.{list_written_by}
use Rattle.imports.specs.Forms.{member, Import}
use Rattle.imports.proofs.Members.{words_long}
use Rattle.imports.proofs.writer.walk_imports.Goals as goal

pub returns : goal.returns
returns c = list_written_by (member Import) (words_long Import) c.args.text.now c.walk_list.ensures (λ p lent s left r y. search rules)
