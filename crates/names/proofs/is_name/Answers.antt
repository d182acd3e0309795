-- `names::is_name` meets its contract. Assumes nothing.
use Rattle.std.proofs.Common.{sym, ◌∙◌, true≢false, le-ltb}
use Rattle.names.proofs.Naming.{plain_is}
use Rattle.names.proofs.is_name.Goals as goal
use Rattle.names.proofs.is_name.Goals.{then-byte-lt128, else-byte-lt128}

pub returns-then-is_plain : goal.returns-then-is_plain
returns-then-is_plain c = elim c.if-byte-lt128.branch [
  | then-byte-lt128 w ↦ c.if-is_plain.true ∙ plain_is _ w.is_plain.ensures (sym w.value-is ∙ c.if-is_plain.true)
  | else-byte-lt128 w ↦ absurd (true≢false (sym c.if-is_plain.true ∙ w.value-is ∙ le-ltb _ _ w.if-byte-lt128.false))
]
