-- `vals::writer::walk_field` meets its contract: a storage type, and whether it is mutable. Assumes nothing.
use Rattle.format.proofs.Handing.{took}
use Rattle.format.specs.Sequence.{second_follows}
use Rattle.types.specs.Vals.{storage_words, storage_bytes, field_joins}
use Rattle.vals.proofs.writer.walk_field.Goals as goal

pub returns : goal.returns
returns c = search (took, second_follows (field_joins storage_words storage_bytes))
