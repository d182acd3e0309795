-- `data::writer::append_memory` meets its contract: memory 0, or another. Assumes nothing.
use Rattle.data.proofs.Targets.{other_memory_added}
use Rattle.data.proofs.writer.append_memory.Goals as goal

pub returns : goal.returns
returns c = search other_memory_added
