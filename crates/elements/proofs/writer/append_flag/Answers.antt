-- `elements::writer::append_flag` meets its contract. Assumes nothing.
use Rattle.elements.proofs.Elements.{other_added}
use Rattle.elements.proofs.writer.append_flag.Goals as goal

pub returns-then-other : goal.returns-then-other
returns-then-other c = search other_added
