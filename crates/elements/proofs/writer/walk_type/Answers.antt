-- `elements::writer::walk_type` meets its contract: the reference type, which is written where it is said. Assumes nothing.
use Rattle.elements.proofs.Elements.{type_said, no_type_there, type_unsaid}
use Rattle.elements.proofs.writer.walk_type.Goals as goal

pub returns-then-said : goal.returns-then-said
returns-then-said c = search type_said

pub returns-in_err-from_words : goal.returns-in_err-from_words
returns-in_err-from_words c =
    let (_, _, from, long) = c.in_ok-get.ensures.lookup.0 in
    rw c.from_residual-in_err-from_words.ensures (search (no_type_there, from, long, c.in_err-from_words.was))

pub returns : goal.returns
returns c = let (_, _, from, long) = c.in_ok-get.ensures.lookup.0 in search (type_unsaid, from, long, c.in_ok-from_words.was)
