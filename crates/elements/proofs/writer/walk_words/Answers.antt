-- `elements::writer::walk_words` meets its contract: the mode, the flag by what stands behind the place, the place, and the elements. Assumes nothing.
use Rattle.elements.proofs.Segments.{place_missing, elements_follow}
use Rattle.elements.proofs.writer.walk_words.Goals as goal

pub returns-in_err-p : goal.returns-in_err-p
returns-in_err-p c =
    let (_, _, from, _) = c.in_ok-get.ensures.lookup.0 in
    rw c.from_residual-in_err-p.ensures (search (c.in_ok-m.was, c.in_err-p.was, from, place_missing))

pub returns : goal.returns
returns c =
    let (_, _, from, _) = c.in_ok-get.ensures.lookup.0 in
    let d = c.find_mode.ensures in
    search (c.in_ok-m.was, c.in_ok-p.was, from, elements_follow)
