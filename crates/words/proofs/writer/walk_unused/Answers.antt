-- `words::writer::walk_unused` meets its contract. Assumes nothing.
use native.Mathlib.Omega.{arith}
use Rattle.format.specs.Count.{adds_nil}
use Rattle.words.specs.TwoWords.{both_unused}
use Rattle.words.proofs.Lent.{two_of}
use Rattle.words.proofs.writer.walk_unused.Goals as goal

pub returns-in-0 : goal.returns-in-0
returns-in-0 c =
    let h = c.in_ok-get.ensures.lookup.0 in
    let t = two_of h.0 h.2 h.3 c.in-0.len_at_least in
    λ out. both_unused (omega arith) (omega arith) (omega arith) (omega arith) (adds_nil out c.args.s)
