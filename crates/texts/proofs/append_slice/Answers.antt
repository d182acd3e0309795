-- `texts::append_slice` meets its contract. Assumes nothing.
use Rattle.std.proofs.Common.{sym, arith}
use Rattle.format.specs.Count.{adds_eq}
use Rattle.texts.specs.Text.{past_in, slice_past, past_past}
use Rattle.texts.proofs.Checks.{adds_refusal}
use Rattle.texts.proofs.append_slice.Goals as goal

pub returns-in-Some : goal.returns-in-Some
returns-in-Some c = let (h, e) = c.in-Some.ensures in adds_eq e (sym (past_in c.args.text.now c.args.at h)) c.append_all.ensures

pub returns-in-None : goal.returns-in-None
returns-in-None c =
    let a = c.args in
    let h = c.in-None.ensures in
    adds_eq (sym (slice_past a.text.now a.at h)) (sym (past_past a.text.now a.at h)) (adds_refusal 3 a.out.now a.s (omega arith) c.lower.ensures)
