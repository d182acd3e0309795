-- `texts::append_data` meets its contract. Assumes nothing.
use Rattle.std.proofs.Common.{arith}
use Rattle.format.specs.Count.{adds_seq, adds_eq}
use Rattle.texts.specs.Text.{past_in, long_in, slice_past, past_past}
use Rattle.texts.proofs.Checks.{adds_refusal}
use Rattle.texts.proofs.append_data.Goals as goal

pub returns-in-Some : goal.returns-in-Some
returns-in-Some c =
    let a = c.args in
    let (h, e) = c.in-Some.ensures in
    adds_eq (rw (e, long_in a.text.now a.at h)) (omega (arith, past_in a.text.now a.at h)) (adds_seq c.append_u32-t.ensures c.append_all.ensures)

pub returns-in-None : goal.returns-in-None
returns-in-None c =
    let a = c.args in
    let h = c.in-None.ensures in
    adds_eq (rw (slice_past a.text.now a.at h)) (omega (arith, past_past a.text.now a.at h))
    (adds_seq c.append_u32.ensures (adds_refusal 3 c.append_u32.new.out c.append_u32.result (omega arith) c.lower.ensures))
