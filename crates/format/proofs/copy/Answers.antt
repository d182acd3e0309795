-- `format::copy` meets its contract: they stand at the front, or there is no room for them. Assumes nothing.
use Rattle.std.proofs.Common.{◌≡◌, ◌-◌, length, arith, refl}
use Rattle.format.specs.Write.{writes, writes_not}
use Rattle.format.proofs.copy.Goals as goal

pub returns-then-out-from : goal.returns-then-out-from
returns-then-out-from g c = search writes_not

pub returns : goal.returns
returns g c =
    let b = c.args.from.now in
    let rest : length b - 0 ≡ length b = omega arith in
    writes c.if-out-from.false refl (cc (c.copy_from_slice.ensures.after, rest))
