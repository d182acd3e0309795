-- `plain::bits_of` meets its contract. Assumes nothing.
use Rattle.std.proofs.Common.{◌≡◌, ◌+◌, ◌-◌, take, drop, bit_or, fold, rules}
use Rattle.plain.proofs.Blocks.{bits_folded}
use Rattle.plain.proofs.bits_of.Goals as goal

pub returns : goal.returns
returns g c =
    let e : c.fold.result ≡ fold bit_or 0 (take (c.args.i + g.row.N - c.args.i) (drop c.args.i c.args.s.now)) = search rules in
    bits_folded _ _ _ c.requires e
