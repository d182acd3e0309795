-- `exprs::put_const` meets its contract: the number is written in the middle, or nothing is. Assumes nothing.
use Prim.Native.Nat.{◌<◌, ◌^◌}
use lib.ListN.{length}
use borrow.Author.Rules.{rules}
use Rattle.std.proofs.lemmas.Result.{err_from_is_err_and}
use Rattle.exprs.proofs.Making.{const_short, const_not, const_made, end_fits, long_fits, end_within}
use Rattle.exprs.proofs.put_const.Goals as goal

pub returns-then-out-lt2 : goal.returns-then-out-lt2
returns-then-out-lt2 c = search const_short

pub overflow_add-out : goal.overflow_add-out
overflow_add-out c = let slice_fits : length c.args.out.now < 2 ^ 63 = search rules in search (c.in_ok-n.was, end_fits, slice_fits)

pub bounds-out-n : goal.bounds-out-n
bounds-out-n c = search (c.in_ok-n.was, end_within)

pub overflow_add-result : goal.overflow_add-result
overflow_add-result c = let slice_fits : length c.args.out.now < 2 ^ 63 = search rules in search (c.in_ok-n.was, long_fits, slice_fits)

pub returns : goal.returns
returns c = search (c.in_ok-n.was, const_made)

pub returns-in_err-n : goal.returns-in_err-n
returns-in_err-n c = let p = err_from_is_err_and c.from_residual.result c.from_residual.ensures.1 in rw (p.1, p.2) (search (c.in_err-n.was, const_not))
