-- `texts::reader::find_expr` meets its contract: the bytes from a place on, and where an expression ends in them. Assumes nothing.
use Rattle.std.specs.Prelude.{◌≡◌, ◌≤◌, List, ℕ, Option, Some, length, take, drop, slice_range}
use Rattle.std.proofs.Common.{sym, ap, ◌∙◌, arith, length-take, length-drop, length-append}
use Rattle.format.specs.Read.{drop_end}
use Rattle.format.specs.Write.{rest_lent}
use Rattle.exprs.specs.Scan.{scan, expr_end}
use Rattle.exprs.specs.Laws.{sound}
use Rattle.texts.proofs.reader.find_expr.Goals as goal

-- v is the bytes from the place on
ended : (b : List ℕ) (at : ℕ) {v : List ℕ} {n : ℕ} {r : Option ℕ} → v ≡ slice_range b at (length b) → r ≡ expr_end v → r ≡ Some n
    → (expr_end (drop at b) ≡ Some n) × (n ≤ length (drop at b))
ended b at {n = n} from d i =
    let e : expr_end (drop at b) ≡ Some n = ap expr_end (sym (from ∙ rest_lent at b)) ∙ sym d ∙ i in
    let f = sound (drop at b) n e in
    (e, omega (arith, f.long, ap length f.split ∙ length-append f.bytes f.rest))

pub returns-in_err-get : goal.returns-in_err-get
unfolding scan
returns-in_err-get c = let a = c.args in let h = c.in_err-get.ensures.lookup.0 in rw (c.from_residual.ensures, drop_end a.bytes.now a.at (omega arith))

pub overflow_cast-result-2 : goal.overflow_cast-result-2
overflow_cast-result-2 c =
    let (_, _, from, long) = c.in_ok-get.ensures.lookup.0 in
    let e = ended c.args.bytes.now c.args.at from c.expr_end.ensures c.in_ok-n.was in
    omega (arith, e.1, length-drop c.args.at c.args.bytes.now, c.requires)

pub returns : goal.returns
returns c =
    let (_, _, from, long) = c.in_ok-get.ensures.lookup.0 in
    let n = c.in_ok-n.n in
    let b = drop c.args.at c.args.bytes.now in
    let e = ended c.args.bytes.now c.args.at from c.expr_end.ensures c.in_ok-n.was in
    let size : length (take n b) ≡ n = simp length-take (omega (arith, e.1)) in
    rw (e.0, size)
