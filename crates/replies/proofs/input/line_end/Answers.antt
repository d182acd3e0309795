-- `replies::input::line_end` meets its contract: memchr finds the first line feed, or there is none. Assumes nothing.
use Rattle.std.proofs.Common.{◌≡◌, ℕ, ◌+◌, length, drop, ap, sym, arith, length-drop}
use Rattle.format.specs.Write.{rest_lent}
use Rattle.replies.specs.Input.{feed_at}
use Rattle.replies.proofs.Hearing.{feed_found, feed_missing}
use Rattle.replies.proofs.input.line_end.Goals as goal

pub returns-in-Some-clause-value : goal.returns-in-Some-clause-value
returns-in-Some-clause-value c =
    let piece = c.args.piece.now in
    let h = c.in-Some.ensures in
    ap (λ (n : ℕ). c.args.from + n) (sym (feed_found (drop c.args.from piece) (rest_lent c.args.from piece) h.0.high (λ k l. h.0.before k (omega arith) l) h.1))

pub returns-in-None-clause-value : goal.returns-in-None-clause-value
returns-in-None-clause-value c =
    let piece = c.args.piece.now in
    let none = c.in-None.ensures in
    let e : feed_at (drop c.args.from piece) ≡ length (drop c.args.from piece) = feed_missing (drop c.args.from piece) (rest_lent c.args.from piece) (λ k l. none k (omega arith) l) in
    omega (arith, e, length-drop c.args.from piece)
