-- `plain::is_long_plain` meets its contract: the blocks passed are plain, and the last one reaches back to them. Assumes nothing.
use Rattle.std.proofs.Common.{◌*◌}
use Rattle.plain.specs.Plain.{Plain}
use Rattle.plain.proofs.is_long_plain.Given as goal

abbrev pub invariant-loop-i : goal.invariant-loop-i
invariant-loop-i l = Plain l.s 0 (32 * l.i)
