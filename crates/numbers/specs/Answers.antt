-- What the answer of a reader stands for, by the numbers of document 01.
use Rattle.std.specs.Prelude.{ℕ, Option, None, Some}
use Rattle.format.specs.Read.{Outcome, found, nothing}

-- document 01, Answers by number: 0, the value and where it ended; or 11, and zero for the value
abbrev pub read_as : {A : Type 0} → A → Option (A × ℕ) → Outcome A
read_as zero (Some r) = found r.0 r.1
read_as zero None = nothing zero
