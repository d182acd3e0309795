-- What an entry for C leaves, as an outcome of document 01: its answer is the table's number, and beside it stand the numbers and bytes that were lent, as they
-- are left. One for each shape of outcome, over every width. Assumes nothing.
use Rattle.std.specs.Prelude.{cond, List, ℕ}
use Rattle.format.specs.Write as write
use Rattle.format.specs.Read as read
use Rattle.frames.specs.Append as append
use Rattle.frames.specs.declared.State.{State}
use Rattle.thriftbell.specs.Read as item
use Rattle.lines.specs.Answer as line

-- writing: the length, and the output
abbrev pub written : ℕ → ℕ → List ℕ → write.Outcome
written number length out = record { number = number; value = length; memory = out }

-- reading a number: its value, and where it ended
abbrev pub valued : {A : Type 0} → ℕ → A → ℕ → read.Outcome A
valued number value end = record { number = number; value = value; place = end }

-- the state, by its numbers
abbrev pub stated : ℕ → State
stated used = record { used = used }

-- adding: the room used, and the store
abbrev pub added : ℕ → ℕ → List ℕ → append.Outcome
added number used store = record { number = number; state = stated used; store = store }

-- reading an item: how many words and bytes, and the output
abbrev pub took : ℕ → ℕ → ℕ → List ℕ → item.Outcome
took number words taken out = record { number = number; words = words; taken = taken; memory = out }

-- a line: the room used, the answer line's length, and the store, the module's buffer and the output
pub record Answered : Type 0 where
  pub number : ℕ
  pub used : ℕ
  pub length : ℕ
  pub store : List ℕ
  pub buffer : List ℕ
  pub out : List ℕ

abbrev pub answered : ℕ → ℕ → ℕ → List ℕ → List ℕ → List ℕ → Answered
answered number used length store buffer out = record { number = number; used = used; length = length; store = store; buffer = buffer; out = out }

-- 10 where there is no room for the longest answer
abbrev pub numbered : line.Outcome → Answered
numbered o = record { number = cond o.room 0 10; used = o.state.used; length = o.value; store = o.store; buffer = o.buffer; out = o.out }
