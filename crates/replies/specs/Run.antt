-- What the program's memory holds of its input and of its answers. Assumes nothing.
use Rattle.std.specs.Prelude.{◌≡◌, Bool, true, List, ◌++◌, ℕ, ◌+◌, ◌*◌, ◌≤◌, ◌<◌, length, take, drop, set}
use Rattle.lines.specs.Answer.{Outcome, answering}
use Rattle.replies.specs.Input.{Kept, ended, hears, closed, kept_most}
use Rattle.replies.specs.Handing.{quiet}
use Rattle.replies.specs.declared.Run.{Run}

-- document 01, Hex lines: "Store and output are 32,768 bytes"
abbrev pub store_long : ℕ
store_long = 32768

abbrev pub buffer_long : ℕ
buffer_long = 32768

-- the longest answer: two digits, those of a module that fills its buffer, and the line feed
abbrev pub longest : ℕ
longest = 3 + 2 * buffer_long

-- what is gathered and what waits stand in their buffers, and there is room for any answer
pub record Ready (r : Run) (line store buffer out : List ℕ) : Type 0 where
  pub gathered : r.n ≤ length line
  pub waiting : r.at ≤ length out
  pub lined : length line ≡ kept_most
  pub stored : length store ≡ store_long
  pub buffered : length buffer ≡ buffer_long
  pub room : longest ≤ length out

-- the memory shows what is kept: the front of the line, and all that was said since what was said was handed on
pub record Shows (k : Kept) (r : Run) (line store buffer out : List ℕ) : Type 0 where
  pub state : r.state ≡ k.state
  pub stored : store ≡ k.store
  pub built : buffer ≡ k.buffer
  pub front : take r.n line ≡ take kept_most k.line
  pub waits : take r.at out ≡ k.said

-- a part of a line stands behind what was gathered, as far as there is room
pub record Gathered (r : Run) (part line line' : List ℕ) (s : Run) : Type 0 where
  pub state : s.state ≡ r.state
  pub waiting : s.at ≡ r.at
  pub gathered : s.n ≤ length line'
  pub front : take s.n line' ≡ take (length line) (take r.n line ++ part)

-- the line's answer, into what is free of the output
abbrev pub answer_to : Run → List ℕ → List ℕ → List ℕ → List ℕ → Outcome
answer_to r line store buffer out = answering r.state store buffer (drop r.at out) line

-- the answer o and its line feed stand behind what waits, and wait too
pub record Replied (r : Run) (o : Outcome) (out : List ℕ) (s : Run) (store' buffer' out' : List ℕ) : Type 0 where
  pub run : s ≡ record { state = o.state; n = 0; at = r.at + o.value + 1 }
  pub store : store' ≡ o.store
  pub buffer : buffer' ≡ o.buffer
  pub answers : out' ≡ set (take r.at out ++ o.out) (r.at + o.value) 0x0A
  pub fits : r.at + o.value < length out

-- the line is at its end
pub record Ends (r : Run) (line store buffer out : List ℕ) (s : Run) (store' buffer' out' : List ℕ) : Type 0 where
  pub ready : Ready s line store' buffer' out'
  pub shows : (k : Kept) → Shows k r line store buffer out → Shows (ended k) s line store' buffer' out'

-- the front of a piece of the input was heard, up to place `to`: some of it, where nothing waited before
pub record Takes (piece : List ℕ) (r : Run) (line store buffer out : List ℕ) (s : Run) (to : ℕ) (line' store' buffer' out' : List ℕ) : Type 0 where
  pub ready : Ready s line' store' buffer' out'
  pub within : to ≤ length piece
  pub some : r.at ≡ 0 → 0 < length piece → 0 < to
  pub shows : (k : Kept) → Shows k r line store buffer out → Shows (hears k (take to piece)) s line' store' buffer' out'

-- the input is at its end
pub record Closes (r : Run) (line store buffer out : List ℕ) (s : Run) (store' buffer' out' : List ℕ) : Type 0 where
  pub ready : Ready s line store' buffer' out'
  pub shows : (k : Kept) → Shows k r line store buffer out → Shows (closed k) s line store' buffer' out'

-- all of a piece was heard where `ok` says that what was said to it is written: then nothing waits, and the memory shows all the rest
pub record HearsAll (piece : List ℕ) (r : Run) (line store buffer out : List ℕ) (s : Run) (ok : Bool) (line' store' buffer' out' : List ℕ) : Type 0 where
  pub ready : Ready s line' store' buffer' out'
  pub nothing : s.at ≡ 0
  pub shows : ok ≡ true → (k : Kept) → Shows k r line store buffer out → Shows (quiet (hears k piece)) s line' store' buffer' out'
