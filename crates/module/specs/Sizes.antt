-- The store's limit keeps every size and count within a u32, as the standard has them (document 01, Store and module). Assumes nothing.
use Rattle.std.specs.Prelude.{◌≡◌, Bool, true, false, cond, ℕ, ◌+◌, ◌≤◌, ◌<◌, ◌^◌, List, eqb, pos, length}
use Rattle.std.proofs.Common.{arith, length-append}
use Rattle.leb128.specs.Leb.{unsigned, uleb}
use Rattle.leb128.proofs.LebLaws.{bytes_at_most}
use Rattle.frames.specs.Frames.{frames_of, held}
use Rattle.frames.specs.Builder.{used_in, frames_in, store_most, is_over, within, used_long}
use Rattle.frames.specs.declared.State.{State}
use Rattle.frames.specs.Tally.{items_of, item_bytes, items_within}
use Rattle.sections.specs.Section.{vector, contents_of, data_count}
use Rattle.sections.specs.declared.Given.{Given}

-- a number of 32 bits takes at most five bytes
five : (n : ℕ) → n < 2 ^ 32 → length (uleb n) ≤ 5
five n h = bytes_at_most 4 unsigned (pos n) (omega arith)

module _ (state : State) (store : List ℕ) (h : is_over state store ≡ false) (i : ℕ) where
  few : length (items_of i (frames_of (used_in state store))) + length (item_bytes i (used_in state store)) ≤ store_most
  few = omega (arith, (within state store h).most, items_within i (used_in state store), used_long state store)

  pub count_fits : length (items_of i (held (frames_in state store))) < 2 ^ 32
  count_fits = omega (arith, few)

  pub size_fits : (given : Given) → given.count < 2 ^ 32 → length (contents_of given (held (frames_in state store)) i) < 2 ^ 32
  size_fits given k = go (eqb i data_count)
    where
      own : length (vector (items_of i (held (frames_in state store)))) < 2 ^ 32
      own = omega (arith, few, five (length (items_of i (frames_of (used_in state store)))) count_fits, length-append (uleb (length (items_of i (frames_of (used_in state store))))) (item_bytes i (used_in state store)))

      go : (t : Bool) → length (cond t (uleb given.count) (vector (items_of i (held (frames_in state store))))) < 2 ^ 32
      go true = omega (arith, five given.count k)
      go false = own
