-- Sections laid out one behind the other, while their items are still to come: a walk over the frames finds the items of all sections in the order of adding,
-- and writes each where its section has room for it. Assumes nothing.
use Rattle.std.specs.Prelude.{◌≡◌, Ok, List, [], ◌∷◌, ◌++◌, ℕ, ◌+◌, ◌<◌, length, get_or}
use Rattle.format.specs.Write.{Writes}
use Rattle.frames.specs.Tally.{Tallies, tally_at}
use Rattle.sections.specs.Section.{head_of, said_of}
use Rattle.sections.specs.Order.{Away}
use Rattle.sections.specs.declared.Given.{Given}

-- by a section's id: what stands before its items, and how many bytes they have
pub record Plan : Type 0 where
  pub head : ℕ → List ℕ
  pub total : ℕ → ℕ

-- as a tally has them
abbrev pub plan_of : Tallies → Given → Plan
plan_of t given = record { head = λ i. head_of i (said_of given i (tally_at t i).count) (tally_at t i).total; total = λ i. (tally_at t i).total }

-- how many bytes the sections of an order list have
abbrev pub room_of : Plan → List ℕ → ℕ
room_of p [] = 0
room_of p (i ∷ order) = length (p.head i) + p.total i + room_of p order

-- the bytes of the sections of an order list, which stand from place `at` on: each one's head, what it has got of its items, and a gap for the others.
-- Its next item's place is noted by its id
pub data Laid (p : Plan) (got : ℕ → List ℕ) (places : List ℕ) : ℕ → List ℕ → List ℕ → Type 0 where
  laid_none : {at : ℕ} → Laid p got places at [] []
  laid_more : {at i : ℕ} {order b rest : List ℕ} (gap : List ℕ) → b ≡ (p.head i ++ (got i ++ gap)) ++ rest → length (got i) + length gap ≡ p.total i
      → get_or places i 0 ≡ at + length (p.head i) + length (got i) → Laid p got places (at + (length (p.head i) + p.total i)) order rest
      → Laid p got places at (i ∷ order) b

-- only heads were written, over the front of xs, and n bytes are laid out; where the order list has no such section, 0 is noted
pub record Headed (p : Plan) (order xs ys places : List ℕ) (n : ℕ) : Type 0 where
  pub bytes : List ℕ
  pub laid : Laid p (λ i. []) places 0 order bytes
  pub done : Writes bytes xs ys (Ok n)
  pub few : length places ≡ 16
  pub others : (i : ℕ) → i < 16 → Away i order → get_or places i 0 ≡ 0
