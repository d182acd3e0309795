-- Order lists (document 01, Store and module; answer 8: none). Assumes nothing.
use Rattle.std.specs.Prelude.{◌≡◌, Bool, true, false, cond, List, [], ◌∷◌, ◌++◌, ℕ}
use Rattle.format.specs.Lists.{All}
use Rattle.frames.specs.Ids.{sections, among}
use Rattle.sections.specs.Section.{data_count}

-- an order list has at most 32 ids, of sections that hold items and of the data count section
abbrev pub order_most : ℕ
order_most = 32

abbrev pub order_ids : List ℕ
order_ids = sections ++ (data_count ∷ [])

abbrev pub all_among : List ℕ → List ℕ → Bool
all_among ids [] = true
all_among ids (i ∷ order) = cond (among ids i) (all_among ids order) false

-- an id that a list does not have, and a list that has none twice
abbrev pub Away : ℕ → List ℕ → Type 0
Away i order = All (λ j. j ≡ i → ⊥) order

abbrev pub Once : List ℕ → Type 0
Once [] = Unit {0}
Once (i ∷ order) = Away i order × Once order
