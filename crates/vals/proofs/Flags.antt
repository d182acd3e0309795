-- Whether a type is mutable, 0 or 1, which is the same as a word and as a byte: x is what stands at a place. Assumes nothing.
use mathlib.Core.Path.{◌≡◌, refl, ap}
use mathlib.Core.List.{List, [], ◌∷◌, ◌++◌}
use Prim.Native.Nat.{ℕ, ◌+◌, ◌<◌, ◌≤◌}
use native.Mathlib.Omega.{arith}
use lib.Dec.{eqb}
use lib.ListN.{length, get_or, drop}
use Rattle.format.specs.Read.{drop_more}
use Rattle.format.specs.Basic.{flag, flag_at, flag_print}
use Rattle.format.specs.Count.{Appends, silent, adds_eq}
use Rattle.format.specs.Walk.{Walks, value_there}
use Rattle.format.specs.declared.Done.{Done}
use Rattle.std.specs.Prelude.{Some}

-- x stands at the place
module _ {w : List ℕ} {at : ℕ} (k : at < length w) {x : ℕ} (y : x ≡ get_or w at 0) {old : List ℕ} {s : Done} {new : List ℕ} where
  -- with what was appended in front of it
  pub flag_behind : (pre : List ℕ) {u : Done} → x ≤ 1 → Appends (pre ++ (x ∷ [])) old s new u → Walks flag (λ b. pre ++ flag.print b) silent w at old s new (Some (at + 1, u))
  flag_behind pre h a =
      value_there {a = eqb x 1} (adds_eq (ap (λ (l : List ℕ). pre ++ l) (flag_print x h)) refl a) (rw (drop_more w at k, ← y) (flag_at x (drop (at + 1) w) h)) (omega arith)
