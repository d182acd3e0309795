-- Walks over two words: fewer are left, or there are two, which are unused. Assumes nothing.
use Rattle.std.specs.Prelude.{◌≡◌, List, ℕ, ◌+◌, ◌-◌, ◌<◌, ◌≤◌, length, get_or}
use Rattle.std.proofs.Common.{arith, ne_eqb}
use Rattle.format.specs.Format.{Format}
use Rattle.format.specs.Count.{Appends, silent}
use Rattle.format.specs.Read.{drop_two, too_few}
use Rattle.format.specs.Walk.{Walks, nothing_there, value_there}
use Rattle.format.specs.declared.Done.{Done}
use Rattle.std.specs.Prelude.{None, Some}
use Rattle.words.specs.Words.{unused}

pub one_left : {A : Type 0} (F : Format A) → ((a : A) → F.Ok a → 2 ≤ length (F.print a)) → {f : A → List ℕ} {g : A → ℕ} {w : List ℕ} {at : ℕ} {old : List ℕ} {s : Done} {new : List ℕ}
    → at < length w → length w - at < 2 → Walks F f g w at old s new None
one_left F long {w = w} {at} h l = nothing_there (too_few F 2 (omega arith) long w at (omega arith))

module _ {f : Unit {0} → List ℕ} {w : List ℕ} {at : ℕ} {old : List ℕ} {s : Done} {new : List ℕ} (h : at < length w) where
  pub unused_short : length w - at < 2 → Walks unused f silent w at old s new None
  unused_short l = one_left unused (λ u ok. omega arith) h l

  module _ (k : 2 ≤ length w - at) where
    pub first_used : (get_or w at 0 ≡ 0 → ⊥) → Walks unused f silent w at old s new None
    first_used n = nothing_there (rw (drop_two w at (omega arith), ne_eqb (get_or w at 0) 0 n))

    module _ (z : get_or w at 0 ≡ 0) where
      pub second_used : (get_or w (at + 1) 0 ≡ 0 → ⊥) → Walks unused f silent w at old s new None
      second_used n = nothing_there (rw (drop_two w at (omega arith), z, ne_eqb (get_or w (at + 1) 0) 0 n))

      pub both_unused : {u : Done} → get_or w (at + 1) 0 ≡ 0 → Appends (f tt) old s new u → Walks unused f silent w at old s new (Some (at + 2, u))
      both_unused y a = value_there {a = tt} a (rw (drop_two w at (omega arith), z, y)) (omega arith)
