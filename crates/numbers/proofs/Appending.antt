-- A number behind what was appended: the writer is lent the part from the current end on. Assumes nothing.
use mathlib.Core.Path.{◌≡◌, ap, ◌∙◌}
use mathlib.Core.List.{List}
use Prim.Native.Nat.{ℕ, ◌-◌, min}
use lib.ListN.{length}
use borrow.Rule.Slice.PartMut.{mid_of, put_mid}
use Rattle.format.specs.Count.{Appends, count_in, grown_by, adds_part}
use Rattle.format.specs.Write.{Written, Writes, told_length}
use Rattle.format.specs.declared.Done.{Done}
use Rattle.std.specs.Prelude.{Ok, Err}
use Rattle.format.specs.declared.refusal.Refusal.{Refusal}

module _ {b : List ℕ} (out : List ℕ) (s : Done) {n at : ℕ} (c : n ≡ count_in s) (l : at ≡ min n (length out)) {part : List ℕ} {r : Written} (w : Writes b (mid_of at (length out - at) out) part r)
    (k : length part ≡ length (mid_of at (length out - at) out)) where
  place : at ≡ min (count_in s) (length out)
  place = l ∙ ap (λ (m : ℕ). min m (length out)) c

  pub appends_written : {m : ℕ} {t : Done} → r ≡ Ok m → t.v ≡ grown_by s m → Appends b out s (put_mid at (length out - at) out part) t
  appends_written {m} {t} e g = adds_part b out part s t at place (g ∙ ap (grown_by s) (told_length w e).0) k w

  -- what has no room is counted too
  pub appends_counted : {m : ℕ} {t : Done} {d : Refusal} → r ≡ Err d → m ≡ length b → t.v ≡ grown_by s m → Appends b out s (put_mid at (length out - at) out part) t
  appends_counted {m} {t} e q g = adds_part b out part s t at place (g ∙ ap (grown_by s) q) k w
