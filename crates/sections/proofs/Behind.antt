-- A writer that is lent what is behind another: where it starts, that the sum of what both wrote does not wrap, and that what was lent stays as long. Assumes nothing.
use mathlib.Core.Path.{◌≡◌, ap, subst}
use mathlib.Core.List.{List}
use Prim.Native.Nat.{ℕ, ◌+◌, ◌-◌, ◌≤◌, ◌<◌, ◌^◌}
use native.Mathlib.Omega.{arith}
use mir.Syntax.{w64}
use mir.Val.{Fits}
use lib.ListN.{length, length-drop}
use borrow.Rule.Slice.PartMut.{mid_of}
use Rattle.format.specs.Write.{Written, Writes, Room, wrote, writes_then, within, same_long, rest_lent}
use Rattle.std.specs.Prelude.{Ok, IsOk, is_ok}

pub room_long : {b ys : List ℕ} {n : ℕ} → Room b ys n → n + length b ≤ length ys
room_long {ys = ys} {n = n} r = omega (arith, r.start, r.room, ap length (rest_lent n ys), length-drop n ys)

-- a writer that there is room for: it wrote, and what was lent holds what its answer says
module _ {b xs ys : List ℕ} {r : Written} (w : Writes b xs ys r) where
  pub room_ok : length b ≤ length xs → IsOk r
  room_ok h = ap is_ok (wrote w h).0

  pub written : {k : ℕ} → r ≡ Ok k → Writes b xs ys (Ok k)
  written e = subst (Writes b xs ys) e w

module _ {a xs ys : List ℕ} {n : ℕ} (w : Writes a xs ys (Ok n)) where
  pub behind_starts : n ≤ length ys
  behind_starts = omega (arith, within w, same_long w)

  module _ {b zs : List ℕ} {m : ℕ} (v : Writes b (mid_of n (length ys - n) ys) zs (Ok m)) where
    -- the sum as the code has it is k: it is held against n + m only once both are found
    pub behind_fits : {k : ℕ} → n + m ≡ k → length xs < 2 ^ 64 → Fits w64 k
    behind_fits e h = record { fits = omega (arith, within (writes_then w v)) }
