-- What the code makes of a signed number's bits, at 64 of them: its sign, its magnitude, and the number again. Assumes nothing.
use mathlib.Core.Path.{◌≡◌, ap, ◌∙◌}
use mathlib.Core.Bool.{true}
use Prim.Native.Nat.{◌^◌}
use lib.IntN.{ℤ}
use lib.Signed.{mag}
use borrow.Author.Tests.{ltb-true}
use mir.Syntax.{w32, w64}
use mir.Val.{SFits, to_z, of_z}
use mir.Facts.{to_z-of_z, sfits_widen}
use Rattle.leb128.specs.Leb.{signed, within}

-- a number of 32 bits among those of 64, as it is cast and returned
module _ (z : ℤ) (w : within signed 32 z ≡ true) where
  narrow : SFits w32 z
  narrow = record { sfits = ltb-true (mag z) (2 ^ 31) w }

  pub cast32 : SFits w32 (to_z w64 (of_z w64 z))
  cast32 = rw (to_z-of_z {w = w64} (sfits_widen {w = w32} {w' = w64} (tt {0}) narrow)) narrow

  pub back32 : to_z w32 (of_z w32 (to_z w64 (of_z w64 z))) ≡ z
  back32 = ap (λ (y : ℤ). to_z w32 (of_z w32 y)) (to_z-of_z {w = w64} (sfits_widen {w = w32} {w' = w64} (tt {0}) narrow)) ∙ to_z-of_z narrow
