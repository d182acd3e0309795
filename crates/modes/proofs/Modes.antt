-- The mode at a place. Assumes nothing.
use mathlib.Core.Path.{◌≡◌, refl, sym, ap, ◌∙◌}
use mathlib.Core.List.{List}
use Prim.Native.Nat.{ℕ, ◌+◌, ◌≤◌}
use native.Mathlib.Omega.{arith}
use lib.ListN.{length, drop}
use Rattle.format.specs.Parsed.{Parsed, fail, got}
use Rattle.format.specs.Read.{read_on, begins}
use Rattle.modes.specs.Mode.{mode_words, mode_read}
use Rattle.modes.specs.declared.Mode.{Mode}
use Rattle.std.specs.Prelude.{Option, None, Some}
use Rattle.modes.specs.declared.Mode.TheVariants.{Active, Passive, ActiveTable, Declared}

-- a mode takes two words
pub mode_long : (m : Mode) → length (mode_words.print m) ≡ 2
mode_long = elim [ Active ↦ refl | Passive ↦ refl | ActiveTable ↦ refl | Declared ↦ refl ]

-- what an answer tells
module _ (w : List ℕ) (at : ℕ) where
  mode_not : mode_read (mode_words.parse (drop at w)) ≡ None → mode_words.parse (drop at w) ≡ fail
  mode_not e = go (mode_words.parse (drop at w)) e
    where
      go : (k : Parsed Mode) → mode_read k ≡ None → k ≡ fail
      go fail q = refl
      go (got m r) q = let z : ◌≡◌ {A = ℕ} 0 1 = cc in absurd (omega arith)

  mode_is : (m : Mode) → mode_read (mode_words.parse (drop at w)) ≡ Some m → (mode_words.parse (drop at w) ≡ got m (drop (at + 2) w)) × (at + 2 ≤ length w)
  mode_is m e = go (mode_words.parse (drop at w)) refl e
    where
      go : (k : Parsed Mode) → mode_words.parse (drop at w) ≡ k → mode_read k ≡ Some m → (mode_words.parse (drop at w) ≡ got m (drop (at + 2) w)) × (at + 2 ≤ length w)
      go fail p q = let z : ◌≡◌ {A = ℕ} 0 1 = cc in absurd (omega arith)
      go (got n r) p q =
          let same : n ≡ m = cc in
          let (on, h) = read_on mode_words w at n r (begins mode_words w at n r (omega (arith, mode_long n)) p) p in (
            on ∙ ap (λ (i : ℕ). got n (drop (at + i) w)) (mode_long n) ∙ ap (λ (k : Mode). got k (drop (at + 2) w)) same,
            omega (arith, mode_long n, h),
          )

-- ---- what an answer told

module _ (w : List ℕ) (at : ℕ) {found : Option Mode} (d : found ≡ mode_read (mode_words.parse (drop at w))) where
  pub mode_missing : found ≡ None → mode_words.parse (drop at w) ≡ fail
  mode_missing e = mode_not w at (sym d ∙ e)

  module _ {m : Mode} (e : found ≡ Some m) where
    pub mode_found : mode_words.parse (drop at w) ≡ got m (drop (at + 2) w)
    mode_found = (mode_is w at m (sym d ∙ e)).0

    pub mode_within : at ≤ length w
    mode_within = omega (arith, (mode_is w at m (sym d ∙ e)).1)
