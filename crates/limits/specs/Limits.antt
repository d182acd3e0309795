-- Limits, which tables and memories share (document 01, Records, Table type and Memory type; Items to bytes, Table type; Core Specification 3.0, Binary
-- Format, Types, Limits): flags, minimum, maximum if present. Both are any 64-bit numbers, in no order, whatever the flags say. Assumes nothing.
use Rattle.std.specs.Prelude.{◌≡◌, refl, Bool, true, false, ℕ, Option, None, Some}
use Rattle.std.proofs.Common.{ap}
use Rattle.format.specs.Format.{Format}
use Rattle.format.specs.Basic.{empty}
use Rattle.format.specs.Combine.{pair, dep, iso}
use Rattle.format.specs.Agree.{Agree, agree_same, pair_agree}
use Rattle.leb128.proofs.Formats.{u64}
use Rattle.words.specs.Words.{unused}
use Rattle.words.specs.Number64.{number64}
use Rattle.limits.specs.Flags.{Flags, flags}

pub record Limits : Type 0 where
  pub wide : Bool
  pub shared : Bool
  pub minimum : ℕ
  pub maximum : Option ℕ

-- what stands behind the minimum
abbrev pub Behind : Bool → Type 0
Behind true = ℕ
Behind false = Unit {0}

abbrev pub is_present : Option ℕ → Bool
is_present None = false
is_present (Some n) = true

abbrev pub maximum_to : (m : Option ℕ) → Behind (is_present m)
maximum_to None = tt
maximum_to (Some n) = n

abbrev pub maximum_of : (b : Bool) → Behind b → Option ℕ
maximum_of true n = Some n
maximum_of false u = None

maximum_of_to : (m : Option ℕ) → maximum_of (is_present m) (maximum_to m) ≡ m
maximum_of_to None = refl
maximum_of_to (Some n) = refl

abbrev pub Parts : Type 0
Parts = (f : Flags) × (ℕ × Behind f.present)

abbrev pub limits_to : Limits → Parts
limits_to l = (record { present = is_present l.maximum; shared = l.shared; wide = l.wide }, (l.minimum, maximum_to l.maximum))

abbrev pub limits_of : Parts → Limits
limits_of p = record { wide = p.0.wide; shared = p.0.shared; minimum = p.1.0; maximum = maximum_of p.0.present p.1.1 }

pub limits_of_to : (l : Limits) → limits_of (limits_to l) ≡ l
limits_of_to l = ap (λ (m : Option ℕ). record { wide = l.wide; shared = l.shared; minimum = l.minimum; maximum = m }) (maximum_of_to l.maximum)

pub limits_to_of : (p : Parts) → limits_to (limits_of p) ≡ p
limits_to_of p = go p.0.present p.1.1
  where
    go : (b : Bool) (x : Behind b)
        → ◌≡◌ {A = Parts} (limits_to (limits_of (record { present = b; shared = p.0.shared; wide = p.0.wide }, (p.1.0, x))))
        (record { present = b; shared = p.0.shared; wide = p.0.wide }, (p.1.0, x))
    go true n = refl
    go false u = refl

-- numbers by N; what stands where there is no maximum by Z
module _ (N : Format ℕ) (Z : Format (Unit {0})) where
  abbrev pub behind : (b : Bool) → Format (Behind b)
  behind true = N
  behind false = Z

  abbrev pub sizes : (b : Bool) → Format (ℕ × Behind b)
  sizes b = pair N (behind b)

  abbrev pub limits : Format Limits
  limits = iso (dep flags (λ f. sizes f.present)) limits_to limits_of limits_of_to limits_to_of

-- words: an absent maximum is 0 0
abbrev pub sizes_words : (b : Bool) → Format (ℕ × Behind b)
sizes_words = sizes number64 unused

abbrev pub limits_words : Format Limits
limits_words = limits number64 unused

-- bytes: an absent maximum takes none
abbrev pub sizes_bytes : (b : Bool) → Format (ℕ × Behind b)
sizes_bytes = sizes u64 empty

abbrev pub limits_bytes : Format Limits
limits_bytes = limits u64 empty

-- the limits that have words are those that have bytes
behind_agree : (b : Bool) → Agree (behind number64 unused b) (behind u64 empty b)
behind_agree true = agree_same u64
behind_agree false = agree_same empty

sizes_agree : (b : Bool) → Agree (sizes_words b) (sizes_bytes b)
sizes_agree b = pair_agree number64 u64 (behind number64 unused b) (behind u64 empty b) (agree_same u64) (behind_agree b)

pub limits_agree : Agree limits_words limits_bytes
limits_agree l = let a = sizes_agree (is_present l.maximum) (limits_to l).1 in (λ h. (h.0, a.0 h.1), λ h. (h.0, a.1 h.1))
