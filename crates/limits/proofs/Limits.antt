-- How the walks over limits are put together: a size, a minimum and what stands behind it, and both behind their flags. Assumes nothing.
use mathlib.Core.Path.{◌≡◌, refl, sym, ap, subst, ◌∙◌}
use mathlib.Core.Bool.{Bool, false}
use mathlib.Core.List.{List, [], ◌∷◌}
use Prim.Native.Nat.{ℕ, ◌+◌, ◌/◌, ◌<◌}
use native.Mathlib.Omega.{arith}
use lib.Bits.{bit_and, and_mask}
use lib.Dec.{eqb}
use lib.ListN.{length, get_or}
use borrow.Author.Tests.{lt-ltb}
use Rattle.format.specs.Parsed.{map, map-map}
use Rattle.format.specs.Format.{Format}
use Rattle.format.specs.Basic.{empty}
use Rattle.format.specs.Combine.{dep_print}
use Rattle.format.specs.Count.{Appends, silent}
use Rattle.format.specs.Sequence.{Joins, pair_joins, dep_known, second_follows}
use Rattle.format.specs.Dispatch.{Opens, opened}
use Rattle.format.specs.Walk.{Walks, gone, value_there}
use Rattle.format.specs.declared.Done.{Done}
use Rattle.format.specs.Walk.{Walk}
use Rattle.std.specs.Prelude.{Some}
use Rattle.leb128.proofs.Formats.{u64}
use Rattle.words.specs.Words.{unused}
use Rattle.words.specs.Number64.{number64}
use Rattle.limits.specs.Flags.{flags, flags_of, flags_to_of}
use Rattle.limits.specs.Limits.{limits_of, limits_to_of, behind, sizes, limits}

-- ---- a way: what is read and what is written of it, for a size and for where there is no maximum

pub record Way : Type 1 where
  pub from : Format ℕ
  pub to : Format ℕ
  pub from_none : Format (Unit {0})
  pub to_none : Format (Unit {0})

abbrev pub of_bytes : Way
of_bytes = record { from = u64; to = number64; from_none = empty; to_none = unused }

abbrev pub of_words : Way
of_words = record { from = number64; to = u64; from_none = unused; to_none = empty }

-- the walks over a size; over what stands behind the minimum, b saying whether it is a maximum; over both; and over limits
module _ (D : Way) where
  abbrev Size : List ℕ → ℕ → List ℕ → Done → List ℕ → Walk → Type 0
  Size = Walks D.from D.to.print silent

  abbrev Rest : Bool → List ℕ → ℕ → List ℕ → Done → List ℕ → Walk → Type 0
  Rest b = Walks (behind D.from D.from_none b) (behind D.to D.to_none b).print silent

  abbrev Sizes : Bool → List ℕ → ℕ → List ℕ → Done → List ℕ → Walk → Type 0
  Sizes b = Walks (sizes D.from D.from_none b) (sizes D.to D.to_none b).print silent

  abbrev Whole : List ℕ → ℕ → List ℕ → Done → List ℕ → Walk → Type 0
  Whole = Walks (limits D.from D.from_none) (limits D.to D.to_none).print silent

  -- ---- a minimum, and what stands behind it

  sizes_join : (b : Bool)
      → Joins D.from.parse D.to.print silent (behind D.from D.from_none b).parse (behind D.to D.to_none b).print silent (sizes D.from D.from_none b).parse
      (sizes D.to D.to_none b).print silent
  sizes_join b = pair_joins D.from D.to.print (behind D.from D.from_none b) (behind D.to D.to_none b).print

  pub rest_follows : (c b : Bool) {w : List ℕ} {at : ℕ} {old : List ℕ} {s : Done} {cur : List ℕ} {r : Walk} {p : ℕ} {u : Done} {new : List ℕ} {r' : Walk} → Size w at old s cur r
      → r ≡ Some (p, u) → b ≡ c → Rest c w p cur u new r' → Sizes b w at old s new r'
  rest_follows c b {w} {cur = cur} {p = p} {u} {new} {r'} h e i k = second_follows (sizes_join b) h e (subst (λ (c : Bool). Rest c w p cur u new r') (sym i) k)

-- no maximum: of no bytes two words are appended; and of two unused words nothing
module _ (b : Bool) (i : b ≡ false) {w : List ℕ} {at : ℕ} {old : List ℕ} {s : Done} {new : List ℕ} {r : Walk} {p : ℕ} {u : Done} where
  pub none_there : {cur : List ℕ} {v : Done} → Size of_bytes w at old s cur r → r ≡ Some (p, u) → Appends (0 ∷ 0 ∷ []) cur u new v → Sizes of_bytes b w at old s new (Some (p, v))
  none_there {cur} h e a = rest_follows of_bytes false b h e i (value_there {a = tt} a refl (gone u64 h e).place)

  pub unused_follow : {r' : Walk} → Size of_words w at old s new r → r ≡ Some (p, u) → ((out : List ℕ) → Walks unused (λ x. []) silent w p out u out r') → Sizes of_words b w at old s new r'
  unused_follow h e k = rest_follows of_words false b h e i (k new)

-- ---- both behind their flags

module _ (D : Way) where
  flags_open : (x : ℕ) → x < 8
      → Opens x (x ∷ []) (sizes D.from D.from_none (flags_of x).present).parse (sizes D.to D.to_none (flags_of x).present).print silent (limits D.from D.from_none).parse
      (limits D.to D.to_none).print silent
  flags_open x l =
      record {
        name = λ p. limits_of (flags_of x, p);
        reads = λ s. ap (map limits_of) (dep_known flags (λ f. sizes D.from D.from_none f.present) (flags_of x) (x ∷ s) s (rw (lt-ltb x 8 l)))
            ∙ map-map limits_of (λ p. (flags_of x, p)) ((sizes D.from D.from_none (flags_of x).present).parse s);
        writes = λ p. ap (λ (n : ℕ). n ∷ (sizes D.to D.to_none (flags_of x).present).print p) (sym (flags_to_of x l))
            ∙ sym (ap (dep_print flags (λ f. sizes D.to D.to_none f.present)) (limits_to_of (flags_of x, p)));
        draws = λ p. refl;
      }

  -- x is the byte or the word at the place
  pub sizes_follow : {w : List ℕ} {at : ℕ} {old : List ℕ} {s : Done} {new : List ℕ} {cur : List ℕ} {t : Done} {r : Walk} (x : ℕ) → at < length w → x ≡ get_or w at 0 → x / 8 ≡ 0
      → Appends (x ∷ []) old s cur t → Sizes D (eqb (bit_and x 1) 1) w (at + 1) cur t new r → Whole D w at old s new r
  sizes_follow {w} {at} {old} {s} {new} {cur} {t} {r} x h y l a k =
      opened (flags_open x (omega arith)) (sym y) h (subst (λ (c : Bool). Sizes D c w (at + 1) cur t new r) (ap (λ (n : ℕ). eqb n 1) (and_mask x 1)) k) a
