-- Entity types at a place, by the sort that stands there: words or bytes alike. Assumes nothing.
use mathlib.Core.Path.{◌≡◌, refl, sym, ap, subst, ◌∙◌}
use mathlib.Core.List.{List, [], ◌∷◌}
use Prim.Native.Nat.{ℕ, ◌+◌, ◌<◌}
use lib.ListN.{length, get_or, drop}
use Rattle.format.specs.Parsed.{map, map-map}
use Rattle.format.specs.Format.{Format}
use Rattle.format.specs.Count.{Appends, silent}
use Rattle.format.specs.Read.{one_read}
use Rattle.format.specs.Sequence.{dep_known}
use Rattle.format.specs.Walk.{Walks, walks_as}
use Rattle.format.specs.declared.Done.{Done}
use Rattle.format.specs.Walk.{Walk}
use Rattle.parts.specs.Reading.{Reading, textless_reads}
use Rattle.imports.specs.Entity.{Sort, sort_of, sort, TypeOf, type_words, type_bytes, entity_of, entity_of_lem, entity_type, entity_words, entity_bytes, entity_agree, entity}

-- F: how it is read; G: how it is written
module _ (F G : (k : Sort) → Format (TypeOf k)) where
  abbrev EntityWalks : List ℕ → ℕ → List ℕ → Done → List ℕ → Walk → Type 0
  EntityWalks w at old s new r = Walks (entity_type F) (entity_type G).print silent w at old s new r

  module _ {w : List ℕ} {at : ℕ} {old : List ℕ} {s : Done} {new : List ℕ} (h : at < length w) where
    entity_known : (k : Sort) {cur : List ℕ} {u : Done} {r : Walk} → get_or w at 0 ≡ sort_of k → Appends (get_or w at 0 ∷ []) old s cur u → Walks (F k) (G k).print silent w (at + 1) cur u new r
        → EntityWalks w at old s new r
    entity_known k {cur} {u} e a x =
        walks_as (entity_of k)
        (ap (map (λ (p : (k : Sort) × TypeOf k). entity_of p.0 p.1)) (dep_known sort F k (drop at w) (drop (at + 1) w) (one_read sort k (sort_of k) tt refl w at h e))
        ∙ map-map (λ (p : (k : Sort) × TypeOf k). entity_of p.0 p.1) (λ t. (k, t)) ((F k).parse (drop (at + 1) w)))
        (prints k) (λ t. refl) (subst (λ (n : ℕ). Appends (n ∷ []) old s cur u) e a) x
      where
        prints : (k : Sort) (t : TypeOf k) → sort_of k ∷ (G k).print t ≡ (entity_type G).print (entity_of k t)
        prints k t = ap (λ (p : (k : Sort) × TypeOf k). sort_of p.0 ∷ (G p.0).print p.1) (sym (entity_of_lem (k, t)))

-- ---- what the code has read

-- x is what stands at the place: one of the sorts
module _ (k : Sort) {w : List ℕ} {at : ℕ} {old : List ℕ} {s : Done} {cur : List ℕ} {u : Done} {new : List ℕ} {r : Walk} {x : ℕ} (h : at < length w) (y : x ≡ get_or w at 0) (e : x ≡ sort_of k)
    (a : Appends (x ∷ []) old s cur u) where
  pub sort_reads : Walks (type_bytes k) (type_words k).print silent w (at + 1) cur u new r → Reading entity w at old s new r
  sort_reads z = textless_reads entity_words entity_bytes entity_agree (entity_known type_bytes type_words h k (sym y ∙ e) (rw (← y) a) z)

  pub sort_writes : Walks (type_words k) (type_bytes k).print silent w (at + 1) cur u new r → Walks entity_words entity_bytes.print silent w at old s new r
  sort_writes z = entity_known type_words type_bytes h k (sym y ∙ e) (rw (← y) a) z
