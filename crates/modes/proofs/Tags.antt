-- A fixed number at a place, and what follows it. Assumes nothing.
use mathlib.Core.Path.{◌≡◌, refl, sym, subst}
use mathlib.Core.List.{List, ◌∷◌}
use Prim.Native.Nat.{ℕ, ◌+◌, ◌<◌}
use lib.ListN.{length, get_or, drop}
use borrow.Author.Tests.{eq-eqb, ne_eqb}
use Rattle.format.specs.Parsed.{Parsed, fail}
use Rattle.format.specs.Format.{Format}
use Rattle.format.specs.Basic.{tag}
use Rattle.format.specs.Read.{drop_more}
use Rattle.format.specs.Walk.{Walked, Walks}
use Rattle.format.specs.declared.Done.{Done}
use Rattle.format.specs.Walk.{Walk}

pub stands : (k : ℕ) (w : List ℕ) (at : ℕ) → at < length w → get_or w at 0 ≡ k → drop at w ≡ k ∷ drop (at + 1) w
stands k w at h e = rw (drop_more w at h, e)

module _ {A : Type 0} (k : ℕ) (F : Format A) (w : List ℕ) (at : ℕ) where
  module _ (h : at < length w) where
    pub tag_not : (get_or w at 0 ≡ k → ⊥) → (tag k F).parse (drop at w) ≡ fail
    tag_not n = rw (drop_more w at h, ne_eqb (get_or w at 0) k n)

    tag_is : get_or w at 0 ≡ k → (tag k F).parse (drop at w) ≡ F.parse (drop (at + 1) w)
    tag_is e = rw (stands k w at h e, eq-eqb k k refl)

    -- where it stands, a walk behind it is one from it on
    pub tag_walks : {f : A → List ℕ} {g : A → ℕ} {old : List ℕ} {s : Done} {new : List ℕ} {r : Walk} → get_or w at 0 ≡ k → Walks F f g w (at + 1) old s new r
        → Walks (tag k F) f g w at old s new r
    tag_walks {f} {g} {old} {s} {new} {r} e x = record { walked = subst (λ (m : Parsed A). Walked f g w m old s new r) (sym (tag_is e)) x.walked }
