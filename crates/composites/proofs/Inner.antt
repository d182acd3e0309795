-- How the walks over composite types are put together: a function type of two lists, and the alternatives by the number that opens each. Assumes nothing.
use mathlib.Core.Path.{◌≡◌, refl, sym, ◌∙◌}
use mathlib.Core.List.{List, [], ◌∷◌}
use Prim.Native.Nat.{ℕ, ◌+◌, ◌<◌}
use lib.ListN.{length, get_or}
use Rattle.format.specs.Count.{Appends, silent}
use Rattle.format.specs.Sequence.{Joins, pair_joins}
use Rattle.format.specs.Dispatch.{Opens, opened, dep_opens}
use Rattle.format.specs.Walk.{Walk, Walks}
use Rattle.format.specs.declared.Done.{Done}
use Rattle.lists.specs.Member.{list_words, list_bytes}
use Rattle.lists.specs.declared.Member.TheVariants.{Val}
use Rattle.composites.specs.Composite.{Kind, func, kind_word, kind_words, kind_byte, kind_bytes, body_words, body_bytes, inner_words, inner_bytes}

pub func_read : Joins (list_bytes Val).parse (list_words Val).print silent (list_bytes Val).parse (list_words Val).print silent (body_bytes func).parse (body_words func).print silent
func_read = pair_joins (list_bytes Val) (list_words Val).print (list_bytes Val) (list_words Val).print

pub func_walk : Joins (list_words Val).parse (list_bytes Val).print silent (list_words Val).parse (list_bytes Val).print silent (body_words func).parse (body_bytes func).print silent
func_walk = pair_joins (list_words Val) (list_bytes Val).print (list_words Val) (list_bytes Val).print

kind_read : (k : Kind) → Opens (kind_byte k) (kind_word k ∷ []) (body_bytes k).parse (body_words k).print silent inner_bytes.parse inner_words.print silent
kind_read k = dep_opens kind_bytes body_bytes inner_words.print k (kind_byte k) (kind_word k ∷ []) (body_words k).print tt refl (λ b. refl)

kind_walk : (k : Kind) → Opens (kind_word k) (kind_byte k ∷ []) (body_words k).parse (body_bytes k).print silent inner_words.parse inner_bytes.print silent
kind_walk k = dep_opens kind_words body_words inner_bytes.print k (kind_word k) (kind_byte k ∷ []) (body_bytes k).print tt refl (λ b. refl)

-- x stands at the place
module _ (k : Kind) {w : List ℕ} {at x : ℕ} (h : at < length w) (y : x ≡ get_or w at 0) {old : List ℕ} {s : Done} {cur : List ℕ} {t : Done} {new : List ℕ} {r : Walk} where
  pub kind_reads : x ≡ kind_byte k → Appends (kind_word k ∷ []) old s cur t → Walks (body_bytes k) (body_words k).print silent w (at + 1) cur t new r → Walks inner_bytes inner_words.print silent w at old s new r
  kind_reads e a b = opened (kind_read k) (sym y ∙ e) h b a

  pub kind_walks : x ≡ kind_word k → Appends (kind_byte k ∷ []) old s cur t → Walks (body_words k) (body_bytes k).print silent w (at + 1) cur t new r → Walks inner_words inner_bytes.print silent w at old s new r
  kind_walks e a b = opened (kind_walk k) (sym y ∙ e) h b a
