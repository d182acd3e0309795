-- How the walks over groups are put together: by the first of their words, and of their bytes. Assumes nothing.
use mathlib.Core.Path.{◌≡◌, refl, sym, ◌∙◌}
use mathlib.Core.Bool.{Bool, true, false}
use mathlib.Core.List.{List, [], ◌∷◌}
use Prim.Native.Nat.{ℕ, ◌+◌, ◌<◌}
use native.Mathlib.Omega.{arith}
use lib.ListN.{length, get_or, drop}
use borrow.Author.Tests.{ne_eqb}
use Rattle.format.specs.Parsed.{map, map_same}
use Rattle.format.specs.Basic.{tag, bit, flag}
use Rattle.format.specs.Count.{Appends, silent, adds_nil}
use Rattle.format.specs.Read.{drop_more, one_read}
use Rattle.format.specs.Told.{one_at}
use Rattle.format.specs.Walk.{Walks, walks_as}
use Rattle.format.specs.declared.Done.{Done}
use Rattle.format.specs.Walk.{Walk}
use Rattle.words.proofs.Lent.{Two}
use Rattle.subtypes.specs.SubType.{sub_words, sub_bytes}
use Rattle.subtypes.specs.Agree.{sub_agree}
use Rattle.parts.specs.Listed.{listed}
use Rattle.parts.specs.Chosen.{chosen_writing, chosen_reading}
use Rattle.parts.specs.Reading.{Reading, textless_reads, behind_reads, words_before}
use Rattle.parts.specs.Writing.{Writing, behind_writing}
use Rattle.groups.specs.RecGroup.{sub_type, form, is_group, group_bytes, type_section}

-- ---- bytes: 4E tells a group

module _ {b : List ℕ} {at : ℕ} {old : List ℕ} {s : Done} {new : List ℕ} (h : at < length b) {x : ℕ} (y : x ≡ get_or b at 0) where
  form_reads : (g : Bool) → is_group (drop at b) ≡ g → {cur : List ℕ} {u : Done} {r : Walk} → Appends (bit g ∷ []) old s cur u → Reading (form g) b at cur u new r
      → Reading type_section b at old s new r
  form_reads g e a x = chosen_reading flag (λ g. tt) form group_bytes (λ x. (λ h. h, λ h. h)) (λ x. refl) g (one_at is_group (λ g. (form g).bytes) g (drop at b) e) a x

  pub group_reads : {cur : List ℕ} {u : Done} {r : Walk} → x ≡ 0x4E → Appends (1 ∷ []) old s cur u → Reading (listed sub_type) b (at + 1) cur u new r → Reading type_section b at old s new r
  group_reads {cur} {u} {r} e a q = form_reads true (rw (drop_more b at h, ← y, e)) a (behind_reads 0x4E (listed sub_type) b at cur u new r (rw (drop_more b at h, ← y, e)) q)

  pub single_reads : {o : List ℕ} {v : Done} {cur : List ℕ} {u : Done} {r : Walk} → (x ≡ 0x4E → ⊥) → Appends (0 ∷ []) old s o v → Appends (1 ∷ []) o v cur u
      → Walks sub_bytes sub_words.print silent b at cur u new r → Reading type_section b at old s new r
  single_reads n a c q =
      form_reads false (rw (drop_more b at h, ← y, ne_eqb x 0x4E n)) a
      (words_before sub_type (form false) (1 ∷ []) (λ s. refl) (λ n y. refl) c (textless_reads sub_words sub_bytes sub_agree q))

-- ---- words: the group flag, which is the first of v, what stands from the place on

module _ {w : List ℕ} {at : ℕ} {v : List ℕ} (two : Two w at v) {old : List ℕ} {s : Done} {new : List ℕ} (t : List ℕ) where
  form_writes : (g : Bool) → get_or v 0 0 ≡ bit g → {r : Walk} → Writing (form g) t w (at + 1) old s new r → Writing type_section t w at old s new r
  form_writes g e x =
      let p = two.place in
      chosen_writing flag (λ g. tt) form group_bytes (λ x. (λ h. h, λ h. h)) (λ x. refl) g (one_read flag g (bit g) tt refl w at (omega arith) (sym two.first ∙ e)) x

  pub group_writes : {cur : List ℕ} {u : Done} {r : Walk} → get_or v 0 0 ≡ 1 → Appends (0x4E ∷ []) old s cur u → ((t : List ℕ) → Writing (listed sub_type) t w (at + 1) cur u new r)
      → Writing type_section t w at old s new r
  group_writes e a x = form_writes true e (behind_writing 0x4E (listed sub_type) a (x t))

  pub single_writes : {r : Walk} → get_or v 0 0 ≡ 0 → get_or v 1 0 ≡ 1 → Walks sub_words sub_bytes.print silent w (at + 2) old s new r → Writing type_section t w at old s new r
  single_writes e f x =
      let l = two.place in
      let f : get_or w (at + 1) 0 ≡ 1 = sym two.second ∙ f in
      let q : at + 1 + 1 ≡ at + 2 = omega arith in
      let p : (tag 1 sub_words).parse (drop (at + 1) w) ≡ map (λ y. y) (sub_words.parse (drop (at + 2) w)) = rw (drop_more w (at + 1) (omega arith), f, q) (map_same (sub_words.parse (drop (at + 2) w))) in
      form_writes false e (record { writes = walks_as (λ y. y) p (λ y. refl) (λ y. refl) (adds_nil old s) x })
