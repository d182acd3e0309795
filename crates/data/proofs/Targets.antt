-- How the walks over where data goes are put together: by the mode and the words behind it, and by the first byte. Assumes nothing.
use mathlib.Core.Path.{◌≡◌, refl, sym, ap, ◌∙◌}
use mathlib.Core.List.{List, [], ◌∷◌}
use Prim.Native.Nat.{ℕ, ◌+◌, ◌<◌, ◌≤◌}
use native.Mathlib.Omega.{arith}
use lib.ListN.{length, get_or, drop}
use borrow.Author.Tests.{ne_eqb}
use Rattle.format.specs.Count.{Adds, Appends, silent, adds_seq, adds_eq}
use Rattle.format.specs.Read.{reading, drop_more, drop_two, one_read}
use Rattle.format.specs.Told.{one_at}
use Rattle.format.specs.Walk.{Walks, value_there}
use Rattle.format.specs.declared.Done.{Done}
use Rattle.format.specs.Walk.{Walk}
use Rattle.std.specs.Prelude.{Some}
use Rattle.leb128.proofs.Formats.{u32}
use Rattle.leb128.specs.Leb.{uleb}
use Rattle.numbers.specs.Answers.{read_as}
use Rattle.numbers.specs.Decoded.{number_found, number_place}
use Rattle.std.specs.Prelude.{Option, slice_range}
use Rattle.texts.specs.Text.{constant, slice_of, refusal_of}
use Rattle.words.specs.Words.{word}
use Rattle.texts.specs.Spans.{span_at_lem}
use Rattle.words.specs.WordWalks.{AreWords, word_read}
use Rattle.texts.specs.declared.Span.{Span}
use Rattle.parts.proofs.Rest.{at_rest}
use Rattle.parts.specs.Writing.{Writing}
use Rattle.parts.specs.Reading.{Reading}
use Rattle.parts.specs.Chosen.{chosen_writing, chosen_reading}
use Rattle.data.specs.Target.{memory_index_bytes, Mode, passive, active, no_target, target_of, mode_code, mode_word, mode_at, target_bytes, target}

-- ---- a memory

module _ (m : ℕ) {old : List ℕ} {s : Done} {new : List ℕ} {u : Done} where
  pub first_memory_added : m ≡ 0 → Appends (0 ∷ []) old s new u → Appends (memory_index_bytes.print m) old s new u
  first_memory_added e a = rw e a

  pub other_memory_added : {cur : List ℕ} {t : Done} → (m ≡ 0 → ⊥) → Appends (2 ∷ []) old s cur t → Appends (uleb m) cur t new u → Appends (memory_index_bytes.print m) old s new u
  other_memory_added n a b = rw (ne_eqb m 0 n) (adds_seq a b)

-- x is the byte at the place, m the number behind it
pub other_there : {b : List ℕ} {at : ℕ} {old : List ℕ} {s : Done} {new : List ℕ} {x m p : ℕ} {r : Option (ℕ × ℕ)} {u : Done} → at < length b → x ≡ get_or b at 0 → x ≡ 2
    → read_as 0 r ≡ reading 0 b (u32.parse (drop (at + 1) b)) → r ≡ Some (m, p) → (m ≡ 0 → ⊥) → Appends (m ∷ []) old s new u
    → Walks memory_index_bytes word.print silent b at old s new (Some (p, u))
other_there {b} {at} {m = m} {r = r} h y e d i n a =
    value_there {a = m} a (rw (drop_more b at h, ← y, e, number_found u32 b (at + 1) r d i, ne_eqb m 0 n)) (number_place u32 b (at + 1) r d i)

-- ---- words

drop_three : (w : List ℕ) (at : ℕ) → at + 3 ≤ length w → drop at w ≡ get_or w at 0 ∷ get_or w (at + 1) 0 ∷ get_or w (at + 2) 0 ∷ drop (at + 3) w
drop_three w at h =
    let e : at + 2 + 1 ≡ at + 3 = omega arith in
    rw (drop_two w at (omega arith), drop_more w (at + 2) (omega arith), e)

-- no memory and no offset are three words of 0
pub no_target_lem : {w : List ℕ} {at : ℕ} {old : List ℕ} {s : Done} {new : List ℕ} {u : Done} → at + 3 ≤ length w → get_or w at 0 ≡ 0 → get_or w (at + 1) 0 ≡ 0 → get_or w (at + 2) 0 ≡ 0
    → Appends (1 ∷ []) old s new u → Walks no_target.words no_target.bytes.print silent w at old s new (Some (at + 3, u))
no_target_lem {w} {at} h x y z a = value_there {a = tt} a (rw (drop_three w at h, x, y, z)) h

-- the span behind a memory
abbrev offset_in : List ℕ → ℕ → Span
offset_in w n = record { start = get_or w n 0; len = get_or w (n + 1) 0 }

module _ {t w : List ℕ} {at : ℕ} {old : List ℕ} {s : Done} {new : List ℕ} where
  mode_writes : (m : Mode) {r : Walk} → at < length w → get_or w at 0 ≡ mode_code m → Writing (target_of m) t w (at + 1) old s new r → Writing target t w at old s new r
  mode_writes m h e x = chosen_writing mode_word (λ m. tt) target_of target_bytes (λ x. (λ h. h, λ h. h)) (λ x. refl) m (one_read mode_word m (mode_code m) tt refl w at h e) x

  active_at : {cur : List ℕ} {u z : Done} → at + 4 ≤ length w → get_or w at 0 ≡ 1 → Appends (memory_index_bytes.print (get_or w (at + 1) 0)) old s cur u
      → Adds (slice_of t (offset_in w (at + 2))) (refusal_of t constant (offset_in w (at + 2))) cur u new z → AreWords w → Writing target t w at old s new (Some (at + 4, z))
  active_at h e a b k =
      let f : at + 1 + 1 ≡ at + 2 = omega arith in
      let g : at + 2 + 2 ≡ at + 4 = omega arith in
      mode_writes active (omega arith) e (record {
        writes = value_there {a = (get_or w (at + 1) 0, offset_in w (at + 2))} (adds_eq refl (omega arith) (adds_seq a b))
            (rw (word_read w (at + 1) (omega arith) k, f, span_at_lem w (at + 2) (omega arith) (k (at + 2)).fits (k (at + 2 + 1)).fits, g)) h;
      })

  -- v is the words from the place on
  pub active_there : (v : List ℕ) {cur : List ℕ} {u z : Done} → v ≡ slice_range w at (length w) → length v + at ≡ length w → 4 ≤ length v → get_or v 0 0 ≡ 1
      → Appends (memory_index_bytes.print (get_or v 1 0)) old s cur u
      → Adds (slice_of t (record { start = get_or v 2 0; len = get_or v 3 0 })) (refusal_of t constant (record { start = get_or v 2 0; len = get_or v 3 0 })) cur u new z → AreWords w
      → Writing target t w at old s new (Some (at + 4, z))
  active_there v {cur} {u} from long h e a b k =
      let f : at + 3 ≡ at + 2 + 1 = omega arith in
      let z : at ≡ at + 0 = omega arith in
      active_at {cur = cur} {u = u} (omega arith) (ap (λ i. get_or w i 0) z ∙ sym (at_rest w at from 0) ∙ e) (rw (← at_rest w at from 1) a) (rw (← f, ← at_rest w at from 2, ← at_rest w at from 3) b) k

-- ---- bytes

-- x is the byte at the place
module _ {b : List ℕ} {at : ℕ} {old : List ℕ} {s : Done} {new : List ℕ} (x : ℕ) (h : at < length b) (y : x ≡ get_or b at 0) where
  pub passive_reads : {u : Done} → x ≡ 1 → Appends (0 ∷ 0 ∷ 0 ∷ 0 ∷ []) old s new u → Reading target b at old s new (Some (at + 1, u))
  passive_reads e a = record { reads = λ l. value_there {a = (passive, tt)} a (rw (drop_more b at h, ← y, e)) (omega arith) }

  pub active_reads : {cur : List ℕ} {u : Done} {r : Walk} → (x ≡ 1 → ⊥) → Appends (1 ∷ []) old s cur u → Reading (target_of active) b at cur u new r → Reading target b at old s new r
  active_reads n a z =
      let e : mode_at (drop at b) ≡ active = rw (drop_more b at h, ← y, ne_eqb x 1 n) in
      chosen_reading mode_word (λ m. tt) target_of target_bytes (λ x. (λ h. h, λ h. h)) (λ x. refl) active (one_at mode_at (λ m. (target_of m).bytes) active (drop at b) e) a z
