-- How the walks over tables and their like are put together: by the first word, and by the first bytes. Assumes nothing.
use mathlib.Core.Path.{◌≡◌, refl, sym, ◌∙◌}
use mathlib.Core.Bool.{Bool, true, false}
use mathlib.Core.List.{List, [], ◌∷◌, append-nil}
use Prim.Native.Nat.{ℕ, ◌+◌, ◌<◌, ◌≤◌}
use native.Mathlib.Omega.{arith}
use lib.ListN.{length, get_or, drop}
use borrow.Author.Tests.{ne_eqb}
use Rattle.format.specs.Basic.{bit, flag}
use Rattle.format.specs.Count.{Appends, silent, adds_seq}
use Rattle.format.specs.Read.{drop_more, drop_end, drop_two, one_read}
use Rattle.format.specs.Sequence.{Joins, joins, second_follows}
use Rattle.format.specs.Told.{one_at}
use Rattle.format.specs.Walk.{Walks, nothing_there, value_there, not_found, gone}
use Rattle.format.specs.declared.Done.{Done}
use Rattle.format.specs.Walk.{Walk}
use Rattle.std.specs.Prelude.{None, Some}
use Rattle.leb128.specs.Leb.{uleb}
use Rattle.std.specs.Prelude.{None, Some}
use Rattle.words.specs.WordWalks.{AreWords, word_read}
use Rattle.types.specs.Words.{ref_words}
use Rattle.types.specs.Bytes.{ref_bytes}
use Rattle.words.specs.Words.{unused}
use Rattle.types.specs.Vals.{val_words, val_bytes}
use Rattle.limits.specs.Limits.{limits_words, limits_bytes}
use Rattle.parts.specs.Text.{expression}
use Rattle.parts.specs.Both.{both}
use Rattle.parts.specs.Writing.{Writing, textless_writes, textless_missing, follows_textless, behind_two}
use Rattle.parts.specs.Reading.{Reading, textless_reads, two_reads}
use Rattle.parts.specs.Chosen.{chosen_writing, chosen_reading}
use Rattle.tables.specs.TableType.{table_words, table_bytes, table_agree, table_joins}
use Rattle.tables.specs.GlobalType.{global_words, global_bytes, global_joins}
use Rattle.tables.specs.TagType.{exception_of, tag_words, tag_bytes}
use Rattle.tables.specs.Table.{table_type, bare_words, bare_agree, form, has_init, bytes, table_section}

-- ---- one behind the other

pub table_read : Joins ref_bytes.parse ref_words.print silent limits_bytes.parse limits_words.print silent table_bytes.parse table_words.print silent
table_read = table_joins ref_bytes ref_words limits_bytes limits_words

pub table_walk : Joins ref_words.parse ref_bytes.print silent limits_words.parse limits_bytes.print silent table_words.parse table_bytes.print silent
table_walk = table_joins ref_words ref_bytes limits_words limits_bytes

pub global_read : Joins val_bytes.parse val_words.print silent flag.parse flag.print silent global_bytes.parse global_words.print silent
global_read = global_joins val_bytes val_words

pub global_walk : Joins val_words.parse val_bytes.print silent flag.parse flag.print silent global_words.parse global_bytes.print silent
global_walk = global_joins val_words val_bytes

-- a table type, and two unused words
pub bare_walk : Joins table_words.parse table_bytes.print silent unused.parse (λ u. []) silent bare_words.parse table_bytes.print silent
bare_walk = joins table_words table_bytes.print unused (λ u. []) bare_words table_bytes.print (λ p. p.0) (λ s. refl) (λ t u. append-nil (table_bytes.print t))

module _ {w : List ℕ} {at : ℕ} {old : List ℕ} {s : Done} {new : List ℕ} {r : Walk} where
  pub unused_follows : {p : ℕ} {u : Done} {r' : Walk} → Walks table_words table_bytes.print silent w at old s new r → r ≡ Some (p, u)
      → ((out : List ℕ) → Walks unused (λ x. []) silent w p out u out r') → Walks bare_words table_bytes.print silent w at old s new r'
  unused_follows h e k = second_follows bare_walk h e (k new)

  pub bare_missing : Walks table_bytes table_words.print silent w at old s new r → r ≡ None → Walks table_bytes bare_words.print silent w at old s new None
  bare_missing h e = nothing_there (not_found h e)

  pub bare_there : {cur : List ℕ} {p : ℕ} {t u : Done} → Walks table_bytes table_words.print silent w at old s cur r → r ≡ Some (p, t) → Appends (0 ∷ 0 ∷ []) cur t new u
      → Walks table_bytes bare_words.print silent w at old s new (Some (p, u))
  bare_there h e a =
      let g = gone table_bytes h e in
      value_there (adds_seq g.adds a) g.read g.place

-- ---- tags

-- x is the word at the place
pub tag_word : {w : List ℕ} {at : ℕ} {old : List ℕ} {s : Done} {cur : List ℕ} {t : Done} {new : List ℕ} {u : Done} {x : ℕ} → at < length w → x ≡ get_or w at 0 → Appends (0 ∷ []) old s cur t
    → Appends (uleb x) cur t new u → AreWords w → Walks tag_words tag_bytes.print silent w at old s new (Some (at + 1, u))
tag_word {w} {at} {x = x} h y a b k = value_there {a = exception_of x} (adds_seq a b) (rw (word_read w at h k, y)) (omega arith)

-- ---- words of a table

module _ {t w : List ℕ} {at : ℕ} {old : List ℕ} {s : Done} {new : List ℕ} where
  form_word_lem : (i : Bool) → at < length w → get_or w at 0 ≡ bit i → {r : Walk} → Writing (form i) t w (at + 1) old s new r → Writing table_section t w at old s new r
  form_word_lem i h e x = chosen_writing flag (λ i. tt) form bytes (λ x. (λ h. h, λ h. h)) (λ x. refl) i (one_read flag i (bit i) tt refl w at h e) x

  -- x is the word at the place
  module _ {x : ℕ} (h : at < length w) (y : x ≡ get_or w at 0) {r : Walk} where
    pub bare_writes : x ≡ 0 → Walks bare_words table_bytes.print silent w (at + 1) old s new r → Writing table_section t w at old s new r
    bare_writes e z = form_word_lem false h (sym y ∙ e) (textless_writes bare_words table_bytes bare_agree z)

    pub init_writes : x ≡ 1 → Writing (form true) t w (at + 1) old s new r → Writing table_section t w at old s new r
    init_writes e z = form_word_lem true h (sym y ∙ e) z

  -- 40 00, a table type, and the span of its initial value
  module _ {o₁ o₂ : List ℕ} {s₁ s₂ : Done} (a : Appends (0x40 ∷ []) old s o₁ s₁) (b : Appends (0x00 ∷ []) o₁ s₁ o₂ s₂) where
    marked : {r' : Walk} → Writing (both table_type expression) t w at o₂ s₂ new r' → Writing (form true) t w at old s new r'
    marked x = behind_two 0x40 0x00 (both table_type expression) a b x

    pub init_missing : {r : Walk} → Walks table_words table_bytes.print silent w at o₂ s₂ new r → r ≡ None → Writing (form true) t w at old s new None
    init_missing h e = marked (textless_missing table_words table_bytes table_agree expression h e)

    pub init_there : {cur : List ℕ} {p : ℕ} {u : Done} {r r' : Walk} → Walks table_words table_bytes.print silent w at o₂ s₂ cur r → r ≡ Some (p, u) → Writing expression t w p cur u new r'
        → Writing (form true) t w at old s new r'
    init_there h e k = marked (follows_textless table_words table_bytes table_agree expression h e k)

-- ---- bytes of a table

module _ {b : List ℕ} {at : ℕ} {old : List ℕ} {s : Done} {new : List ℕ} where
  form_reads : (i : Bool) → has_init (drop at b) ≡ i → {cur : List ℕ} {u : Done} {r : Walk} → Appends (bit i ∷ []) old s cur u → Reading (form i) b at cur u new r
      → Reading table_section b at old s new r
  form_reads i e a x = chosen_reading flag (λ i. tt) form bytes (λ x. (λ h. h, λ h. h)) (λ x. refl) i (one_at has_init (λ i. (form i).bytes) i (drop at b) e) a x

  -- x is the byte at the place, y the one behind it
  module _ {x : ℕ} (h : at < length b) (i : x ≡ get_or b at 0) where
    pub bare_reads : {cur : List ℕ} {u : Done} {r : Walk} → (x ≡ 0x40 → ⊥) → Appends (0 ∷ []) old s cur u → Walks table_bytes bare_words.print silent b at cur u new r
        → Reading table_section b at old s new r
    bare_reads n a z = form_reads false (rw (drop_more b at h, ← i, ne_eqb x 0x40 n)) a (textless_reads bare_words table_bytes bare_agree z)

    module _ (e : x ≡ 0x40) where
      pub init_short : length b ≤ at + 1 → Reading table_section b at old s new None
      init_short k = record { reads = λ l. nothing_there (rw (drop_more b at h, ← i, e, drop_end b (at + 1) k)) }

      module _ {y : ℕ} (k : at + 1 < length b) (j : y ≡ get_or b (at + 1) 0) where
        pub init_other : (y ≡ 0 → ⊥) → Reading table_section b at old s new None
        init_other n = record { reads = λ l. nothing_there (rw (drop_two b at (omega arith), ← i, e, ← j, ne_eqb y 0 n)) }

        pub init_reads : {cur : List ℕ} {u : Done} {r : Walk} → y ≡ 0 → Appends (1 ∷ []) old s cur u → Reading (both table_type expression) b (at + 2) cur u new r
            → Reading table_section b at old s new r
        init_reads {cur} {u} {r} z a q =
            form_reads true (rw (drop_more b at h, ← i, e)) a (two_reads 0x40 0x00 (both table_type expression) b at cur u new r (omega arith) (sym i ∙ e) (sym j ∙ z) q)
