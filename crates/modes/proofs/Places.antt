-- Where the elements of a segment go: what the walks over a place are by the mode. Assumes nothing.
use mathlib.Core.Path.{◌≡◌, refl, sym, ap, subst, ◌∙◌}
use mathlib.Core.Logic.{◌⊎◌, inl, inr}
use native.Mathlib.Omega.{arith}
use mathlib.Core.List.{List, [], ◌∷◌}
use Prim.Native.Nat.{ℕ, ◌+◌, ◌≤◌}
use lib.ListN.{length, get_or}
use Rattle.format.specs.Count.{Appends, silent, adds_nil, adds_seq}
use Rattle.format.specs.Read.{drop_two, drop_more}
use Rattle.format.specs.Walk.{Walks, value_there}
use Rattle.format.specs.declared.Done.{Done}
use Rattle.format.specs.Walk.{Walk}
use Rattle.std.specs.Prelude.{Some, slice_range}
use Rattle.leb128.proofs.Formats.{u32}
use Rattle.words.specs.Words.{word}
use Rattle.parts.specs.Text.{expression}
use Rattle.parts.specs.Reading as reading
use Rattle.parts.specs.Reading.{Reading, words_before}
use Rattle.parts.specs.Writing as writing
use Rattle.parts.specs.Writing.{Writing}
use Rattle.modes.specs.Mode.{nowhere, table_index, place}
use Rattle.modes.specs.declared.Mode.{Mode}
use Rattle.modes.specs.declared.Mode.TheVariants.{Active, Passive, ActiveTable, Declared}
use Rattle.parts.proofs.Rest.{at_rest}

-- ---- the words of a mode

pub two_added : {a b : ℕ} {old : List ℕ} {s : Done} {cur : List ℕ} {t : Done} {new : List ℕ} {u : Done} → Appends (a ∷ []) old s cur t → Appends (b ∷ []) cur t new u
    → Appends (a ∷ b ∷ []) old s new u
two_added a b = adds_seq a b

-- ---- reading

pub nowhere_reads : {at : ℕ} {old : List ℕ} {s : Done} {cur : List ℕ} {t : Done} {new : List ℕ} {u : Done} → Appends (0 ∷ []) old s cur t → Appends (0 ∷ 0 ∷ []) cur t new u → (b : List ℕ)
    → Reading nowhere b at old s new (Some (at, u))
nowhere_reads a c b = record { reads = λ h. value_there {a = tt} (adds_seq a c) refl h }

-- a walk over the place of a mode that is known is one over the place of that mode
pub reads_in : (n : Mode) {m : Mode} {b : List ℕ} {at : ℕ} {old : List ℕ} {s : Done} {new : List ℕ} {r : Walk} → m ≡ n → Reading (place n) b at old s new r → Reading (place m) b at old s new r
reads_in n {m} {b} {at} {old} {s} {new} {r} e x = subst (λ (k : Mode). Reading (place k) b at old s new r) (sym e) x

module _ {b : List ℕ} {at : ℕ} {old : List ℕ} {s : Done} {new : List ℕ} {r : Walk} where
  pub table_offset_reads : {cur : List ℕ} {p : ℕ} {u : Done} {r' : Walk} → Walks u32 word.print silent b at old s cur r → r ≡ Some (p, u) → Reading expression b p cur u new r'
      → Reading (place ActiveTable) b at old s new r'
  table_offset_reads x e y = reading.part_follows table_index expression (record { reads = λ h. x }) e y

  module _ {m : Mode} where
    pub active_reads : m ≡ Active → {cur : List ℕ} {u : Done} → Appends (0 ∷ []) old s cur u → Reading expression b at cur u new r → Reading (place m) b at old s new r
    active_reads e a x = reads_in Active e (words_before expression (place Active) (0 ∷ []) (λ s. refl) (λ n x. refl) a x)

    pub nowhere_reads_in : (m ≡ Passive) ⊎ (m ≡ Declared) → ((c : List ℕ) → Reading nowhere c at old s new r) → Reading (place m) b at old s new r
    nowhere_reads_in (inl e) x = reads_in Passive e (x b)
    nowhere_reads_in (inr e) x = reads_in Declared e (x b)

-- ---- writing

pub writes_in : (n : Mode) {m : Mode} {t w : List ℕ} {at : ℕ} {old : List ℕ} {s : Done} {new : List ℕ} {r : Walk} → m ≡ n → Writing (place n) t w at old s new r
    → Writing (place m) t w at old s new r
writes_in n {m} {t} {w} {at} {old} {s} {new} {r} e x = subst (λ (k : Mode). Writing (place k) t w at old s new r) (sym e) x

-- v is the words from the place on
pub nowhere_there : {w : List ℕ} {at : ℕ} {s : Done} (v : List ℕ) → v ≡ slice_range w at (length w) → length v + at ≡ length w → 3 ≤ length v → get_or v 0 0 ≡ 0 → get_or v 1 0 ≡ 0 → get_or v 2 0 ≡ 0
    → (t out : List ℕ) → Writing nowhere t w at out s out (Some (at + 3, s))
nowhere_there {w} {at} {s} v from long h x y z t out =
    let i : at ≡ at + 0 = omega arith in
    let j : at + 2 + 1 ≡ at + 3 = omega arith in
    let a : get_or w at 0 ≡ 0 = ap (λ i. get_or w i 0) i ∙ sym (at_rest w at from 0) ∙ x in
    let b : get_or w (at + 1) 0 ≡ 0 = sym (at_rest w at from 1) ∙ y in
    let d : get_or w (at + 2) 0 ≡ 0 = sym (at_rest w at from 2) ∙ z in
    record { writes = value_there {a = tt} (adds_nil out s) (rw (drop_two w at (omega arith), drop_more w (at + 2) (omega arith), a, b, d, j)) (omega arith) }

module _ {t w : List ℕ} {at : ℕ} {old : List ℕ} {s : Done} where
  pub table_offset_writes : {new : List ℕ} {r : Walk} {cur : List ℕ} {p : ℕ} {u : Done} {r' : Walk} → Walks word u32.print silent w at old s cur r → r ≡ Some (p, u)
      → Writing expression t w p cur u new r' → Writing (place ActiveTable) t w at old s new r'
  table_offset_writes x e y = writing.part_follows table_index expression (record { writes = x }) e y

  pub nowhere_writes_in : {m : Mode} {r : Walk} → (m ≡ Passive) ⊎ (m ≡ Declared) → ((c o : List ℕ) → Writing nowhere c w at o s o r) → Writing (place m) t w at old s old r
  nowhere_writes_in (inl e) x = writes_in Passive e (x t old)
  nowhere_writes_in (inr e) x = writes_in Declared e (x t old)
