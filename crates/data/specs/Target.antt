-- Where the data of a segment goes (document 01, Records, Data: mode, memory, offset span; Items to bytes; Core Specification 3.0, Binary Format, Modules,
-- Data Section): nowhere yet, or to a memory. Assumes nothing.
use Rattle.std.specs.Prelude.{◌≡◌, refl, ◌⊎◌, Bool, true, false, cond, List, [], ◌∷◌, ◌++◌, ℕ, ◌<◌, ◌^◌}
use Rattle.std.proofs.Common.{sym, ap, ◌∙◌, inl, inr, arith, lit<, eqb-true}
use Rattle.std.proofs.Math.Option.{Option, none, some}
use Rattle.format.specs.Format.{Format}
use Rattle.format.specs.Basic.{tag, empty, lit, via, find, table}
use Rattle.format.specs.Agree.{Agree}
use Rattle.format.specs.Alternatives.{Heads, is, alt, alt_ok, heads_tag, heads_alt, heads_pair}
use Rattle.format.specs.Told.{one}
use Rattle.leb128.proofs.Formats.{u32}
use Rattle.texts.specs.Section.{Section, textless}
use Rattle.words.specs.Words.{word}
use Rattle.texts.specs.declared.Span.{Span}
use Rattle.parts.specs.Text.{expression}
use Rattle.parts.specs.Both.{both}
use Rattle.parts.specs.Chosen.{chosen}

-- ---- a memory: in bytes, 0 is 00, another one 02 and its index

abbrev pub index_to : ℕ → Unit {0} ⊎ ℕ
index_to m = cond (is 0 m) (inl tt) (inr m)

abbrev pub index_of : Unit {0} ⊎ ℕ → Option ℕ
index_of (inl u) = some 0
index_of (inr m) = cond (is 0 m) none (some m)

abbrev pub zero_or_other : Format (Unit {0} ⊎ ℕ)
zero_or_other = alt (is 0) (lit 0) (tag 2 u32) (heads_tag 0 empty (is 0) true refl) (heads_tag 2 u32 (is 0) false refl)

pub index_fits : (m : ℕ) → m < 2 ^ 32 → zero_or_other.Ok (index_to m)
index_fits m h = go (is 0 m)
  where
    go : (c : Bool) → alt_ok (is 0) (lit 0) (tag 2 u32) (cond c (inl tt) (inr m))
    go true = tt
    go false = h

pub index_of_to : (m : ℕ) → m < 2 ^ 32 → index_of (index_to m) ≡ some m
index_of_to m h = go (is 0 m) refl
  where
    go : (c : Bool) → is 0 m ≡ c → index_of (cond c (inl tt) (inr m)) ≡ some m
    go true e = ap some (sym (eqb-true m 0 e))
    go false e = rw e

pub index_to_of : (x : Unit {0} ⊎ ℕ) (m : ℕ) → zero_or_other.Ok x → index_of x ≡ some m → (m < 2 ^ 32) × (x ≡ index_to m)
index_to_of (inl u) m h e = let z : m ≡ 0 = cc in (omega arith, rw z)
index_to_of (inr n) m h e = go (is 0 n) refl e
  where
    go : (c : Bool) → is 0 n ≡ c → cond c none (some n) ≡ some m → (m < 2 ^ 32) × (inr n ≡ index_to m)
    go true i q = let z : ◌≡◌ {A = ℕ} 0 1 = cc in absurd (omega arith)
    go false i q = let z : n ≡ m = cc in (rw z at h, rw (← z, i))

abbrev pub memory_index_bytes : Format ℕ
memory_index_bytes =
    via zero_or_other (record { OkA = λ m. m < 2 ^ 32; to = index_to; of = index_of; fits = index_fits; of_to = index_of_to; to_of = index_to_of })

-- a word in a record
pub index_agree : Agree word memory_index_bytes
index_agree m = (λ h. h, λ h. h)

abbrev pub memory_index : Section ℕ ℕ
memory_index = textless word memory_index_bytes index_agree

-- ---- passive: nowhere yet; active: to a memory, from an offset on

pub data Mode : Type 0 where
  passive active : Mode

abbrev pub TargetOf : Mode → Type 0 → Type 0
TargetOf passive S = Unit {0}
TargetOf active S = ℕ × S

abbrev pub Target : Type 0 → Type 0
Target S = (m : Mode) × TargetOf m S

-- words: memory, offset span; unused words are 0. Bytes: 01 if passive, else the memory and the offset
abbrev pub no_target : Section (Unit {0}) (Unit {0})
no_target = textless (tag 0 (tag 0 (lit 0))) (lit 1) (λ u. (λ h. tt, λ h. tt))

abbrev pub target_of : (m : Mode) → Section (TargetOf m Span) (TargetOf m (List ℕ))
target_of passive = no_target
target_of active = both memory_index expression

-- the mode word
abbrev pub mode_code : Mode → ℕ
mode_code = elim [ passive ↦ 0 | active ↦ 1 ]

pub mode_small : (m : Mode) → mode_code m < 2
mode_small = elim [ passive ↦ lit< tt | active ↦ lit< tt ]

pub mode_full : (m : Mode) → find mode_code (passive ∷ active ∷ []) (mode_code m) ≡ some m
mode_full = elim [ passive ↦ refl | active ↦ refl ]

abbrev pub mode_word : Format Mode
mode_word = table 2 mode_code (passive ∷ active ∷ []) mode_small mode_full

-- 01 begins no memory
abbrev pub mode_at : List ℕ → Mode
mode_at [] = active
mode_at (x ∷ s) = cond (is 1 x) passive active

pub active_heads : Heads (target_of active).bytes (is 1) false
active_heads = heads_pair memory_index_bytes expression.bytes (is 1) false (λ m ok. index_heads (index_to m) (index_fits m ok))
  where
    index_heads : Heads zero_or_other (is 1) false
    index_heads = heads_alt (is 0) (lit 0) (tag 2 u32) (is 1) false (heads_tag 0 empty (is 1) false refl) (heads_tag 2 u32 (is 1) false refl)

pub mode_told : (m : Mode) (x : TargetOf m (List ℕ)) (r : List ℕ) → (target_of m).bytes.Ok x → mode_at ((target_of m).bytes.print x ++ r) ≡ m
mode_told passive x r ok = refl
mode_told active x r ok = let (y, t, e, n) = active_heads x ok in ap (λ (l : List ℕ). mode_at (l ++ r)) e ∙ rw n

abbrev pub target_bytes : Format (Target (List ℕ))
target_bytes = one mode_at (λ m. (target_of m).bytes) mode_told

-- in words the mode first (0 passive, 1 active)
abbrev pub target : Section (Target Span) (Target (List ℕ))
target = chosen mode_word (λ m. tt) target_of target_bytes (λ x. (λ h. h, λ h. h)) (λ x. refl)
