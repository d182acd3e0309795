-- Tables (document 01, Records, Table; Items to bytes, Table type; Core Specification 3.0, Binary Format, Modules, Table Section), over any text: a table type,
-- or one with the initial value of its elements. Assumes nothing.
use Rattle.std.specs.Prelude.{◌≡◌, refl, Bool, true, false, List, [], ◌∷◌, ◌++◌, ℕ}
use Rattle.std.proofs.Common.{ap, ◌∙◌}
use Rattle.format.specs.Format.{Format}
use Rattle.format.specs.Basic.{flag}
use Rattle.format.specs.Combine.{pair, iso}
use Rattle.format.specs.Agree.{Agree}
use Rattle.format.specs.Alternatives.{is}
use Rattle.format.specs.Told.{one}
use Rattle.texts.specs.Section.{Section, textless}
use Rattle.texts.specs.declared.Span.{Span}
use Rattle.words.specs.Words.{unused}
use Rattle.parts.specs.Text.{expression}
use Rattle.parts.specs.Both.{both, behind}
use Rattle.parts.specs.Chosen.{chosen}
use Rattle.tables.specs.TableType.{table_words, table_bytes, table_agree, table_heads}
use Rattle.tables.specs.declared.TableType.{TableType}

-- without an initial value, or with one
abbrev pub TableOf : Bool → Type 0 → Type 0
TableOf false S = TableType
TableOf true S = TableType × S

abbrev pub Table : Type 0 → Type 0
Table S = (init : Bool) × TableOf init S

-- the init span is 0 0 where the flag is 0
abbrev pub bare_words : Format TableType
bare_words = iso (pair table_words unused) (λ t. (t, tt)) (λ p. p.0) (λ t. refl) (λ p. refl)

pub bare_agree : Agree bare_words table_bytes
bare_agree t = (λ h. (table_agree t).0 h.0, λ h. ((table_agree t).1 h, tt))

abbrev pub table_type : Section TableType TableType
table_type = textless table_words table_bytes table_agree

-- in bytes 40 00, the type and the expression; or the type alone
abbrev pub form : (init : Bool) → Section (TableOf init Span) (TableOf init (List ℕ))
form false = textless bare_words table_bytes bare_agree
form true = behind 0x40 (behind 0x00 (both table_type expression))

-- 40 begins no table type
abbrev pub has_init : List ℕ → Bool
has_init [] = false
has_init (x ∷ s) = is 0x40 x

pub init_told : (init : Bool) (x : TableOf init (List ℕ)) (r : List ℕ) → (form init).bytes.Ok x → has_init ((form init).bytes.print x ++ r) ≡ init
init_told false x r ok = let (y, t, e, n) = table_heads x ok in ap (λ (l : List ℕ). has_init (l ++ r)) e ∙ n
init_told true x r ok = refl

-- behind the 4, the init flag and what it says
abbrev pub bytes : Format (Table (List ℕ))
bytes = one has_init (λ i. (form i).bytes) init_told

abbrev pub table_section : Section (Table Span) (Table (List ℕ))
table_section = chosen flag (λ i. tt) form bytes (λ x. (λ h. h, λ h. h)) (λ x. refl)
