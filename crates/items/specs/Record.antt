-- Records and items of all sections (document 01, Records; Items to bytes): a record's first word is its section's id. Assumes nothing.
use Rattle.std.specs.Prelude.{cond, List, ◌∷◌, ℕ, ◌<◌, leb, length}
use Rattle.std.proofs.Math.Option.{Option, none, some}
use Rattle.std.proofs.Common.{arith}
use Rattle.format.specs.Parsed.{Parsed, fail, got, bind, map}
use Rattle.format.specs.Format.{Format}
use Rattle.format.specs.Basic.{find, table}
use Rattle.format.specs.Combine.{dep}
use Rattle.frames.specs.Ids.{id_of, ids, id_small, id_full}
use Rattle.frames.specs.declared.SectionId.{SectionId}
use Rattle.texts.specs.Text.{Kind, lowest_of}
use Rattle.texts.specs.Judge.{Records, words_most}
use Rattle.texts.specs.Section.{Section}
use Rattle.texts.specs.declared.Span.{Span}
use Rattle.items.specs.Families.{family}

abbrev pub Body : SectionId → Type 0 → Type 0
Body i = (family i).Body

abbrev pub ItemOf : SectionId → Type 0
ItemOf i = (family i).Item

-- their words behind the id, their items, and the way from the ones to the others
abbrev pub section : (i : SectionId) → Section (Body i Span) (ItemOf i)
section i = (family i).section

abbrev pub Record : Type 0 → Type 0
Record S = (i : SectionId) × Body i S

abbrev pub Item : Type 0
Item = (i : SectionId) × ItemOf i

-- ---- the first word

abbrev pub id_word : Format SectionId
id_word = table 256 id_of ids id_small id_full

-- all of a record's words
unfoldable pub words : Format (Record Span)
words = dep id_word (λ i. (section i).words)

-- ---- what an add writes of a record with the text t, and the lowest refusal that its texts draw

unfoldable pub texts_of : Record Span → List (Kind × Span)
texts_of x = (section x.0).texts x.1

-- the item of a record with the text t
abbrev pub resolved : List ℕ → Record Span → Item
resolved t x = (x.0, (section x.0).resolve t x.1)

unfoldable pub item_of : List ℕ → Record Span → List ℕ
item_of t x = (section x.0).bytes.print ((section x.0).resolve t x.1)

abbrev pub low_of : List ℕ → Record Span → ℕ
low_of t x = lowest_of t (texts_of x)

abbrev pub records : Records (Record Span)
records = record { words = words; texts = texts_of; item = item_of }

-- ---- reading

-- the record's words that reading writes: its spans point into the bytes
unfoldable pub record_of : Item → List ℕ
record_of x = id_of x.0 ∷ (section x.0).words.print ((section x.0).locate 0 x.1)

pub record_some : (x : Item) → 0 < length (record_of x)
unfolding record_of
record_some x = omega arith

-- what stands at the front of a section's bytes; other ids have no items
abbrev pub items_of : Option SectionId → List ℕ → Parsed Item
items_of none s = fail
items_of (some i) s = map (λ x. (i, x)) ((section i).bytes.parse s)

unfoldable pub begins_in : ℕ → List ℕ → Parsed Item
begins_in id s = items_of (find id_of ids id) s

-- it is read where its record has at most 4,096 words: no record has more
abbrev pub is_short : Item → List ℕ → Parsed Item
is_short x r = cond (leb (length (record_of x)) words_most) (got x r) fail

abbrev pub read_in : ℕ → List ℕ → Parsed Item
read_in id s = bind (begins_in id s) is_short
