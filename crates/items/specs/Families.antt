-- What the sections are (document 01, Records; Items to bytes; Answers by number, Reading and Exception): for each its records over any text, its items, the way
-- from the ones to the others, and what of a record comes back. A further section is one more entry of `family`. Assumes nothing.
use Rattle.std.specs.Prelude.{◌≡◌, refl, List, ◌++◌, ℕ, length}
use Rattle.frames.specs.declared.SectionId.{SectionId}
use Rattle.frames.specs.declared.SectionId.TheVariants.{Types, Imports, Tables, Elements, Data}
use Rattle.texts.specs.Section.{Section}
use Rattle.texts.specs.declared.Span.{Span}
use Rattle.groups.specs.RecGroup.{type_section, as_located, as_resolved}
use Rattle.imports.specs.Forms.{Imports as ImportsOf}
use Rattle.imports.specs.Section.{import_section}
use Rattle.tables.specs.Table.{Table, table_section}
use Rattle.elements.specs.Segment as elements
use Rattle.elements.specs.Item as flagged
use Rattle.elements.specs.Section.{element_section}
use Rattle.elements.specs.Exception as elementBack
use Rattle.elements.specs.Filled as elementFilled
use Rattle.data.specs.Segment.{Segment, data_section}

pub record Family : Type 1 where
  pub Body : Type 0 → Type 0
  pub Item : Type 0
  pub section : Section (Body Span) Item
  -- each span of a record as what it holds in the text
  pub filled : List ℕ → Body Span → Body (List ℕ)
  -- the record of an item, with its bytes
  pub record_of : Item → Body (List ℕ)
  -- what of a record comes back: itself, or the exception
  pub exception : Body (List ℕ) → Body (List ℕ)
  -- what is read of an item that begins the bytes holds, in them, the item's bytes
  pub read_filled : (q r : List ℕ) (x : Item) → section.bytes.Ok x → filled (q ++ (section.bytes.print x ++ r)) (section.locate (length q) x) ≡ record_of x
  -- and the item of an added record those that the record holds, but for the exception
  pub added_filled : (t : List ℕ) (a : Body Span) → record_of (section.resolve t a) ≡ exception (filled t a)

-- a section whose items are its records over bytes: they come back as they are
abbrev pub plain_family : (B : Type 0 → Type 0) → Section (B Span) (B (List ℕ)) → Family
plain_family B S =
    record {
      Body = B;
      Item = B (List ℕ);
      section = S;
      filled = S.resolve;
      record_of = λ x. x;
      exception = λ a. a;
      read_filled = S.located;
      added_filled = λ t a. refl;
    }

-- one whose records hold no text: they are its items
abbrev pub textless_family : {A : Type 0} (S : Section A A) → ((n : ℕ) (x : A) → S.locate n x ≡ x) → ((t : List ℕ) (a : A) → S.resolve t a ≡ a) → Family
textless_family {A} S located resolved =
    record {
      Body = λ T. A;
      Item = A;
      section = S;
      filled = λ t a. a;
      record_of = λ x. x;
      exception = λ a. a;
      read_filled = λ q r x ok. located (length q) x;
      added_filled = resolved;
    }

-- elements: the one exception
abbrev pub element_family : Family
element_family =
    record {
      Body = elements.Segment;
      Item = flagged.Item (List ℕ);
      section = element_section;
      filled = elementFilled.filled;
      record_of = elementBack.record_of;
      exception = elementBack.exception;
      read_filled = elementFilled.read_filled;
      added_filled = elementFilled.added_filled;
    }

abbrev pub family : SectionId → Family
family Types = textless_family type_section as_located as_resolved
family Imports = plain_family ImportsOf import_section
family Tables = plain_family Table table_section
family Elements = element_family
family Data = plain_family Segment data_section
