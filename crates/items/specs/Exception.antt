-- Records with the bytes that their spans hold, and the one exception in reading (document 01, Answers by number, Exception): the record that is read of an
-- item holds what the record that was added holds, but an active expression segment of another type than nullable unshared func, added without a table,
-- comes back with table 0 given. Assumes nothing.
use Rattle.std.specs.Prelude.{List, ℕ}
use Rattle.texts.specs.declared.Span.{Span}
use Rattle.items.specs.Families.{family}
use Rattle.items.specs.Record.{Record}

abbrev pub filled : List ℕ → Record Span → Record (List ℕ)
filled t x = (x.0, (family x.0).filled t x.1)

abbrev pub exception : Record (List ℕ) → Record (List ℕ)
exception x = (x.0, (family x.0).exception x.1)
