-- A member of a list takes a word, and a byte, at least. Assumes nothing.
use mathlib.Core.List.{List}
use Prim.Native.Nat.{ℕ, ◌<◌}
use native.Mathlib.Omega.{arith}
use lib.IntN.{pos}
use lib.ListN.{length, length-append}
use Rattle.leb128.specs.Leb.{uleb, unsigned}
use Rattle.leb128.proofs.LebLaws.{leb_some}
use Rattle.texts.specs.declared.Span.{Span}
use Rattle.parts.specs.Text.{name_bytes}
use Rattle.imports.specs.Entity.{entity_bytes}
use Rattle.imports.specs.Forms.{Member, Import, Name, MemberOf, member}

pub words_long : (m : Member) (a : MemberOf m Span) → (member m).words.Ok a → 0 < length ((member m).words.print a)
words_long Import a ok = omega arith
words_long Name a ok = omega arith

name_long : (n : List ℕ) → 0 < length (name_bytes.print n)
name_long n = omega (arith, leb_some unsigned (pos (length n)), length-append (uleb (length n)) n)

pub bytes_long : (m : Member) (a : MemberOf m (List ℕ)) → (member m).bytes.Ok a → 0 < length ((member m).bytes.print a)
bytes_long Import a ok = omega (arith, name_long a.0, length-append (name_bytes.print a.0) (entity_bytes.print a.1))
bytes_long Name a ok = name_long a
