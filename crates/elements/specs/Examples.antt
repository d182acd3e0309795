-- Element segments as words and as bytes, by computation: each of the eight flags, and the exception. Assumes nothing.
use Rattle.std.specs.Prelude.{◌≡◌, refl, true, false, List, [], ◌∷◌, ℕ}
use Rattle.leb128.specs.Leb.{leb, leb_by}
use Rattle.texts.specs.declared.Span.{Span}
use Rattle.types.specs.Bytes.{null_of}
use Rattle.types.specs.declared.AbstractHeapType.TheVariants.{Extern}
use Rattle.types.specs.declared.HeapType.TheVariants.{Abstract}
use Rattle.types.specs.declared.RefType.{RefType}
use Rattle.elements.specs.Members.{funcref}
use Rattle.elements.specs.Segment.{Segment, words}
use Rattle.elements.specs.Item.{bytes}
use Rattle.elements.specs.Exception.{item_of, exception}
use Rattle.modes.specs.declared.Mode.TheVariants.{Active, Passive, ActiveTable, Declared}

abbrev externref : RefType
externref = null_of (Abstract false Extern)

-- i32.const 42 and end; ref.func 1 and end
abbrev offset : List ℕ
offset = 0x41 ∷ 0x2A ∷ 0x0B ∷ []

abbrev function : List ℕ
function = 0xD2 ∷ 0x01 ∷ 0x0B ∷ []

abbrev at : ℕ → Span
at n = record { start = n; len = 3 }

pub records : (words.print (Passive, (tt, (false, 7 ∷ []))) ≡ 0 ∷ 0 ∷ 0 ∷ 0 ∷ 0 ∷ 0 ∷ 0 ∷ 0 ∷ 1 ∷ 7 ∷ [])
    × (words.print (Declared, (tt, (true, (funcref, at 3 ∷ [])))) ≡ 1 ∷ 0 ∷ 0 ∷ 0 ∷ 0 ∷ 1 ∷ 16 ∷ 0 ∷ 1 ∷ 3 ∷ 3 ∷ [])
    × (words.print (Active, (at 0, (true, (externref, [])))) ≡ 2 ∷ 0 ∷ 0 ∷ 0 ∷ 3 ∷ 1 ∷ 17 ∷ 0 ∷ 0 ∷ [])
    × (words.print (ActiveTable, ((5, at 0), (false, []))) ≡ 2 ∷ 1 ∷ 5 ∷ 0 ∷ 3 ∷ 0 ∷ 0 ∷ 0 ∷ 0 ∷ [])
records = (refl, refl, refl, refl)

abbrev item : Segment (List ℕ) → List ℕ
item a = bytes.print (item_of a)

-- the flags 0 to 7, and table 0 given
pub items : (item (Active, (offset, (false, 7 ∷ []))) ≡ 0x00 ∷ 0x41 ∷ 0x2A ∷ 0x0B ∷ 0x01 ∷ 0x07 ∷ [])
    × (item (Passive, (tt, (false, 7 ∷ []))) ≡ 0x01 ∷ 0x00 ∷ 0x01 ∷ 0x07 ∷ [])
    × (item (ActiveTable, ((0, offset), (false, 7 ∷ []))) ≡ 0x02 ∷ 0x00 ∷ 0x41 ∷ 0x2A ∷ 0x0B ∷ 0x00 ∷ 0x01 ∷ 0x07 ∷ [])
    × (item (Declared, (tt, (false, 7 ∷ []))) ≡ 0x03 ∷ 0x00 ∷ 0x01 ∷ 0x07 ∷ [])
    × (item (Active, (offset, (true, (funcref, function ∷ [])))) ≡ 0x04 ∷ 0x41 ∷ 0x2A ∷ 0x0B ∷ 0x01 ∷ 0xD2 ∷ 0x01 ∷ 0x0B ∷ [])
    × (item (Passive, (tt, (true, (funcref, function ∷ [])))) ≡ 0x05 ∷ 0x70 ∷ 0x01 ∷ 0xD2 ∷ 0x01 ∷ 0x0B ∷ [])
    × (item (ActiveTable, ((5, offset), (true, (funcref, [])))) ≡ 0x06 ∷ 0x05 ∷ 0x41 ∷ 0x2A ∷ 0x0B ∷ 0x70 ∷ 0x00 ∷ [])
    × (item (Declared, (tt, (true, (externref, [])))) ≡ 0x07 ∷ 0x6F ∷ 0x00 ∷ [])
unfolding leb leb_by
items = (refl, refl, refl, refl, refl, refl, refl, refl)

-- document 01: externref expressions without table at 42, none listed, are 06 00 41 2A 0B 6F 00, and come back with table 0 given; funcref does not
pub excepted : (item (Active, (offset, (true, (externref, [])))) ≡ 0x06 ∷ 0x00 ∷ 0x41 ∷ 0x2A ∷ 0x0B ∷ 0x6F ∷ 0x00 ∷ [])
    × (exception {S = List ℕ} (Active, (offset, (true, (externref, [])))) ≡ (ActiveTable, ((0, offset), (true, (externref, [])))))
    × (exception {S = List ℕ} (Active, (offset, (true, (funcref, [])))) ≡ (Active, (offset, (true, (funcref, [])))))
unfolding leb leb_by
excepted = (refl, refl, refl)
