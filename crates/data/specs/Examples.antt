-- Data segments as words and as bytes, by computation: document 01's active data at 42, "hello"; in another memory; passive. Assumes nothing.
use Rattle.std.specs.Prelude.{◌≡◌, refl, List, [], ◌∷◌, ℕ}
use Rattle.leb128.specs.Leb.{leb, leb_by}
use Rattle.data.specs.Target.{passive, active}
use Rattle.data.specs.Segment.{data_section}

pub records : (data_section.words.print ((active, (7, record { start = 0; len = 3 })), record { start = 3; len = 5 }) ≡ 1 ∷ 7 ∷ 0 ∷ 3 ∷ 3 ∷ 5 ∷ [])
    × (data_section.words.print ((passive, tt), record { start = 3; len = 5 }) ≡ 0 ∷ 0 ∷ 0 ∷ 0 ∷ 3 ∷ 5 ∷ [])
records = (refl, refl)

-- i32.const 42 and end
abbrev offset : List ℕ
offset = 0x41 ∷ 0x2A ∷ 0x0B ∷ []

abbrev hello : List ℕ
hello = 0x68 ∷ 0x65 ∷ 0x6C ∷ 0x6C ∷ 0x6F ∷ []

pub items : (data_section.bytes.print ((active, (0, offset)), hello) ≡ 0x00 ∷ 0x41 ∷ 0x2A ∷ 0x0B ∷ 0x05 ∷ 0x68 ∷ 0x65 ∷ 0x6C ∷ 0x6C ∷ 0x6F ∷ [])
    × (data_section.bytes.print ((active, (7, offset)), hello) ≡ 0x02 ∷ 0x07 ∷ 0x41 ∷ 0x2A ∷ 0x0B ∷ 0x05 ∷ 0x68 ∷ 0x65 ∷ 0x6C ∷ 0x6C ∷ 0x6F ∷ [])
    × (data_section.bytes.print ((passive, tt), hello) ≡ 0x01 ∷ 0x05 ∷ 0x68 ∷ 0x65 ∷ 0x6C ∷ 0x6C ∷ 0x6F ∷ [])
unfolding leb leb_by
items = (refl, refl, refl)
