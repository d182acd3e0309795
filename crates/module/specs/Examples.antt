-- The module part of the whole case of document 01 (Hex lines), and the empty order, by computation. Assumes nothing.
use Rattle.std.specs.Prelude.{◌≡◌, refl, List, [], ◌∷◌}
use Rattle.leb128.specs.Leb.{leb, leb_by}
use Rattle.frames.specs.Frames.{Frame}
use Rattle.sections.specs.Section.{ending}
use Rattle.sections.specs.declared.Given.{Given}
use Rattle.module.specs.Module.{module_of, header}

-- one passive data item, the byte 41
abbrev item : Frame
item = record { id = 11; item = 0x01 ∷ 0x01 ∷ 0x41 ∷ [] }

pub whole_case : module_of (ending (12 ∷ 11 ∷ []) (record { count = 1 })) (item ∷ []) ≡ 0x00 ∷ 0x61 ∷ 0x73 ∷ 0x6D ∷ 0x01 ∷ 0x00 ∷ 0x00 ∷ 0x00 ∷ 0x0C ∷ 0x01 ∷ 0x01 ∷ 0x0B ∷ 0x04 ∷ 0x01 ∷ 0x01 ∷ 0x01 ∷ 0x41 ∷ []
unfolding module_of leb leb_by
whole_case = refl

pub empty_order : (given : Given) (fs : List Frame) → module_of (ending [] given) fs ≡ header
unfolding module_of
empty_order given fs = refl
