-- Abstract heap types: the kinds 0 to 13 of a record and the bytes (document 01, Types to bytes; Core Specification 3.0, Binary Format, Types, Heap
-- Types; cont and nocont are the source's). Assumes nothing.
use Rattle.std.specs.Prelude.{◌≡◌, refl, List, [], ◌∷◌, ℕ, ◌<◌, ◌≤◌}
use Rattle.std.proofs.Math.Option.{some}
use Rattle.std.proofs.Common.{lit<, lit≤}
use Rattle.format.specs.Format.{Format}
use Rattle.format.specs.Basic.{find, table}
use Rattle.types.specs.declared.AbstractHeapType.{AbstractHeapType}
use Rattle.types.specs.declared.AbstractHeapType.TheVariants.{Func, Extern, Any, None, NoExtern, NoFunc, Eq, Struct, Array, I31, Exn, NoExn, Cont, NoCont}

-- every one, in the order of the kinds
abbrev pub abstracts : List AbstractHeapType
abstracts = Func ∷ Extern ∷ Any ∷ None ∷ NoExtern ∷ NoFunc ∷ Eq ∷ Struct ∷ Array ∷ I31 ∷ Exn ∷ NoExn ∷ Cont ∷ NoCont ∷ []

abbrev pub kind_of : AbstractHeapType → ℕ
kind_of = elim [ Func ↦ 0 | Extern ↦ 1 | Any ↦ 2 | None ↦ 3 | NoExtern ↦ 4 | NoFunc ↦ 5 | Eq ↦ 6 | Struct ↦ 7 | Array ↦ 8 | I31 ↦ 9 | Exn ↦ 10 | NoExn ↦ 11 | Cont ↦ 12 | NoCont ↦ 13 ]

abbrev pub byte_of : AbstractHeapType → ℕ
byte_of = elim [ Func ↦ 0x70 | Extern ↦ 0x6F | Any ↦ 0x6E | None ↦ 0x71 | NoExtern ↦ 0x72 | NoFunc ↦ 0x73 | Eq ↦ 0x6D | Struct ↦ 0x6B | Array ↦ 0x6A | I31 ↦ 0x6C | Exn ↦ 0x69 | NoExn ↦ 0x74 | Cont ↦ 0x68 | NoCont ↦ 0x75 ]

pub kind_small : (a : AbstractHeapType) → kind_of a < 14
kind_small = elim [ Func ↦ lit< tt | Extern ↦ lit< tt | Any ↦ lit< tt | None ↦ lit< tt | NoExtern ↦ lit< tt | NoFunc ↦ lit< tt | Eq ↦ lit< tt | Struct ↦ lit< tt | Array ↦ lit< tt | I31 ↦ lit< tt | Exn ↦ lit< tt | NoExn ↦ lit< tt | Cont ↦ lit< tt | NoCont ↦ lit< tt ]

pub kind_full : (a : AbstractHeapType) → find kind_of abstracts (kind_of a) ≡ some a
kind_full = elim [ Func ↦ refl | Extern ↦ refl | Any ↦ refl | None ↦ refl | NoExtern ↦ refl | NoFunc ↦ refl | Eq ↦ refl | Struct ↦ refl | Array ↦ refl | I31 ↦ refl | Exn ↦ refl | NoExn ↦ refl | Cont ↦ refl | NoCont ↦ refl ]

pub byte_range : (a : AbstractHeapType) → (0x68 ≤ byte_of a) × (byte_of a ≤ 0x75)
byte_range = elim [ Func ↦ (lit≤ tt, lit≤ tt) | Extern ↦ (lit≤ tt, lit≤ tt) | Any ↦ (lit≤ tt, lit≤ tt) | None ↦ (lit≤ tt, lit≤ tt) | NoExtern ↦ (lit≤ tt, lit≤ tt) | NoFunc ↦ (lit≤ tt, lit≤ tt) | Eq ↦ (lit≤ tt, lit≤ tt) | Struct ↦ (lit≤ tt, lit≤ tt) | Array ↦ (lit≤ tt, lit≤ tt) | I31 ↦ (lit≤ tt, lit≤ tt) | Exn ↦ (lit≤ tt, lit≤ tt) | NoExn ↦ (lit≤ tt, lit≤ tt) | Cont ↦ (lit≤ tt, lit≤ tt) | NoCont ↦ (lit≤ tt, lit≤ tt) ]

pub byte_small : (a : AbstractHeapType) → byte_of a < 256
byte_small = elim [ Func ↦ lit< tt | Extern ↦ lit< tt | Any ↦ lit< tt | None ↦ lit< tt | NoExtern ↦ lit< tt | NoFunc ↦ lit< tt | Eq ↦ lit< tt | Struct ↦ lit< tt | Array ↦ lit< tt | I31 ↦ lit< tt | Exn ↦ lit< tt | NoExn ↦ lit< tt | Cont ↦ lit< tt | NoCont ↦ lit< tt ]

pub byte_full : (a : AbstractHeapType) → find byte_of abstracts (byte_of a) ≡ some a
byte_full = elim [ Func ↦ refl | Extern ↦ refl | Any ↦ refl | None ↦ refl | NoExtern ↦ refl | NoFunc ↦ refl | Eq ↦ refl | Struct ↦ refl | Array ↦ refl | I31 ↦ refl | Exn ↦ refl | NoExn ↦ refl | Cont ↦ refl | NoCont ↦ refl ]

abbrev pub abstract_byte : Format AbstractHeapType
abstract_byte = table 256 byte_of abstracts byte_small byte_full
