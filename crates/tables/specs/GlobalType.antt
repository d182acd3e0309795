-- Global types (document 01, Records, Import, entity 3; Items to bytes, Table type; Core Specification 3.0, Binary Format, Types, Global Types): a value type,
-- then mutable, 0 or 1. Shared globals are not built. Assumes nothing.
use Rattle.std.specs.Prelude.{refl}
use Rattle.format.specs.Count.{silent}
use Rattle.format.specs.Format.{Format}
use Rattle.format.specs.Basic.{flag}
use Rattle.format.specs.Combine.{pair, iso}
use Rattle.format.specs.Agree.{Agree, agree_same, pair_agree}
use Rattle.format.specs.Sequence.{Joins, joins}
use Rattle.types.specs.Vals.{val_words, val_bytes}
use Rattle.types.specs.Agree.{val_agree}
use Rattle.types.specs.declared.ValType.{ValType}
use Rattle.tables.specs.declared.GlobalType.{GlobalType}

abbrev pub global_type : Format ValType → Format GlobalType
global_type F = iso (pair F flag) (λ g. (g.val_type, g.mutable)) (λ p. record { val_type = p.0; mutable = p.1 }) (λ g. refl) (λ p. refl)

abbrev pub global_words : Format GlobalType
global_words = global_type val_words

abbrev pub global_bytes : Format GlobalType
global_bytes = global_type val_bytes

pub global_agree : Agree global_words global_bytes
global_agree g = pair_agree val_words val_bytes flag flag val_agree (agree_same flag) (g.val_type, g.mutable)

-- it is walked by walking the two, one behind the other
abbrev pub global_joins : (F F' : Format ValType)
    → Joins F.parse F'.print silent flag.parse flag.print silent (global_type F).parse (global_type F').print silent
global_joins F F' = joins F F'.print flag flag.print (global_type F) (global_type F').print (λ p. record { val_type = p.0; mutable = p.1 }) (λ s. refl) (λ a b. refl)
