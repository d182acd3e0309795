-- The composite types that have words are those that have bytes (document 01, Records and Types to bytes). Assumes nothing.
use Rattle.format.specs.Agree.{Agree, pair_agree}
use Rattle.types.specs.Agree.{field_agree}
use Rattle.lists.specs.Member.{list_words, list_bytes}
use Rattle.lists.specs.declared.Member.TheVariants.{Val}
use Rattle.composites.specs.Composite.{Kind, func, array, struct, cont, body_words, body_bytes, inner_words, inner_bytes}
use Rattle.lists.specs.Agree.{vals_agree, fields_agree}

body_agree : (k : Kind) → Agree (body_words k) (body_bytes k)
body_agree func = pair_agree (list_words Val) (list_bytes Val) (list_words Val) (list_bytes Val) vals_agree vals_agree
body_agree array = field_agree
body_agree struct = fields_agree
body_agree cont = λ x. (λ h. h, λ h. h)

pub inner_agree : Agree inner_words inner_bytes
inner_agree i = let a = body_agree i.0 i.1 in (λ h. (tt, a.0 h.1), λ h. (tt, a.1 h.1))
