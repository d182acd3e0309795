-- The lists that have words are those that have bytes (document 01, Records). Assumes nothing.
use Rattle.format.specs.Agree.{Agree, many_agree}
use Rattle.leb128.proofs.Formats.{u32}
use Rattle.words.specs.Words.{word}
use Rattle.types.specs.Agree.{val_agree, field_agree}
use Rattle.types.specs.Vals.{val_words, val_bytes, field_words, field_bytes}
use Rattle.lists.specs.Member.{list_words, list_bytes}
use Rattle.lists.specs.declared.Member.TheVariants.{Index, Val, Field}

pub index_agree : Agree word u32
index_agree n = (λ h. h, λ h. h)

pub indices_agree : Agree (list_words Index) (list_bytes Index)
indices_agree = many_agree word u32 word u32 index_agree index_agree

pub vals_agree : Agree (list_words Val) (list_bytes Val)
vals_agree = many_agree word u32 val_words val_bytes index_agree val_agree

pub fields_agree : Agree (list_words Field) (list_bytes Field)
fields_agree = many_agree word u32 field_words field_bytes index_agree field_agree
