-- `capi::thriftbell_i64_const` meets its contract. Assumes nothing.
use Rattle.exprs.specs.Const.{const_of}
use Rattle.capi.proofs.Telling.{signed_told}
use Rattle.capi.proofs.thriftbell_i64_const.Goals as goal

pub returns : goal.returns
returns c = search (signed_told (const_of 0x42))
