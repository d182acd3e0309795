-- `capi::thriftbell_encode_i64` meets its contract. Assumes nothing.
use Rattle.leb128.specs.Leb.{sleb}
use Rattle.capi.proofs.Telling.{signed_told}
use Rattle.capi.proofs.thriftbell_encode_i64.Goals as goal

pub returns : goal.returns
returns c = search (signed_told sleb)
