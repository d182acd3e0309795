-- `capi::thriftbell_encode_i32` meets its contract. Assumes nothing.
use Rattle.leb128.specs.Leb.{sleb}
use Rattle.capi.proofs.Telling.{signed_told}
use Rattle.capi.proofs.thriftbell_encode_i32.Goals as goal

pub returns : goal.returns
returns c = search (signed_told sleb)
