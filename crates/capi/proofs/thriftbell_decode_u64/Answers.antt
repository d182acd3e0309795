-- `capi::thriftbell_decode_u64` meets its contract. Assumes nothing.
use Rattle.capi.proofs.Telling.{told}
use Rattle.capi.proofs.thriftbell_decode_u64.Goals as goal

pub returns : goal.returns
returns c = search told
