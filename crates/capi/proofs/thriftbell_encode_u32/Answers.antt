-- `capi::thriftbell_encode_u32` meets its contract. Assumes nothing.
use Rattle.capi.proofs.Telling.{written_told}
use Rattle.capi.proofs.thriftbell_encode_u32.Goals as goal

pub returns : goal.returns
returns c = search written_told
