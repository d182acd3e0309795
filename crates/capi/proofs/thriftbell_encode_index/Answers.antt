-- `capi::thriftbell_encode_index` meets its contract. Assumes nothing.
use Rattle.capi.proofs.Telling.{written_told}
use Rattle.capi.proofs.thriftbell_encode_index.Goals as goal

pub returns : goal.returns
returns c = search written_told
