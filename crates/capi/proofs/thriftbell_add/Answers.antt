-- `capi::thriftbell_add` meets its contract. Assumes nothing.
use Rattle.capi.proofs.Telling.{added_told}
use Rattle.capi.proofs.thriftbell_add.Goals as goal

pub returns : goal.returns
returns c = search added_told
