-- `capi::thriftbell_read_item` meets its contract. Assumes nothing.
use Rattle.capi.proofs.Telling.{taken_told}
use Rattle.capi.proofs.thriftbell_read_item.Goals as goal

pub returns : goal.returns
returns c = search taken_told
