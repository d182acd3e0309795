-- `capi::thriftbell_finish` meets its contract. Assumes nothing.
use Rattle.capi.proofs.Telling.{finished_told}
use Rattle.capi.proofs.thriftbell_finish.Goals as goal

pub returns : goal.returns
returns c = search finished_told
