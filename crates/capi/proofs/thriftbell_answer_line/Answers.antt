-- `capi::thriftbell_answer_line` meets its contract. Assumes nothing.
use Rattle.capi.proofs.Telling.{reply_told}
use Rattle.capi.proofs.thriftbell_answer_line.Goals as goal

pub returns : goal.returns
returns c = search reply_told
