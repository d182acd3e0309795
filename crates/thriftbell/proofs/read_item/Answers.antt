-- `thriftbell::read_item` meets its contract: the front is all that is looked at. Assumes nothing.
use Rattle.thriftbell.proofs.Reading.{front_short, front_read}
use Rattle.thriftbell.proofs.read_item.Goals as goal

pub read_front-requires : goal.read_front-requires
read_front-requires c = search front_short

pub returns : goal.returns
returns c = search front_read
