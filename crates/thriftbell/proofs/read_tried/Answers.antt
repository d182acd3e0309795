-- `thriftbell::read_tried` meets its contract. Assumes nothing.
use Rattle.thriftbell.proofs.Reading.{item_missing, many_there, short_there, words_there}
use Rattle.thriftbell.proofs.read_tried.Goals as goal

pub returns-in_default : goal.returns-in_default
returns-in_default c = search item_missing

pub returns-then-n-gt-WORDS_MOST : goal.returns-then-n-gt-WORDS_MOST
returns-then-n-gt-WORDS_MOST c = search many_there

pub returns-then-out-n : goal.returns-then-out-n
returns-then-out-n c = search short_there

pub returns : goal.returns
returns c = search words_there
