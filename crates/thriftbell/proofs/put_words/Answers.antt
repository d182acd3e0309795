-- `thriftbell::put_words` meets its contract. Assumes nothing.
use Rattle.thriftbell.proofs.Reading.{words_copied, words_walked}
use Rattle.thriftbell.proofs.put_words.Goals as goal

pub returns-then-n-tried : goal.returns-then-n-tried
returns-then-n-tried c = search words_copied

pub returns : goal.returns
returns c = search words_walked
