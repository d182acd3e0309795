-- `items::judge` meets its contract. Assumes nothing.
use Rattle.items.proofs.Judging.{many_refused, none_refused, rest_refused, text_too_long, drawn_some, drawn_few, text_refused, item_refused, item_measured}
use Rattle.items.proofs.judge.Goals as goal

pub returns-then-words-gt-WORDS_MOST : goal.returns-then-words-gt-WORDS_MOST
returns-then-words-gt-WORDS_MOST c = search many_refused

pub returns-in_default : goal.returns-in_default
returns-in_default c = search none_refused

pub returns-then-end-words : goal.returns-then-end-words
returns-then-end-words c = search rest_refused depth 2

pub returns-then-text-gt-TEXT_MOST : goal.returns-then-text-gt-TEXT_MOST
returns-then-text-gt-TEXT_MOST c = search text_too_long

pub of-requires : goal.of-requires
of-requires c = (search drawn_some, search drawn_few)

pub returns-then-low-from : goal.returns-then-low-from
returns-then-low-from c = search text_refused

pub returns-then-n-gt-ITEM_MOST : goal.returns-then-n-gt-ITEM_MOST
returns-then-n-gt-ITEM_MOST c = search item_refused depth 2

pub returns : goal.returns
returns c = search item_measured
