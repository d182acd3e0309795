-- `items::start` meets its contract. Assumes nothing.
use Rattle.items.specs.Start.{from_long, from_none_lem, from_four}
use Rattle.items.proofs.start.Goals as goal

pub returns-then-text-gt-TEXT_MOST : goal.returns-then-text-gt-TEXT_MOST
returns-then-text-gt-TEXT_MOST c = search from_long

pub returns-in_default : goal.returns-in_default
returns-in_default c = search from_none_lem

pub returns-in_default-2 : goal.returns-in_default-2
returns-in_default-2 c = search from_none_lem

pub returns-then-is_plain : goal.returns-then-is_plain
returns-then-is_plain c = search from_four

pub returns-else-text-words : goal.returns-else-text-words
returns-else-text-words c = search from_none_lem
