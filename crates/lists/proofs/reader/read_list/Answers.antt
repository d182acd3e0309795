-- `lists::reader::read_list` meets its contract: each call of its closure reads a member of the kind. Assumes nothing.
use Rattle.std.proofs.Common.{rules}
use Rattle.format.specs.Repeats.{calls_list}
use Rattle.lists.specs.Member.{list_words, list_bytes}
use Rattle.lists.proofs.Members.{as_list, list_of_bytes}
use Rattle.lists.specs.declared.Member.TheVariants.{Index, Val, Field}
use Rattle.lists.proofs.reader.read_list.Goals as goal

pub returns-in-Index : goal.returns-in-Index
returns-in-Index c = as_list list_bytes list_words Index c.in-Index.is (calls_list (list_of_bytes Index) c.read_list.ensures (λ p lent s left r h y. search rules))

pub returns-in-Val : goal.returns-in-Val
returns-in-Val c = as_list list_bytes list_words Val c.in-Val.is (calls_list (list_of_bytes Val) c.read_list-in-Val.ensures (λ p lent s left r h y. search rules))

pub returns-in-Field : goal.returns-in-Field
returns-in-Field c = as_list list_bytes list_words Field c.in-Field.is (calls_list (list_of_bytes Field) c.read_list-in-Field.ensures (λ p lent s left r h y. search rules))
