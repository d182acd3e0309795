-- `prefixes::reader::read_supers` meets its contract: by the first byte. Assumes nothing.
use Rattle.prefixes.proofs.Bytes.{supers_open, supers_final, no_prefix}
use Rattle.prefixes.proofs.reader.read_supers.Goals as goal

pub returns-in-80 : goal.returns-in-80
returns-in-80 c = let x = c.in_ok-get.ensures.lookup.3 in search (supers_open, x.0, x.1 0)

pub returns-in-79 : goal.returns-in-79
returns-in-79 c = let x = c.in_ok-get.ensures.lookup.3 in search (supers_final, x.0, x.1 0)

pub returns-in_default : goal.returns-in_default
returns-in_default c = let x = c.in_ok-get.ensures.lookup.3 in search (no_prefix, x.0, x.1 0)
