-- `vals::reader::read_field` meets its contract: a storage type, and whether it is mutable. Assumes nothing.
use native.Mathlib.Omega.{arith}
use Rattle.format.specs.Sequence.{first_missing, second_follows}
use Rattle.types.specs.Vals.{storage_bytes, storage_words, field_joins}
use Rattle.vals.proofs.Bytes.{val_reads, field-there}
use Rattle.vals.proofs.reader.read_field.Goals as goal

pub returns-in_err-p : goal.returns-in_err-p
returns-in_err-p c = let x = c.in_ok-get.ensures.lookup.3 in rw c.from_residual-in_err-p.ensures (search (c.in_err-p.was, first_missing (field_joins storage_bytes storage_words), val_reads, x.0, x.1 0))

pub returns-in_default : goal.returns-in_default
returns-in_default c = let x = c.in_ok-get.ensures.lookup.3 in search (c.in_ok-p.was, second_follows (field_joins storage_bytes storage_words), val_reads, x.0, x.1 0)

pub returns : goal.returns
returns c =
    let x = c.in_ok-get.ensures.lookup.3 in
    let m = c.in_ok-m.ensures.lookup.3 in
    field-there x.0 (x.1 0) c.plain_kind.ensures c.in-Some.is m.0 (m.1 0) c.from.ensures (omega arith) c.append_all.ensures
