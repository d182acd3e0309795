-- `hexlines::answer_all` meets its contract: what is kept from piece to piece stands in its buffers. Assumes nothing.
use Rattle.hexlines.proofs.Answering.{Answering}
use Rattle.hexlines.proofs.answer_all.Given as goal

abbrev pub invariant-loop : goal.invariant-loop
invariant-loop g l =
    Answering l.initial.piece l.initial.line l.initial.store l.initial.buffer l.initial.out l.piece l.line l.store l.buffer l.out l.run
