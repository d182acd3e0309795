-- `refs::writer::walk_ref` meets its contract. Assumes nothing.
use native.Mathlib.Omega.{arith}
use Rattle.types.specs.Words.{ref_words}
use Rattle.words.specs.TwoWords.{one_left}
use Rattle.refs.proofs.Words.{ref_words_missing, ref_words_there}
use Rattle.refs.proofs.writer.walk_ref.Goals as goal

pub returns-then-words-at-lt2 : goal.returns-then-words-at-lt2
returns-then-words-at-lt2 c = search (one_left ref_words (λ r ok. omega arith))

pub returns-in_default : goal.returns-in_default
returns-in_default c = search ref_words_missing

pub returns : goal.returns
returns c = search ref_words_there
