-- `lines::tell::add_frame` meets its contract: the text is behind the words. Assumes nothing.
use Rattle.lines.proofs.Framing.{words_missing, words_within, text_within, frame_told}
use Rattle.lines.proofs.Telling.{tells_none, tells_same}
use Rattle.lines.proofs.tell.add_frame.Goals as goal

pub returns-then-not-read_words : goal.returns-then-not-read_words
returns-then-not-read_words c = search (tells_none, words_missing)

pub slice_bounds-add_words-end : goal.slice_bounds-add_words-end
slice_bounds-add_words-end c = search words_within

pub slice_bounds-add_words-count-2 : goal.slice_bounds-add_words-count-2
slice_bounds-add_words-count-2 c = search text_within

pub slice_bounds-add_words-start-2 : goal.slice_bounds-add_words-start-2
slice_bounds-add_words-start-2 c = search text_within

pub returns : goal.returns
returns c = search (tells_same, frame_told)
