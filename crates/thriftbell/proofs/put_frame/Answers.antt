-- `thriftbell::put_frame` meets its contract. Assumes nothing.
use Rattle.thriftbell.proofs.Adding.{some_word, word_as_id, item_place, frame_within, frame_put}
use Rattle.thriftbell.proofs.put_frame.Goals as goal

pub bounds-words-0 : goal.bounds-words-0
bounds-words-0 c = search some_word

pub overflow_cast-words : goal.overflow_cast-words
overflow_cast-words c = search word_as_id

pub slice_bounds-put_item-count : goal.slice_bounds-put_item-count
slice_bounds-put_item-count c = search item_place

pub slice_bounds-put_item-start : goal.slice_bounds-put_item-start
slice_bounds-put_item-start c = search item_place

pub grown-requires : goal.grown-requires
grown-requires c = search frame_within

pub returns : goal.returns
returns c = search frame_put
