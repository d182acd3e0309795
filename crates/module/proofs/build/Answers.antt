-- `module::build` meets its contract: the tally tells whether there are frames and how long the module is; header and sections are written where there is
-- room. Assumes nothing.
use Rattle.std.proofs.lemmas.Result.{err_from_is_err_and}
use Rattle.sections.proofs.Listed.{total_few}
use Rattle.module.proofs.Finishing.{tally_some, unframed_refused, short_refused, header_fits, header_behind, sections_room, module_fits, module_written}
use Rattle.module.proofs.build.Goals as goal

pub returns-in_err-tallies : goal.returns-in_err-tallies
returns-in_err-tallies c =
    let p = err_from_is_err_and c.from_residual.result c.from_residual.ensures.1 in
    unframed_refused c.args.frames.now c.args.order.now c.args.given c.args.out.now c.tally.ensures c.in_err-tallies.ensures.ok_part p.1 p.2 c.in_err-tallies.ensures.value

pub sections_len-requires-clause-totals_within : goal.sections_len-requires-clause-totals_within
sections_len-requires-clause-totals_within c = let some = tally_some c.in_ok-tallies.ensures.ok_part c.tally.ensures in search total_few

pub returns-then-out-sections_len : goal.returns-then-out-sections_len
returns-then-out-sections_len c = let some = tally_some c.in_ok-tallies.ensures.ok_part c.tally.ensures in search short_refused

pub unwrap-n-requires : goal.unwrap-n-requires
unwrap-n-requires c = search header_fits

pub slice_bounds-put_sections-count : goal.slice_bounds-put_sections-count
slice_bounds-put_sections-count c = search header_behind

pub slice_bounds-put_sections-start : goal.slice_bounds-put_sections-start
slice_bounds-put_sections-start c = search header_behind

pub put_sections-requires-clause-room : goal.put_sections-requires-clause-room
put_sections-requires-clause-room c = let some = tally_some c.in_ok-tallies.ensures.ok_part c.tally.ensures in search sections_room

pub overflow_add-result : goal.overflow_add-result
overflow_add-result c = search module_fits

pub returns : goal.returns
returns c = let some = tally_some c.in_ok-tallies.ensures.ok_part c.tally.ensures in search module_written
