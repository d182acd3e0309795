-- `frames::frame_at` meets its contract: five bytes say what the format says of them. Assumes nothing.
use Rattle.std.proofs.Common.{◌∙◌}
use Rattle.frames.proofs.Placing.{none_past, none_short, is_at, no_size, no_section, frame_within}
use Rattle.frames.proofs.frame_at.Goals as goal
use Rattle.frames.proofs.frame_at.Goals.{else-is_section-via-then-is_section+else-size-min, else-is_section-via-else-is_section}

pub returns-in_err-get-clause-value : goal.returns-in_err-get-clause-value
returns-in_err-get-clause-value c = c.from_residual.ensures ∙ none_past _ _ c.in_err-get.ensures.lookup.0

pub returns-in_default-clause-value : goal.returns-in_default-clause-value
returns-in_default-clause-value c = let (_, _, from, long) = c.in_ok-get.ensures.lookup.0 in search none_short

pub returns-then-size-min-clause-value : goal.returns-then-size-min-clause-value
returns-then-size-min-clause-value c = let (_, _, from, long) = c.in_ok-get.ensures.lookup.0 in search is_at

pub returns-clause-value : goal.returns-clause-value
returns-clause-value c =
    let (_, _, from, long) = c.in_ok-get.ensures.lookup.0 in
    elim c.else-is_section.branch [
      | else-is_section-via-then-is_section+else-size-min w ↦ search no_size
      | else-is_section-via-else-is_section w ↦ search no_section
    ]

pub returns-then-size-min-clause-within : goal.returns-then-size-min-clause-within
returns-then-size-min-clause-within c = let (_, _, from, long) = c.in_ok-get.ensures.lookup.0 in frame_within c.args.bytes.now c.args.at (search is_at)
