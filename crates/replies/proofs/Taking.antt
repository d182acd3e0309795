-- A piece of the input, as a loop takes it line by line. Assumes nothing.
use mathlib.Core.Path.{◌≡◌, refl, sym, subst, ◌∙◌}
use mathlib.Core.Logic.{⊎_elim}
use mathlib.Core.List.{List}
use Prim.Native.Nat.{ℕ, ◌+◌, ◌-◌, ◌≤◌, ◌<◌, ◌^◌}
use native.Mathlib.Omega.{arith}
use lib.ListN.{length, take, drop}
use mir.Syntax.{w64}
use mir.Val.{Fits}
use Rattle.format.specs.Write.{fits_or}
use Rattle.replies.specs.Input.{Kept, more, hears, feed_at}
use Rattle.replies.specs.Run.{longest, Ready, Shows, Gathered, Ends, Takes}
use Rattle.replies.specs.Keeping.{Keeps, all_kept, still_kept}
use Rattle.replies.specs.declared.Run.{Run}
use Rattle.replies.proofs.Hearing.{part_heard, line_heard}
use Rattle.replies.proofs.Showing.{shows_part}

-- i characters of the piece are heard, and before the first line's end nothing is said
pub record Taking (piece : List ℕ) (r : Run) (line store buffer out : List ℕ) (s : Run) (line' store' buffer' out' : List ℕ) (i : ℕ) : Type 0 where
  pub ready : Ready s line' store' buffer' out'
  pub keeps : Keeps line store buffer out line' store' buffer' out'
  pub within : i ≤ length piece
  pub lent : length piece < 2 ^ 64
  pub still : i ≡ 0 → s.at ≡ r.at
  pub shows : (k : Kept) → Shows k r line store buffer out → Shows (hears k (take i piece)) s line' store' buffer' out'

pub none_taken : {piece : List ℕ} {r : Run} {line store buffer out : List ℕ} → Ready r line store buffer out → length piece < 2 ^ 64
    → Taking piece r line store buffer out r line store buffer out 0
none_taken h l = record { ready = h; keeps = all_kept; within = omega arith; lent = l; still = λ z. refl; shows = λ k w. w }

module _ {piece : List ℕ} {r : Run} {line store buffer out : List ℕ} {s : Run} {line' store' buffer' out' : List ℕ} {i : ℕ}
    (t : Taking piece r line store buffer out s line' store' buffer' out' i) where
  pub all_taken : length piece ≤ i → Takes piece r line store buffer out s i line' store' buffer' out'
  all_taken h = record { ready = t.ready; within = t.within; some = λ z k. omega arith; shows = t.shows }

  module _ {end : ℕ} (e : end ≡ i + feed_at (drop i piece)) where
    -- there is a next character, and fewer are left
    pub next_fits : end < length piece → Fits w64 (end + 1)
    next_fits h = record { fits = omega arith }

    pub fewer_left : end < length piece → length piece - (end + 1) < length piece - i
    fewer_left h = omega arith

    module _ {u : Run} {line'' : List ℕ} (g : Gathered s (take (end - i) (drop i piece)) line' line'' u) (l : length line'' ≡ length line') where
      pub part_ready : Ready u line'' store' buffer' out'
      part_ready =
          record {
            gathered = g.gathered;
            waiting = omega (arith, g.waiting, t.ready.waiting);
            lined = l ∙ t.ready.lined;
            stored = t.ready.stored;
            buffered = t.ready.buffered;
            room = t.ready.room;
          }

      shows : (k : Kept) → Shows k r line store buffer out → Shows (more (hears k (take i piece)) (take (end - i) (drop i piece))) u line'' store' buffer' out'
      shows k w = shows_part _ s u _ line' line'' store' buffer' out' t.ready.lined (t.shows k w) g

      heard : (k : Kept) → Shows k r line store buffer out → Shows (hears k (take end piece)) u line'' store' buffer' out'
      heard k w = subst (λ (m : Kept). Shows m u line'' store' buffer' out') (sym (part_heard k piece i end e)) (shows k w)

      -- the piece ends before its last line does
      pub part_taken : end ≤ length piece → length piece ≤ end → Takes piece r line store buffer out u end line'' store' buffer' out'
      part_taken f h = record { ready = part_ready; within = f; some = λ z k. omega arith; shows = heard }

      -- there might be no room for the line's answer
      pub part_waits : end < length piece → length out' - u.at < longest → Takes piece r line store buffer out u end line'' store' buffer' out'
      part_waits f h =
          record { ready = part_ready; within = omega arith; some = λ z k. ⊎_elim (λ (j : 1 ≤ end). j) (λ (j : end < 1). absurd (none j z)) (fits_or 1 end); shows = heard }
        where
          none : end < 1 → r.at ≡ 0 → ⊥
          none j z = let q : i ≡ 0 = omega arith in omega (arith, t.still q, g.waiting, t.ready.room)

      pub line_room : longest ≤ length out' - u.at → u.at + longest ≤ length out'
      line_room h = omega (arith, h)

      pub line_taken : {v : Run} {store'' buffer'' out'' : List ℕ} → end < length piece → Ends u line'' store' buffer' out' v store'' buffer'' out''
          → length store'' ≡ length store' → length buffer'' ≡ length buffer' → length out'' ≡ length out'
          → Taking piece r line store buffer out v line'' store'' buffer'' out'' (end + 1)
      line_taken {v} {store''} {buffer''} {out''} h d n m o =
          record {
            ready = d.ready;
            keeps = still_kept t.keeps line'' store'' buffer'' out'' l n m o;
            within = omega arith;
            lent = t.lent;
            still = λ z. absurd (omega arith);
            shows = λ k w. subst (λ (m : Kept). Shows m v line'' store'' buffer'' out'') (sym (line_heard k piece i end e h)) (d.shows _ (shows k w));
          }
