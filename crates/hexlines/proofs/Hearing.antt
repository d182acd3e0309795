-- A piece, part by part: what was said to each is written, so that nothing waits. Assumes nothing.
use mathlib.Core.Path.{◌≡◌, refl, sym, ap, subst, ◌∙◌}
use mathlib.Core.Bool.{true, false, true≢false}
use mathlib.Core.List.{List}
use Prim.Native.Nat.{ℕ, ◌+◌, ◌-◌, ◌≤◌, ◌<◌, ◌^◌}
use native.Mathlib.Omega.{arith}
use mir.Syntax.{w64}
use mir.Val.{Fits}
use lib.ListN.{length, take, drop, length-drop}
use lib.Seq.{take_all, take-add}
use Rattle.format.specs.Write.{rest_lent}
use Rattle.replies.specs.Input.{Kept, hears, hears_more}
use Rattle.replies.specs.Handing.{quiet, hears_quiet}
use Rattle.replies.specs.Run.{Ready, Shows, Takes, HearsAll}
use Rattle.replies.specs.Keeping.{Keeps, all_kept, still_kept}
use Rattle.replies.specs.declared.Run.{Run}

-- i characters of the piece are heard, and nothing waits
pub record Hearing (piece : List ℕ) (r : Run) (line store buffer out : List ℕ) (s : Run) (line' store' buffer' out' : List ℕ) (i : ℕ) : Type 0 where
  pub ready : Ready s line' store' buffer' out'
  pub nothing : s.at ≡ 0
  pub keeps : Keeps line store buffer out line' store' buffer' out'
  pub within : i ≤ length piece
  pub lent : length piece < 2 ^ 64
  pub shows : (k : Kept) → Shows k r line store buffer out → Shows (quiet (hears k (take i piece))) s line' store' buffer' out'

-- what waits is written
abbrev written : Run → Run
written s = record { state = s.state; n = s.n; at = 0 }

written_ready : {s : Run} {line store buffer out : List ℕ} → Ready s line store buffer out → Ready (written s) line store buffer out
written_ready p = record { gathered = p.gathered; waiting = omega arith; lined = p.lined; stored = p.stored; buffered = p.buffered; room = p.room }

written_shows : {m : Kept} {s : Run} {line store buffer out : List ℕ} → Shows m s line store buffer out → Shows (quiet m) (written s) line store buffer out
written_shows w = record { state = w.state; stored = w.stored; built = w.built; front = w.front; waits = refl }

pub hearing_starts : {piece : List ℕ} {r : Run} {line store buffer out : List ℕ} → Ready r line store buffer out → r.at ≡ 0 → length piece < 2 ^ 64
    → Hearing piece r line store buffer out r line store buffer out 0
hearing_starts {out = out} p z l =
    record {
      ready = p;
      nothing = z;
      keeps = all_kept;
      within = omega arith;
      lent = l;
      shows = λ k w. record { state = w.state; stored = w.stored; built = w.built; front = w.front; waits = ap (λ (n : ℕ). take n out) z };
    }

module _ {piece : List ℕ} {r : Run} {line store buffer out : List ℕ} {s : Run} {line' store' buffer' out' : List ℕ} {i : ℕ}
    (h : Hearing piece r line store buffer out s line' store' buffer' out' i) where
  pub all_heard : length piece ≤ i → HearsAll piece r line store buffer out s true line' store' buffer' out'
  all_heard l =
      record {
        ready = h.ready;
        nothing = h.nothing;
        shows = λ ok k w. subst (λ (p : List ℕ). Shows (quiet (hears k p)) s line' store' buffer' out') (take_all i piece l) (h.shows k w);
      }

  module _ {u : Run} {to : ℕ} {line'' store'' buffer'' out'' : List ℕ}
      (t : Takes (take (length piece - i) (drop i piece)) s line' store' buffer' out' u to line'' store'' buffer'' out'') where
    rest : take (length piece - i) (drop i piece) ≡ drop i piece
    rest = rest_lent i piece

    few : to ≤ length piece - i
    few = omega (arith, t.within, ap length rest, length-drop i piece)

    pub next_fits : Fits w64 (i + to)
    next_fits = record { fits = omega (arith, few, h.within, h.lent) }

    pub fewer_left : i < length piece → length piece - (i + to) < length piece - i
    fewer_left l = omega (arith, t.some h.nothing (omega (arith, ap length rest, length-drop i piece)))

    pub waiting_within : u.at ≤ length out''
    waiting_within = t.ready.waiting

    -- where writing failed nothing is said of what the memory shows
    pub not_written : HearsAll piece r line store buffer out (written u) false line'' store'' buffer'' out''
    not_written = record { ready = written_ready t.ready; nothing = refl; shows = λ ok. absurd (true≢false (sym ok)) }

    pub hearing_goes_on : length line'' ≡ length line' → length store'' ≡ length store' → length buffer'' ≡ length buffer' → length out'' ≡ length out'
        → Hearing piece r line store buffer out (written u) line'' store'' buffer'' out'' (i + to)
    hearing_goes_on l n m o =
        record {
          ready = written_ready t.ready;
          nothing = refl;
          keeps = still_kept h.keeps line'' store'' buffer'' out'' l n m o;
          within = omega (arith, few, h.within);
          lent = h.lent;
          shows = λ k w. subst (λ (m : Kept). Shows m (written u) line'' store'' buffer'' out'') (heard k) (written_shows (t.shows _ (h.shows k w)));
        }
      where
        heard : (k : Kept) → quiet (hears (quiet (hears k (take i piece))) (take to (take (length piece - i) (drop i piece)))) ≡ quiet (hears k (take (i + to) piece))
        heard k =
            hears_quiet (hears k (take i piece)) (take to (take (length piece - i) (drop i piece)))
            ∙ ap (λ (p : List ℕ). quiet (hears (hears k (take i piece)) (take to p))) rest
            ∙ ap quiet (sym (hears_more k (take i piece) (take to (drop i piece))))
            ∙ ap (λ (p : List ℕ). quiet (hears k p)) (sym (take-add i to piece))
