-- What is kept from piece to piece: how long the buffers are, and that what is gathered and what waits stand in them. Assumes nothing.
use mathlib.Core.Path.{◌≡◌, refl, ◌∙◌}
use mathlib.Core.Bool.{Bool}
use mathlib.Core.List.{List}
use Prim.Native.Nat.{ℕ, ◌≤◌}
use native.Mathlib.Omega.{arith}
use lib.ListN.{length}
use Rattle.frames.specs.declared.State.{State}
use Rattle.replies.specs.Input.{kept_most}
use Rattle.replies.specs.Run.{store_long, buffer_long, longest, Ready, HearsAll}
use Rattle.replies.specs.Keeping.{Keeps, all_kept, still_kept}
use Rattle.replies.specs.declared.Run.{Run}

pub record Answering (piece₀ line₀ store₀ buffer₀ out₀ piece line store buffer out : List ℕ) (run : Run) : Type 0 where
  pub ready : Ready run line store buffer out
  pub nothing : run.at ≡ 0
  pub keeps : Keeps line₀ store₀ buffer₀ out₀ line store buffer out
  pub pieces : length piece ≡ length piece₀

pub answering_starts : {piece line store buffer out : List ℕ} {state : State} → length line ≡ kept_most → length store ≡ store_long → length buffer ≡ buffer_long → longest ≤ length out
    → Answering piece line store buffer out piece line store buffer out (record { state = state; n = 0; at = 0 })
answering_starts l t b o =
    record { ready = record { gathered = omega arith; waiting = omega arith; lined = l; stored = t; buffered = b; room = o }; nothing = refl; keeps = all_kept; pieces = refl }

module _ {piece₀ line₀ store₀ buffer₀ out₀ piece line store buffer out : List ℕ} {run : Run} (a : Answering piece₀ line₀ store₀ buffer₀ out₀ piece line store buffer out run) where
  pub piece_kept : (l : List ℕ) → length l ≡ length piece → length l ≡ length piece₀
  piece_kept l e = e ∙ a.pieces

  pub answering_goes_on : {piece' line' store' buffer' out' : List ℕ} {s : Run} {p : List ℕ} {ok : Bool} → length piece' ≡ length piece → HearsAll p run line store buffer out s ok line' store' buffer' out' → length line' ≡ length line → length store' ≡ length store
      → length buffer' ≡ length buffer → length out' ≡ length out → Answering piece₀ line₀ store₀ buffer₀ out₀ piece' line' store' buffer' out' s
  answering_goes_on {piece'} {line'} {store'} {buffer'} {out'} p r l t b o =
      record { ready = r.ready; nothing = r.nothing; keeps = still_kept a.keeps line' store' buffer' out' l t b o; pieces = piece_kept piece' p }
