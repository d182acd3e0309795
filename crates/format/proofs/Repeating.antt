-- How far a loop has come that walks again and again: what is left of n walks, done from here, makes n from the start. Assumes nothing.
use Rattle.std.specs.Prelude.{◌≡◌, refl, List, ℕ, suc, ◌+◌, ◌-◌, ◌<◌, ◌≤◌, length, None, Some}
use Rattle.std.proofs.Common.{subst, sym, arith}
use denote.Ref.{MutBor}
use denote.Param.Members.{Shared}
use Rattle.format.specs.Walk.{Walk}
use Rattle.format.specs.Repeats.{Calls, Repeats}
use Rattle.format.specs.declared.Done.{Done}

-- a call did what it may do
pub called : {F T : Type 0} {g : Shared F (ℕ × (MutBor (List T) × (Done × Unit {0}))) (Walk × (MutBor (List T) × Unit {0}))} {f : F} {at : ℕ} (lent : MutBor (List T)) {s : Done}
    (left : MutBor (List T)) {r : Walk} → g.post f (at, (lent, (s, tt))) (r, (left, tt)) → Calls g f at lent.now s left.now r
called lent left h = record { lent = lent; holds = refl; left = left; met = h; leaves = refl }

-- i of n are done
pub record Onto {T : Type 0} (R : ℕ → List T → Done → List T → Walk → Type 0) (n at : ℕ) (old : List T) (s : Done) (i p : ℕ) (out : List T) (t : Done) : Type 0 where
  pub rest : (new : List T) (r : Walk) → Repeats R (n - i) p out t new r → Repeats R n at old s new r

all_left : (n : ℕ) → n ≡ n - 0
all_left n = omega arith

module _ {T : Type 0} {R : ℕ → List T → Done → List T → Walk → Type 0} {n at : ℕ} {old : List T} {s : Done} where
  pub onto_none : Onto R n at old s 0 at old s
  onto_none = record { rest = λ new r x. subst (λ m. Repeats R m at old s new r) (sym (all_left n)) x }

  module _ {i p : ℕ} {out : List T} {t : Done} (I : Onto R n at old s i p out t) where
    one_left : i < n → n - i ≡ suc (n - (i + 1))
    one_left l = omega arith

    pub onto_more : {mid : List T} {q : ℕ} {u : Done} → i < n → R p out t mid (Some (q, u)) → length mid ≡ length out → Onto R n at old s (i + 1) q mid u
    onto_more {mid} {q} {u} l x k =
        record { rest = λ new r y. I.rest new r (subst (λ m. Repeats R m p out t new r) (sym (one_left l)) (record { walks = (mid, Some (q, u), x, k, y.walks) })) }

    pub onto_stop : {new : List T} → i < n → R p out t new None → length new ≡ length out → Repeats R n at old s new None
    onto_stop {new} l x k =
        I.rest new None (subst (λ m. Repeats R m p out t new None) (sym (one_left l)) (record { walks = (new, None, x, k, (refl, refl)) }))

    pub onto_done : n ≤ i → Repeats R n at old s out (Some (p, t))
    onto_done l =
        let z : 0 ≡ n - i = omega arith in
        I.rest out (Some (p, t)) (subst (λ m. Repeats R m p out t out (Some (p, t))) z (record { walks = (refl, refl) }))
