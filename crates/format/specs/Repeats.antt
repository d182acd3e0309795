-- The same walk, time and again: each begins where the one before ended, until one finds nothing. What it is where each walk is over a member of a list.
-- Assumes nothing.
use Rattle.std.specs.Prelude.{◌≡◌, refl, List, ℕ, zero, suc, ◌-◌, ◌<◌, ◌≤◌, length, drop, None, Some}
use Rattle.std.proofs.Common.{◌∙◌, ap, subst, arith, length-drop}
use Rattle.std.proofs.Math.Logic.{inl, inr}
use Rattle.std.proofs.lemmas.Bool.{cases_lt}
use denote.Ref.{MutBor}
use denote.Param.Members.{Shared}
use Rattle.format.specs.Parsed.{Parsed, fail, got}
use Rattle.format.specs.Format.{Format}
use Rattle.format.specs.Read.{place_of, place_at, rest_at}
use Rattle.format.specs.Lists.{many}
use Rattle.format.specs.Count.{Appends}
use Rattle.format.specs.Walk.{Walk, Walking}
use Rattle.format.specs.Loop.{Going, MembersAt, loop_starts, loop_goes_on, loop_stops, loop_done}
use Rattle.format.specs.Counted.{CountedList, count_missing, count_exceeds, members_follow}
use Rattle.format.specs.declared.Done.{Done}

-- what a call of f may do that walks from the place `at` on
module _ {F T : Type 0} (g : Shared F (ℕ × (MutBor (List T) × (Done × Unit {0}))) (Walk × (MutBor (List T) × Unit {0}))) (f : F) where
  pub record Calls (at : ℕ) (old : List T) (s : Done) (new : List T) (r : Walk) : Type 0 where
    pub lent : MutBor (List T)
    pub holds : lent.now ≡ old
    pub left : MutBor (List T)
    pub met : g.post f (at, (lent, (s, tt))) (r, (left, tt))
    pub leaves : left.now ≡ new

module _ {T : Type 0} where
  -- behind a walk that found m and left mid: nothing more where it found nothing, and K where it found something
  abbrev pub Onward : (ℕ → Done → Type 0) → List T → List T → Walk → Walk → Type 0
  Onward K mid new r None = (new ≡ mid) × (r ≡ None)
  Onward K mid new r (Some (p, u)) = K p u

  module _ (R : ℕ → List T → Done → List T → Walk → Type 0) where
    -- n walks, of each of which R says what it does
    abbrev pub Repeated : ℕ → ℕ → List T → Done → List T → Walk → Type 0
    Repeated zero at old s new r = (new ≡ old) × (r ≡ Some (at, s))
    Repeated (suc n) at old s new r =
        (mid : List T) × (m : Walk) × R at old s mid m × (length mid ≡ length old) × Onward (λ p u. Repeated n p mid u new r) mid new r m

    pub record Repeats (n at : ℕ) (old : List T) (s : Done) (new : List T) (r : Walk) : Type 0 where
      pub walks : Repeated n at old s new r

-- ---- n walks over a member each are a walk over n members

module _ {A : Type 0} {F : Format A} {f : ℕ → A → List ℕ} {g : A → ℕ} {w : List ℕ} {R : ℕ → List ℕ → Done → List ℕ → Walk → Type 0}
    (each : (p : ℕ) (old : List ℕ) (s : Done) (new : List ℕ) (r : Walk) → p ≤ length w → R p old s new r → Walking F.parse (f p) g w p old s new r) where
  module _ {q n : ℕ} {old : List ℕ} {s₀ : Done} where
    onward : (m : ℕ) {out : List ℕ} {s : Done} {p : ℕ} (mid new : List ℕ) (k r : Walk) → Going F f g w q n old s₀ out s p (suc m) → Walking F.parse (f p) g w p out s mid k → length mid ≡ length out
        → (K : ℕ → Done → Type 0) → ((p' : ℕ) (u : Done) → Going F f g w q n old s₀ mid u p' m → K p' u → MembersAt F f g w q n old s₀ new r) → Onward K mid new r k
        → MembersAt F f g w q n old s₀ new r
    onward m mid new None r I x l K next (a, b) = rw (a, b) (loop_stops I (omega arith) x refl)
    onward m mid new (Some (p', u)) r I x l K next on =
        next p' u (subst (λ i. Going F f g w q n old s₀ mid u p' i) (omega arith) (loop_goes_on I (omega arith) x refl l)) on

    on_from : (m : ℕ) {out : List ℕ} {s : Done} {p : ℕ} (new : List ℕ) (r : Walk) → Going F f g w q n old s₀ out s p m → Repeated R m p out s new r → MembersAt F f g w q n old s₀ new r
    on_from zero new r I (a, b) = rw (a, b) (loop_done I (omega arith))
    on_from (suc m) {out} {s} {p} new r I (mid, k, y, l, on) =
        onward m mid new k r I (each p out s mid k I.place y) l (λ p' u. Repeated R m p' mid u new r) (λ p' u J z. on_from m new r J z) on

  pub repeats_members : {n at : ℕ} {old : List ℕ} {s : Done} {new : List ℕ} {r : Walk} → at ≤ length w → Repeats R n at old s new r → MembersAt F f g w at n old s new r
  repeats_members {n} {new = new} {r} h x = on_from n new r (loop_starts h) x.walks

-- ---- a list behind its count, which N reads and of which c is written: nothing where there is no count, or one that is larger than what is left

module _ {T : Type 0} (c : ℕ → List T) (R : ℕ → List T → Done → List T → Walk → Type 0) (w : List ℕ) where
  abbrev pub Counting : Parsed ℕ → List T → Done → List T → Walk → Type 0
  Counting fail old s new r = r ≡ None
  Counting (got n t) old s new r =
      (length t < n → r ≡ None) × (n ≤ length t → (cur : List T) × (u : Done) × Appends (c n) old s cur u × Repeats R n (place_of w t) cur u new r)

pub record WalksList {T : Type 0} (N : Format ℕ) (c : ℕ → List T) (R : ℕ → List T → Done → List T → Walk → Type 0) (w : List ℕ) (at : ℕ) (old : List T) (s : Done) (new : List T) (r : Walk) :
    Type 0 where
  pub walks : Counting c R w (N.parse (drop at w)) old s new r

-- how a walk over a list meets it
module _ {T : Type 0} {N : Format ℕ} {c : ℕ → List T} {R : ℕ → List T → Done → List T → Walk → Type 0} {w : List ℕ} {at : ℕ} {old : List T} {s : Done} {new : List T}
    {n p : ℕ} (e : N.parse (drop at w) ≡ got n (drop p w)) (h : p ≤ length w) where
  pub overcounted_list : length w - p < n → WalksList N c R w at old s new None
  overcounted_list l = record { walks = rw e (λ k. refl, λ k. absurd (omega (arith, length-drop p w))) }

  pub counted_list : {cur : List T} {u : Done} {r : Walk} → n ≤ length w - p → Appends (c n) old s cur u → Repeats R n p cur u new r → WalksList N c R w at old s new r
  counted_list {cur} {u} l a x = record { walks = rw (e, place_at w p h) (λ k. absurd (omega (arith, length-drop p w)), λ k. (cur, u, a, x)) }

-- and what it is where R is over a member
module _ {A : Type 0} {N : Format ℕ} {c : ℕ → List ℕ} {F : Format A} {f : ℕ → A → List ℕ} {g : A → ℕ} {f' : ℕ → List A → List ℕ} {g' : List A → ℕ} (K : CountedList N c F f g f' g')
    {R : ℕ → List ℕ → Done → List ℕ → Walk → Type 0} {w : List ℕ}
    (each : (p : ℕ) (old : List ℕ) (s : Done) (new : List ℕ) (r : Walk) → p ≤ length w → R p old s new r → Walking F.parse (f p) g w p old s new r) where
  pub walks_list : {at : ℕ} {old : List ℕ} {s : Done} {new : List ℕ} {r : Walk} → WalksList N c R w at old s new r → Walking (many N F).parse (f' at) g' w at old s new r
  walks_list {at} {old} {s} {new} {r} x = go (N.parse (drop at w)) refl x.walks
    where
      go : (m : Parsed ℕ) → N.parse (drop at w) ≡ m → Counting c R w m old s new r → Walking (many N F).parse (f' at) g' w at old s new r
      go fail e y = rw y (count_missing K e)
      go (got n t) e y =
          let ra = rest_at N w at n t e in
          let p = place_of w t in
          let q : N.parse (drop at w) ≡ got n (drop p w) = e ∙ ap (λ l. got n l) ra.0 in
          let l : length t ≡ length w - p = ap length ra.0 ∙ length-drop p w in
          elim (cases_lt (length t) n) [
            | inl k ↦ rw (y.0 k) (count_exceeds K n p q (omega arith))
            | inr k ↦ let z = y.1 k in members_follow K n p q ra.1 z.2 (repeats_members each ra.1 z.3)
          ]

-- as a call that is lent a buffer says it
module _ {A : Type 0} {N : Format ℕ} {c : ℕ → List ℕ} {F : Format A} {f : ℕ → A → List ℕ} {g : A → ℕ} {f' : ℕ → List A → List ℕ} {g' : List A → ℕ} (K : CountedList N c F f g f' g') {C : Type 0}
    {G : Shared C (ℕ × (MutBor (List ℕ) × (Done × Unit {0}))) (Walk × (MutBor (List ℕ) × Unit {0}))} {call : C} {w : List ℕ} where
  pub calls_list : {at : ℕ} {old : List ℕ} {s : Done} {new : List ℕ} {r : Walk} → WalksList N c (Calls G call) w at old s new r
      → ((p : ℕ) (lent : MutBor (List ℕ)) (s : Done) (left : MutBor (List ℕ)) (r : Walk) → p ≤ length w → G.post call (p, (lent, (s, tt))) (r, (left, tt))
      → Walking F.parse (f p) g w p lent.now s left.now r)
      → Walking (many N F).parse (f' at) g' w at old s new r
  calls_list x each = walks_list K go x
    where
      go : (p : ℕ) (old : List ℕ) (s : Done) (new : List ℕ) (r : Walk) → p ≤ length w → Calls G call p old s new r → Walking F.parse (f p) g w p old s new r
      go p old s new r h y =
          subst (λ o. Walking F.parse (f p) g w p o s new r) y.holds (subst (λ o. Walking F.parse (f p) g w p y.lent.now s o r) y.leaves (each p y.lent s y.left r h y.met))
