-- A loop that walks a counted list, for any member: how far it has come, and what it has appended. What is written of a member may depend on where it
-- stood, as a reader's spans do; where it does not, `prints_at_plain` says so. Assumes nothing.
use Rattle.std.specs.Prelude.{◌≡◌, refl, List, [], ◌∷◌, ◌++◌, ℕ, suc, ◌+◌, ◌-◌, ◌<◌, ◌≤◌, min, length, drop}
use Rattle.std.proofs.Common.{sym, ◌∙◌, ap, subst, append-nil, append_assoc, arith, length-append}
use Rattle.format.specs.Parsed.{Parsed, fail, got, bind, map}
use Rattle.format.specs.Format.{Format}
use Rattle.format.specs.Lists.{times, prints, prints_more}
use Rattle.format.specs.Read.{place_at, ends_at}
use Rattle.format.specs.Count.{Adds, no_refusal, silent, adds_nil, adds_seq, adds_eq, min_assoc}
use Rattle.format.specs.Walk.{Gone, Walked, Walking, not_found, gone}
use Rattle.format.specs.declared.Done.{Done}
use Rattle.format.specs.Walk.{Walk}
use Rattle.std.specs.Prelude.{None, Some}

-- ---- how far the reading has come

module _ {A : Type 0} (P : List ℕ → Parsed A) where
  -- of n members from s on, xs are read, and m are left from t on
  pub record Come (n : ℕ) (s : List ℕ) (xs : List A) (m : ℕ) (t : List ℕ) : Type 0 where
    pub rest : times P n s ≡ map (λ ys. xs ++ ys) (times P m t)
    pub many : length xs + m ≡ n

  map-none : (m : Parsed (List A)) → m ≡ map (λ ys. [] ++ ys) m
  map-none fail = refl
  map-none (got ys r) = refl

  pub come_none : (n : ℕ) (s : List ℕ) → Come n s [] n s
  come_none n s = record { rest = map-none (times P n s); many = omega arith }

  push : (xs : List A) (a : A) (m : Parsed (List A)) → map (λ ys. xs ++ ys) (bind m (λ ys t. got (a ∷ ys) t)) ≡ map (λ ys. (xs ++ (a ∷ [])) ++ ys) m
  push xs a fail = refl
  push xs a (got ys t) = rw (append_assoc xs (a ∷ []) ys)

  pub come_more : {n : ℕ} {s : List ℕ} {xs : List A} (m : ℕ) {t : List ℕ} (a : A) (u : List ℕ) → Come n s xs (suc m) t → P t ≡ got a u → Come n s (xs ++ (a ∷ [])) m u
  come_more {n} {s} {xs} m {t} a u c e =
      let l : length (xs ++ (a ∷ [])) ≡ length xs + 1 = length-append xs (a ∷ []) in
      let k : length xs + suc m ≡ n = c.many in
      record { rest = c.rest ∙ rw e (push xs a (times P m u)); many = omega arith }

  pub come_stop : {n : ℕ} {s : List ℕ} {xs : List A} (m : ℕ) {t : List ℕ} → Come n s xs (suc m) t → P t ≡ fail → times P n s ≡ fail
  come_stop m c e = c.rest ∙ rw e

  pub come_done : {n : ℕ} {s : List ℕ} {xs : List A} {t : List ℕ} → Come n s xs 0 t → times P n s ≡ got xs t
  come_done {xs = xs} c = c.rest ∙ rw (append-nil xs)

-- ---- what is written of all members, the first of which stands at q, and the least that any draws

abbrev pub prints_at : {A : Type 0} → (A → List ℕ) → (ℕ → A → List ℕ) → ℕ → List A → List ℕ
prints_at long f q [] = []
prints_at long f q (a ∷ xs) = f q a ++ prints_at long f (q + length (long a)) xs

pub prints_at_more : {A : Type 0} (long : A → List ℕ) (f : ℕ → A → List ℕ) (q : ℕ) (xs : List A) (a : A)
    → prints_at long f q (xs ++ (a ∷ [])) ≡ prints_at long f q xs ++ f (q + length (prints long xs)) a
prints_at_more long f q [] a = let e : q + 0 ≡ q = omega arith in append-nil (f q a) ∙ ap (λ (k : ℕ). f k a) (sym e)
prints_at_more long f q (x ∷ xs) a =
    let l : length (long x ++ prints long xs) ≡ length (long x) + length (prints long xs) = length-append (long x) (prints long xs) in
    let e : q + length (long x) + length (prints long xs) ≡ q + length (long x ++ prints long xs) = omega arith in
    ap (λ (r : List ℕ). f q x ++ r) (prints_at_more long f (q + length (long x)) xs a ∙ ap (λ (k : ℕ). prints_at long f (q + length (long x)) xs ++ f k a) e)
    ∙ sym (append_assoc (f q x) (prints_at long f (q + length (long x)) xs) (f (q + length (long x ++ prints long xs)) a))

pub prints_at_plain : {A : Type 0} (long f : A → List ℕ) (q : ℕ) (xs : List A) → prints_at long (λ k a. f a) q xs ≡ prints f xs
prints_at_plain long f q [] = refl
prints_at_plain long f q (a ∷ xs) = ap (λ (r : List ℕ). f a ++ r) (prints_at_plain long f (q + length (long a)) xs)

abbrev pub least_of : {A : Type 0} → (A → ℕ) → List A → ℕ
least_of g [] = no_refusal
least_of g (a ∷ xs) = min (g a) (least_of g xs)

least_more : {A : Type 0} (g : A → ℕ) (xs : List A) (a : A) → least_of g (xs ++ (a ∷ [])) ≡ min (least_of g xs) (g a)
least_more g [] a = swap (g a)
  where
    swap : (x : ℕ) → min x no_refusal ≡ min no_refusal x
    swap x = omega arith
least_more g (x ∷ xs) a = ap (min (g x)) (least_more g xs a) ∙ sym (min_assoc (g x) (least_of g xs) (g a))

-- ---- the loop

module _ {A : Type 0} (F : Format A) (f : ℕ → A → List ℕ) (g : A → ℕ) where
  -- n members from the place q on; `left` of them are left, from p on
  pub record Going (w : List ℕ) (q n : ℕ) (out₀ : List ℕ) (s₀ : Done) (out : List ℕ) (s : Done) (p left : ℕ) : Type 0 where
    pub xs : List A
    pub come : Come F.parse n (drop q w) xs left (drop p w)
    pub adds : Adds (prints_at F.print f q xs) (least_of g xs) out₀ s₀ out s
    pub place : p ≤ length w
    pub at : p ≡ q + length (prints F.print xs)
    pub kept : length out ≡ length out₀

  pub going_none : (w : List ℕ) (q n : ℕ) (out : List ℕ) (s : Done) → q ≤ length w → Going w q n out s out s q n
  going_none w q n out s h =
      record { xs = []; come = come_none F.parse n (drop q w); adds = adds_nil out s; place = h; at = omega arith; kept = refl }

  module _ {w : List ℕ} {q n : ℕ} {out₀ : List ℕ} {s₀ : Done} {out : List ℕ} {s : Done} {p left : ℕ} (I : Going w q n out₀ s₀ out s p left) where
    come_left : 0 < left → Come F.parse n (drop q w) I.xs (suc (left - 1)) (drop p w)
    come_left l = subst (λ (m : ℕ). Come F.parse n (drop q w) I.xs m (drop p w)) (omega arith) I.come

    pub going_more : 0 < left → {new : List ℕ} {p' : ℕ} {u : Done} → Gone F (f p) g w p out s new p' u → length new ≡ length out → Going w q n out₀ s₀ new u p' (left - 1)
    going_more l {new} {p'} {u} y e =
        let a = y.value in
        let long = ends_at F w p p' a y.read I.place y.place in
        let pq : p ≡ q + length (prints F.print I.xs) = I.at in
        let pl : length (prints F.print I.xs ++ F.print a) ≡ length (prints F.print I.xs) + length (F.print a) = length-append (prints F.print I.xs) (F.print a) in
        let pm : length (prints F.print (I.xs ++ (a ∷ []))) ≡ length (prints F.print I.xs ++ F.print a) = ap length (prints_more F.print I.xs a) in
        record {
          xs = I.xs ++ (a ∷ []);
          come = come_more F.parse (left - 1) a (drop p' w) (come_left l) y.read;
          adds =
              adds_eq (ap (λ (k : ℕ). prints_at F.print f q I.xs ++ f k a) pq ∙ sym (prints_at_more F.print f q I.xs a)) (sym (least_more g I.xs a))
              (adds_seq I.adds y.adds);
          place = y.place;
          at = omega arith;
          kept = e ∙ I.kept;
        }

    pub going_stop : 0 < left → F.parse (drop p w) ≡ fail → times F.parse n (drop q w) ≡ fail
    going_stop l e = come_stop F.parse (left - 1) (come_left l) e

    pub going_done : left ≤ 0 → (times F.parse n (drop q w) ≡ got I.xs (drop p w)) × (length I.xs ≡ n)
    going_done l =
        let ln : length I.xs + left ≡ n = I.come.many in
        let z : left ≡ 0 = omega arith in
        let c0 : Come F.parse n (drop q w) I.xs 0 (drop p w) = subst (λ (m : ℕ). Come F.parse n (drop q w) I.xs m (drop p w)) z I.come in
        (come_done F.parse c0, omega arith)

-- ---- what the loop has walked when it is done

-- n members from the place q on
pub record MembersAt {A : Type 0} (F : Format A) (f : ℕ → A → List ℕ) (g : A → ℕ) (w : List ℕ) (q n : ℕ) (old : List ℕ) (s : Done) (new : List ℕ) (r : Walk) : Type 0 where
  pub walked : Walked (prints_at F.print f q) (least_of g) w (times F.parse n (drop q w)) old s new r

-- of which is written the same wherever they stand, and which draw no refusal
abbrev pub Members : {A : Type 0} → Format A → (A → List ℕ) → List ℕ → ℕ → ℕ → List ℕ → Done → List ℕ → Walk → Type 0
Members F f = MembersAt F (λ k a. f a) silent

module _ {A : Type 0} {F : Format A} {f : ℕ → A → List ℕ} {g : A → ℕ} {w : List ℕ} {q n : ℕ} {old : List ℕ} {s₀ : Done} where
  pub loop_starts : q ≤ length w → Going F f g w q n old s₀ old s₀ q n
  loop_starts h = going_none F f g w q n old s₀ h

  module _ {out : List ℕ} {s : Done} {p left : ℕ} (I : Going F f g w q n old s₀ out s p left) where
    pub loop_goes_on : {new : List ℕ} {r : Walk} {p' : ℕ} {u : Done} → 0 < left → Walking F.parse (f p) g w p out s new r → r ≡ Some (p', u) → length new ≡ length out
        → Going F f g w q n old s₀ new u p' (left - 1)
    loop_goes_on {new} {r} {p'} {u} l h e k = going_more F f g I l (gone F h e) k

    pub loop_stops : {new : List ℕ} {r : Walk} → 0 < left → Walking F.parse (f p) g w p out s new r → r ≡ None → MembersAt F f g w q n old s₀ new None
    loop_stops {new} {r} l h e = record { walked = rw (going_stop F f g I l (not_found h e)) refl }

    pub loop_done : left ≤ 0 → MembersAt F f g w q n old s₀ out (Some (p, s))
    loop_done l = record { walked = rw (going_done F f g I l).0 (s, rw (place_at w p I.place), I.adds) }
