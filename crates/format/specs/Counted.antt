-- A walk over a list: over its count, and then over so many members. The one law for lists of plain members and of parts, read or written. Assumes nothing.
use Rattle.std.specs.Prelude.{◌≡◌, refl, List, [], ◌∷◌, ◌++◌, ℕ, ◌+◌, ◌-◌, ◌<◌, ◌≤◌, min, length, drop}
use Rattle.std.proofs.Common.{ap, arith, length-drop}
use Rattle.format.specs.Parsed.{Parsed, fail, got}
use Rattle.format.specs.Format.{Format}
use Rattle.format.specs.Lists.{times, times_short, times_only, many, prints}
use Rattle.format.specs.Read.{begins, ends_at}
use Rattle.format.specs.Count.{Appends, no_refusal, silent, adds_seq, adds_eq}
use Rattle.format.specs.Walk.{Walked, Walking, nothing_there}
use Rattle.format.specs.Loop.{prints_at, prints_at_plain, least_of, MembersAt}
use Rattle.format.specs.declared.Done.{Done}
use Rattle.format.specs.Walk.{Walk}
use Rattle.std.specs.Prelude.{None}

-- N reads the count, and c is written of it; F reads a member, and f is written of one that stands at a place; f' is written of a list that does; g, g': what a
-- member draws, and a list
pub record CountedList {A : Type 0} (N : Format ℕ) (c : ℕ → List ℕ) (F : Format A) (f : ℕ → A → List ℕ) (g : A → ℕ) (f' : ℕ → List A → List ℕ) (g' : List A → ℕ) : Type 0 where
  pub writes : (at : ℕ) (xs : List A) → c (length xs) ++ prints_at F.print f (at + length (N.print (length xs))) xs ≡ f' at xs
  pub draws : (xs : List A) → min no_refusal (least_of g xs) ≡ g' xs
  -- a count takes a number at least, and so does a member
  pub long : (n : ℕ) → 0 < length (N.print n)
  pub each : (a : A) → F.Ok a → 0 < length (F.print a)

module _ {A : Type 0} {N : Format ℕ} {c : ℕ → List ℕ} {F : Format A} {f : ℕ → A → List ℕ} {g : A → ℕ} {f' : ℕ → List A → List ℕ} {g' : List A → ℕ} (K : CountedList N c F f g f' g') {w : List ℕ}
    {at : ℕ} {old : List ℕ} {s : Done} {new : List ℕ} where
  pub count_missing : N.parse (drop at w) ≡ fail → Walking (many N F).parse (f' at) g' w at old s new None
  count_missing e = nothing_there (rw e)

  module _ (n p : ℕ) (e : N.parse (drop at w) ≡ got n (drop p w)) where
    -- more than numbers are left
    pub count_exceeds : length w - p < n → Walking (many N F).parse (f' at) g' w at old s new None
    count_exceeds h = nothing_there (rw (e, times_short F K.each n (drop p w) (omega (arith, length-drop p w))))

    pub members_follow : {cur : List ℕ} {t : Done} {r : Walk} → p ≤ length w → Appends (c n) old s cur t → MembersAt F f g w p n cur t new r
        → Walking (many N F).parse (f' at) g' w at old s new r
    members_follow {cur} {t} {r} k a m = record { walked = rw e (go (times F.parse n (drop p w)) refl m.walked) }
      where
        go : (m : Parsed (List A)) → times F.parse n (drop p w) ≡ m → Walked (prints_at F.print f p) (least_of g) w m cur t new r → Walked (f' at) g' w m old s new r
        go fail q x = x
        go (got xs u) q x =
            let l : length xs ≡ n = (times_only F n (drop p w) xs u q).0 in
            let i : p ≡ at + length (N.print n) = ends_at N w at p n e (begins N w at n (drop p w) (K.long n) e) k in
            let b : c n ++ prints_at F.print f p xs ≡ f' at xs = rw (i, ← l) (K.writes at xs) in
            (x.0, x.1, adds_eq b (K.draws xs) (adds_seq a x.2))

-- members that draw nothing
pub least_silent : {A : Type 0} (xs : List A) → least_of silent xs ≡ no_refusal
least_silent [] = refl
least_silent (a ∷ xs) = rw (least_silent xs)

-- members of which the same is written wherever they stand
pub counted_plain : {A : Type 0} (N : Format ℕ) (c : ℕ → List ℕ) (F : Format A) (f : A → List ℕ) → ((n : ℕ) → 0 < length (N.print n)) → ((a : A) → F.Ok a → 0 < length (F.print a))
    → CountedList N c F (λ k a. f a) silent (λ k xs. c (length xs) ++ prints f xs) silent
counted_plain N c F f long each =
    record {
      writes = λ at xs. ap (λ (l : List ℕ). c (length xs) ++ l) (prints_at_plain F.print f (at + length (N.print (length xs))) xs);
      draws = λ xs. ap (min no_refusal) (least_silent xs);
      long = long;
      each = each;
    }
