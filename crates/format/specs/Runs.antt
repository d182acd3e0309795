-- A run: one value after another, up to the end of the input. Assumes nothing.
use Rattle.std.specs.Prelude.{◌≡◌, ◌↔◌}
use Rattle.std.proofs.Math.Path.{refl, ap}
use Rattle.std.proofs.Common.{sym, ◌∙◌, arith}
use Rattle.std.proofs.Math.Option.{Option, none, some, map, none-ne-some}
use mathlib.Core.List.{List, [], ◌∷◌, ◌++◌}
use Prim.Native.Nat.{ℕ, zero, suc, ◌+◌, ◌≤◌, ◌<◌}
use Rattle.std.proofs.Math.ListN.{length, length-append}
use Rattle.format.specs.Parsed.{Parsed, fail, got}
use Rattle.format.specs.Format.{Format}
use Rattle.format.specs.Lists.{prints, All}

module _ {A : Type 0} (F : Format A) where
  -- a value, and the run behind it
  abbrev pub run_more : (List ℕ → Option (List A)) → Parsed A → Option (List A)
  run_more rest fail = none
  run_more rest (got a r) = map (λ (xs : List A). a ∷ xs) (rest r)

  -- in at most k steps
  unfoldable pub run_by : ℕ → List ℕ → Option (List A)
  run_by zero [] = some []
  run_by zero (x ∷ s) = none
  run_by (suc k) [] = some []
  run_by (suc k) (x ∷ s) = run_more (run_by k) (F.parse (x ∷ s))

  -- the values that the numbers s are, one after another, or none: s bounds their number
  unfoldable pub run : List ℕ → Option (List A)
  run s = run_by (length s) s

  map_inv : (a : A) (o : Option (List A)) (xs : List A) → map (λ (ys : List A). a ∷ ys) o ≡ some xs → (ys : List A) × (o ≡ some ys) × (xs ≡ a ∷ ys)
  map_inv a none xs e = absurd (none-ne-some xs e)
  map_inv a (some ys) xs e = (ys, refl, (cc))

  -- what is a run is what its values print
  by_only : (k : ℕ) (s : List ℕ) (xs : List A) → run_by k s ≡ some xs → All F.Ok xs × (s ≡ prints F.print xs)
  unfolding run_by
  by_only zero [] xs e = let h : [] ≡ xs = cc in rw (← h) (tt, refl)
  by_only zero (x ∷ s) xs e = absurd (none-ne-some xs e)
  by_only (suc k) [] xs e = let h : [] ≡ xs = cc in rw (← h) (tt, refl)
  by_only (suc k) (x ∷ s) xs e = go (F.parse (x ∷ s)) refl (by_only k) e
    where
      go : (m : Parsed A) → F.parse (x ∷ s) ≡ m → ((t : List ℕ) (ys : List A) → run_by k t ≡ some ys → All F.Ok ys × (t ≡ prints F.print ys))
          → run_more (run_by k) m ≡ some xs → All F.Ok xs × (x ∷ s ≡ prints F.print xs)
      go fail p ih q = absurd (none-ne-some xs q)
      go (got a r) p ih q =
          let i = map_inv a (run_by k r) xs q in
          let f = F.only (x ∷ s) a r p in
          let g = ih r i.0 i.1 in
          rw i.2 ((f.0, g.0), f.1 ∙ ap (λ (t : List ℕ). F.print a ++ t) g.1)

  pub run_only : (s : List ℕ) (xs : List A) → run s ≡ some xs → All F.Ok xs × (s ≡ prints F.print xs)
  unfolding run
  run_only s xs e = by_only (length s) s xs e

  -- and what values print is that run, where none prints nothing
  module _ (long : (a : A) → F.Ok a → 0 < length (F.print a)) where
    step : (k : ℕ) (s : List ℕ) → 0 < length s → run_by (suc k) s ≡ run_more (run_by k) (F.parse s)
    unfolding run_by
    step k [] h = absurd (omega arith)
    step k (x ∷ s) h = refl

    by_back : (k : ℕ) (xs : List A) → All F.Ok xs → length (prints F.print xs) ≤ k → run_by k (prints F.print xs) ≡ some xs
    unfolding run_by
    by_back zero [] h l = refl
    by_back zero (a ∷ xs) h l = absurd (omega (arith, length-append (F.print a) (prints F.print xs), long a h.0))
    by_back (suc k) [] h l = refl
    by_back (suc k) (a ∷ xs) h l =
        let n : length (F.print a ++ prints F.print xs) ≡ length (F.print a) + length (prints F.print xs) = length-append (F.print a) (prints F.print xs) in
        let m : 0 < length (F.print a) = long a h.0 in
        step k (F.print a ++ prints F.print xs) (omega arith)
        ∙ rw (F.back a (prints F.print xs) h.0, by_back k xs h.1 (omega arith))

    pub run_back : (xs : List A) → All F.Ok xs → run (prints F.print xs) ≡ some xs
    unfolding run
    run_back xs h = by_back (length (prints F.print xs)) xs h (omega arith)

    -- none exactly where no values print the numbers s
    pub run_refuses : (s : List ℕ) → (run s ≡ none) ↔ ((xs : List A) → All F.Ok xs → s ≡ prints F.print xs → ⊥)
    run_refuses s = (λ e xs h p. none-ne-some xs (sym e ∙ ap run p ∙ run_back xs h), λ f. go f (run s) refl)
      where
        go : ((xs : List A) → All F.Ok xs → s ≡ prints F.print xs → ⊥) → (o : Option (List A)) → run s ≡ o → o ≡ none
        go f none e = refl
        go f (some xs) e = let i = run_only s xs e in absurd (f xs i.0 i.1)

    -- the number of steps does not matter, where it is enough
    by_any : (k : ℕ) (s : List ℕ) → length s ≤ k → run_by k s ≡ run s
    by_any k s l = go (run s) refl (run_by k s) refl
      where
        go : (o : Option (List A)) → run s ≡ o → (p : Option (List A)) → run_by k s ≡ p → run_by k s ≡ run s
        go (some xs) e p q =
            let i = run_only s xs e in
            let b : run_by k s ≡ some xs = ap (run_by k) i.1 ∙ by_back k xs i.0 (omega (arith, ap length i.1)) in
            b ∙ sym e
        go none e none q = q ∙ sym e
        go none e (some xs) q =
            let i = by_only k s xs q in
            absurd (none-ne-some xs (sym e ∙ ap run i.1 ∙ run_back xs i.0))

    -- one value more, no more, and none at all
    pub run_more_lem : (s : List ℕ) (a : A) (r : List ℕ) → 0 < length s → F.parse s ≡ got a r → run s ≡ map (λ (xs : List A). a ∷ xs) (run r)
    run_more_lem s a r h e =
        let i = F.only s a r e in
        let l : length s ≡ length (F.print a) + length r = ap length i.1 ∙ length-append (F.print a) r in
        sym (by_any (suc (length s)) s (omega arith)) ∙ step (length s) s h ∙ rw (e, by_any (length s) r (omega arith))

    pub run_stop : (s : List ℕ) → 0 < length s → F.parse s ≡ fail → run s ≡ none
    run_stop s h e = sym (by_any (suc (length s)) s (omega arith)) ∙ step (length s) s h ∙ rw e

    pub run_none : run [] ≡ some []
    unfolding run run_by
    run_none = refl
