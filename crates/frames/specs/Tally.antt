-- What a walk over frames finds (document 01, Store and module): how many items each section has, and how many bytes they have. Assumes nothing.
use Rattle.std.specs.Prelude.{Option, None, Some, ◌≡◌, refl, Bool, true, false, cond, List, [], ◌∷◌, ◌++◌, ℕ, zero, suc, ◌+◌, ◌≤◌, ◌<◌, eqb, set}
use Rattle.std.proofs.Common.{sym, ap, ap₂, ◌∙◌, true≢false, arith, length-append, eqb-true}
use Rattle.std.proofs.Math.Option as M
use Rattle.std.proofs.Math.ListN.{length, get_or}
use Rattle.format.specs.Lists.{prints, All}
use Rattle.format.specs.Runs.{run, run_only}
use Rattle.frames.specs.Frames.{Frame, frame, frame_long, no_frames, held, frames_of}
use Rattle.frames.specs.Ids.{sections, among}
use Rattle.frames.specs.declared.Items.{Items}

-- a section's items, in order of adding
abbrev pub items_of : ℕ → List Frame → List (List ℕ)
items_of i [] = []
items_of i (f ∷ fs) = cond (eqb f.id i) (f.item ∷ items_of i fs) (items_of i fs)

-- one behind the other
abbrev pub joined : List (List ℕ) → List ℕ
joined = prints (λ b. b)

-- a section's bytes, of the frames that bytes are
abbrev pub item_bytes : ℕ → List ℕ → List ℕ
item_bytes i s = joined (items_of i (frames_of s))

-- f 0, f 1 and so on, n of them
unfoldable pub table : {A : Type 0} → ℕ → (ℕ → A) → List A
table zero f = []
table (suc n) f = f 0 ∷ table n (λ i. f (suc i))

-- a section's: how many items, and how many bytes they have
abbrev pub tally_for : List Frame → ℕ → Items
tally_for fs i = record { count = length (items_of i fs); total = length (joined (items_of i fs)) }

-- one more, of n bytes
abbrev pub one_more : Items → ℕ → Items
one_more x n = record { count = x.count + 1; total = x.total + n }

-- by the id of a section, of which there are fewer than 16
abbrev pub Tallies : Type 0
Tallies = List Items

abbrev pub tallies_of : List Frame → Tallies
tallies_of fs = table 16 (tally_for fs)

abbrev pub tally_at : Tallies → ℕ → Items
tally_at t i = get_or t i (record { count = 0; total = 0 })

-- none where there are no frames
unfoldable pub tally_of : M.Option (List Frame) → Option Tallies
tally_of M.none = None
tally_of (M.some fs) = Some (tallies_of fs)

-- no items of what is no section's id
pub no_items : (i : ℕ) → among sections i ≡ false → (fs : List Frame) → All frame.Ok fs → items_of i fs ≡ []
no_items i e [] h = refl
no_items i e (f ∷ fs) h = go (eqb f.id i) refl (no_items i e fs h.1)
  where
    go : (t : Bool) → eqb f.id i ≡ t → items_of i fs ≡ [] → cond t (f.item ∷ items_of i fs) (items_of i fs) ≡ []
    go true q r = absurd (true≢false (sym h.0.0.1 ∙ ap (among sections) (eqb-true f.id i q) ∙ e))
    go false q r = r

-- items and their bytes take no more room than their frames
pub items_few : (i : ℕ) (fs : List Frame) → length (items_of i fs) + length (joined (items_of i fs)) ≤ length (prints frame.print fs)
items_few i [] = omega arith
items_few i (f ∷ fs) = go (eqb f.id i) (items_few i fs)
  where
    n : length (frame.print f ++ prints frame.print fs) ≡ length f.item + 5 + length (prints frame.print fs)
    n = length-append (frame.print f) (prints frame.print fs) ∙ ap (λ (x : ℕ). x + length (prints frame.print fs)) (frame_long f)

    go : (t : Bool) → length (items_of i fs) + length (joined (items_of i fs)) ≤ length (prints frame.print fs)
        → length (cond t (f.item ∷ items_of i fs) (items_of i fs)) + length (joined (cond t (f.item ∷ items_of i fs) (items_of i fs))) ≤ length (frame.print f ++ prints frame.print fs)
    go true h = omega (arith, n, length-append f.item (joined (items_of i fs)))
    go false h = omega (arith, n)

pub items_within : (i : ℕ) (s : List ℕ) → length (items_of i (frames_of s)) + length (item_bytes i s) ≤ length s
items_within i s = go (run frame s) refl
  where
    go : (o : M.Option (List Frame)) → run frame s ≡ o → length (items_of i (held o)) + length (joined (items_of i (held o))) ≤ length s
    go M.none e = omega arith
    go (M.some fs) e = omega (arith, items_few i fs, ap length (run_only frame s fs e).1)

-- ---- tables

pub table_at : {A : Type 0} (n : ℕ) (f : ℕ → A) (i : ℕ) (d : A) → i < n → get_or (table n f) i d ≡ f i
unfolding table
table_at zero f i d h = absurd (omega arith)
table_at (suc n) f zero d h = refl
table_at (suc n) f (suc i) d h = table_at n (λ j. f (suc j)) i d (omega arith)

pub table_same : {A : Type 0} (n : ℕ) (f g : ℕ → A) → ((i : ℕ) → f i ≡ g i) → table n f ≡ table n g
unfolding table
table_same zero f g e = refl
table_same {A} (suc n) f g e = ap₂ (λ (x : A) (l : List A). x ∷ l) (e 0) (table_same n (λ i. f (suc i)) (λ i. g (suc i)) (λ i. e (suc i)))

-- one of them changed
pub table_set : {A : Type 0} (n : ℕ) (f g : ℕ → A) (k : ℕ) (v : A) → v ≡ g k → ((i : ℕ) → (i ≡ k → ⊥) → f i ≡ g i) → set (table n f) k v ≡ table n g
unfolding table
table_set zero f g k v p e = refl
table_set {A} (suc n) f g zero v p e = ap₂ (λ (x : A) (l : List A). x ∷ l) p (table_same n (λ i. f (suc i)) (λ i. g (suc i)) (λ i. e (suc i) (λ q. omega arith)))
table_set {A} (suc n) f g (suc k) v p e =
    ap₂ (λ (x : A) (l : List A). x ∷ l) (e 0 (λ q. omega arith)) (table_set n (λ i. f (suc i)) (λ i. g (suc i)) k v p (λ i q. e (suc i) (λ r. q (omega arith))))

-- what a tally has of a section
pub tally_is : (fs : List Frame) (i : ℕ) → i < 16 → tally_at (tallies_of fs) i ≡ tally_for fs i
tally_is fs i h = table_at 16 (tally_for fs) i _ h

module _ (s : List ℕ) {t : Tallies} (e : Some t ≡ tally_of (run frame s)) where
  -- there are frames
  pub framed : no_frames (run frame s) ≡ false
  unfolding tally_of
  framed = go (run frame s) e
    where
      go : (o : M.Option (List Frame)) → Some t ≡ tally_of o → no_frames o ≡ false
      go M.none e = let z : ◌≡◌ {A = ℕ} 0 1 = cc in absurd (omega arith)
      go (M.some fs) e = refl

  pub tallied : t ≡ tallies_of (frames_of s)
  unfolding tally_of
  tallied = go (run frame s) e
    where
      go : (o : M.Option (List Frame)) → Some t ≡ tally_of o → t ≡ tallies_of (held o)
      go M.none e = let z : ◌≡◌ {A = ℕ} 0 1 = cc in absurd (omega arith)
      go (M.some fs) e = cc

  module _ (i : ℕ) (h : i < 16) where
    pub count_at : (tally_at t i).count ≡ length (items_of i (frames_of s))
    count_at = rw (tallied, tally_is (frames_of s) i h)

    pub total_at : (tally_at t i).total ≡ length (item_bytes i s)
    total_at = rw (tallied, tally_is (frames_of s) i h)
