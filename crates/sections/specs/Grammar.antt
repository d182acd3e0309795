-- Sections as the standard has them (WebAssembly Core Specification 3.0, Binary Format: Conventions, Lists; Modules, Sections): relations between bytes and what
-- they say, case by case as they stand there; and that `section_of` is in them. B says which bytes are an item, by its section's id. Assumes nothing.
use Rattle.std.specs.Prelude.{◌≡◌, refl, Bool, true, false, cond, List, [], ◌∷◌, ◌++◌, ℕ, suc, ◌<◌, ◌^◌, eqb, length}
use Rattle.std.proofs.Common.{sym, true≢false, eqb-true}
use Rattle.format.specs.Lists.{All}
use Rattle.leb128.specs.Integers.{U}
use Rattle.leb128.specs.Leb.{uleb}
use Rattle.leb128.proofs.Standard.{u_written}
use Rattle.frames.specs.Frames.{Frame}
use Rattle.frames.specs.Ids.{sections, among}
use Rattle.frames.specs.Tally.{items_of, joined}
use Rattle.sections.specs.Section.{section, vector, contents_of, section_of, data_count}
use Rattle.sections.specs.Order.{order_ids}
use Rattle.sections.specs.declared.Given.{Given}

-- (x:X)^n: n of them, one behind the other
pub data Times {A : Type 0} (X : List ℕ → A → Type 0) : ℕ → List ℕ → List A → Type 0 where
  no_more : Times X 0 [] []
  one_more : {n : ℕ} {s r : List ℕ} {x : A} {xs : List A} → X s x → Times X n r xs → Times X (suc n) (s ++ r) (x ∷ xs)

-- list(X) ::= n:u32 (x:X)^n ⇒ x^n
pub data ListOf {A : Type 0} (X : List ℕ → A → Type 0) : List ℕ → List A → Type 0 where
  list_of : {n : ℕ} {s r : List ℕ} {xs : List A} → U 32 s n → Times X n r xs → ListOf X (s ++ r) xs

-- section_N(X) ::= N:byte len:u32 x:X ⇒ x   (if len = ||X||)
pub data SectionN (N : ℕ) {A : Type 0} (X : List ℕ → A → Type 0) : List ℕ → A → Type 0 where
  section_n : {len : ℕ} {s r : List ℕ} {x : A} → U 32 s len → X r x → len ≡ length r → SectionN N X (N ∷ (s ++ r)) x

-- an item is taken as its bytes
pub data AsBytes (B : List ℕ → Type 0) : List ℕ → List ℕ → Type 0 where
  as_bytes : {s : List ℕ} → B s → AsBytes B s s

-- what a section says: its id and its items, or the data count
pub data Said : Type 0 where
  items : ℕ → List (List ℕ) → Said
  count : ℕ → Said

-- typesec, importsec, tablesec, elemsec and datasec ::= section_N(list(X)), by their ids; datacntsec ::= section_12(n:u32)
pub data AnySection (B : ℕ → List ℕ → Type 0) : List ℕ → Said → Type 0 where
  item_section : {s : List ℕ} {xs : List (List ℕ)} (i : ℕ) → among sections i ≡ true → SectionN i (ListOf (AsBytes (B i))) s xs → AnySection B s (items i xs)
  count_section : {s : List ℕ} {n : ℕ} → SectionN data_count (U 32) s n → AnySection B s (count n)

-- ---- what finishing writes for an id is one

abbrev pub said_in : Given → List Frame → ℕ → Said
said_in given fs i = cond (eqb i data_count) (count given.count) (items i (items_of i fs))

each : {B : List ℕ → Type 0} (xs : List (List ℕ)) → All B xs → Times (AsBytes B) (length xs) (joined xs) xs
each [] h = no_more
each (x ∷ xs) h = one_more (as_bytes h.0) (each xs h.1)

among_first : (xs : List ℕ) (k i : ℕ) → among (xs ++ (k ∷ [])) i ≡ true → eqb i k ≡ false → among xs i ≡ true
among_first [] k i e n = absurd (true≢false (sym (rw n at e)))
among_first (x ∷ xs) k i e n = go (eqb i x) e (λ d. among_first xs k i d n)
  where
    go : (t : Bool) → cond t true (among (xs ++ (k ∷ [])) i) ≡ true → (among (xs ++ (k ∷ [])) i ≡ true → among xs i ≡ true) → cond t true (among xs i) ≡ true
    go true e f = refl
    go false e f = f e

module _ (B : ℕ → List ℕ → Type 0) where
  -- every frame's item is one of its section
  abbrev pub Items : List Frame → Type 0
  Items fs = All (λ f. B f.id f.item) fs

  items_all : (i : ℕ) (fs : List Frame) → Items fs → All (B i) (items_of i fs)
  items_all i [] h = tt
  items_all i (f ∷ fs) h = go (eqb f.id i) refl (items_all i fs h.1)
    where
      go : (t : Bool) → eqb f.id i ≡ t → All (B i) (items_of i fs) → All (B i) (cond t (f.item ∷ items_of i fs) (items_of i fs))
      go true e a = (rw (← (eqb-true f.id i e)) h.0, a)
      go false e a = a

  module _ (given : Given) (fs : List Frame) (i : ℕ) where
    pub section_in_lem : among order_ids i ≡ true → Items fs → given.count < 2 ^ 32 → length (items_of i fs) < 2 ^ 32 → length (contents_of given fs i) < 2 ^ 32
        → AnySection B (section_of given fs i) (said_in given fs i)
    section_in_lem k h c n l = go (eqb i data_count) refl l
      where
        go : (t : Bool) → eqb i data_count ≡ t → length (cond t (uleb given.count) (vector (items_of i fs))) < 2 ^ 32
            → AnySection B (section i (cond t (uleb given.count) (vector (items_of i fs)))) (cond t (count given.count) (items i (items_of i fs)))
        go true e l =
            rw (eqb-true i data_count e) (count_section (section_n (u_written 32 (length (uleb given.count)) l) (u_written 32 given.count c) refl))
        go false e l =
            let list = list_of (u_written 32 (length (items_of i fs)) n) (each (items_of i fs) (items_all i fs h)) in
            item_section i (among_first sections data_count i k e) (section_n (u_written 32 (length (vector (items_of i fs))) l) list refl)
