-- The sections that hold items, and their ids: one list of them, of which all that is said of every section is worked out. A further section is one more entry of
-- `id_of`, `ids`, `every` and `id_full`. Assumes nothing.
use Rattle.std.specs.Prelude.{◌≡◌, refl, ◌⊎◌, Bool, true, false, cond, List, [], ◌∷◌, map, ℕ, ◌<◌, eqb, ltb}
use Rattle.std.proofs.Common.{sym, ap, subst, ◌∙◌, inl, inr, true≢false, eqb-true, ltb-true}
use Rattle.std.proofs.Math.Option.{some}
use Rattle.format.specs.Basic.{find}
use Rattle.format.specs.Lists.{All}
use Rattle.frames.specs.declared.SectionId.{SectionId}
use Rattle.frames.specs.declared.SectionId.TheVariants.{Types, Imports, Tables, Elements, Data}

-- Core Specification 3.0, Binary Format, Modules, Sections
abbrev pub id_of : SectionId → ℕ
id_of Types = 1
id_of Imports = 2
id_of Tables = 4
id_of Elements = 9
id_of Data = 11

abbrev pub ids : List SectionId
ids = Types ∷ Imports ∷ Tables ∷ Elements ∷ Data ∷ []

-- all sections are in the list
pub every : (P : SectionId → Type 0) → All P ids → (s : SectionId) → P s
every P (a, (b, (c, (d, (e, u))))) = elim [ Types ↦ a | Imports ↦ b | Tables ↦ c | Elements ↦ d | Data ↦ e ]

abbrev pub sections : List ℕ
sections = map id_of ids

-- ---- by the list

-- what can be worked out of each is so of every section
abbrev pub all_are : (SectionId → Bool) → List SectionId → Bool
all_are p [] = true
all_are p (s ∷ xs) = cond (p s) (all_are p xs) false

all_are_lem : (p : SectionId → Bool) (xs : List SectionId) → all_are p xs ≡ true → All (λ s. p s ≡ true) xs
all_are_lem p [] e = tt
all_are_lem p (s ∷ xs) e = go (p s) refl e (all_are_lem p xs)
  where
    go : (t : Bool) → p s ≡ t → cond t (all_are p xs) false ≡ true → (all_are p xs ≡ true → All (λ s. p s ≡ true) xs) → (p s ≡ true) × All (λ s. p s ≡ true) xs
    go true q e f = (q, f e)
    go false q e f = absurd (true≢false (sym e))

pub worked_out : (p : SectionId → Bool) → all_are p ids ≡ true → (s : SectionId) → p s ≡ true
worked_out p e = every (λ s. p s ≡ true) (all_are_lem p ids e)

abbrev pub among : List ℕ → ℕ → Bool
among [] i = false
among (x ∷ xs) i = cond (eqb i x) true (among xs i)

-- what holds of each of them holds of what is among them
pub among_each : (P : ℕ → Type 0) (xs : List ℕ) (i : ℕ) → All P xs → among xs i ≡ true → P i
among_each P [] i h e = absurd (true≢false (sym e))
among_each P (x ∷ xs) i h e = go (eqb i x) refl e (among_each P xs i h.1)
  where
    go : (t : Bool) → eqb i x ≡ t → cond t true (among xs i) ≡ true → (among xs i ≡ true → P i) → P i
    go true q e f = subst P (sym (eqb-true i x q)) h.0
    go false q e f = f e

pub id_among : (s : SectionId) → among sections (id_of s) ≡ true
id_among = worked_out (λ s. among sections (id_of s)) refl

-- an id is a byte
pub id_small : (s : SectionId) → id_of s < 256
id_small s = ltb-true (id_of s) 256 (worked_out (λ s. ltb (id_of s) 256) refl s)

-- the section of an id is found by it
pub id_full : (s : SectionId) → find id_of ids (id_of s) ≡ some s
id_full = every (λ s. find id_of ids (id_of s) ≡ some s) (refl, (refl, (refl, (refl, (refl, tt)))))

-- a number is a section's id, or no section's
pub by_id : (i : ℕ) → ((s : SectionId) × (i ≡ id_of s)) ⊎ ((s : SectionId) → id_of s ≡ i → ⊥)
by_id i = go (among sections i) refl
  where
    of_each : (xs : List SectionId) → All (λ i. (s : SectionId) × (i ≡ id_of s)) (map id_of xs)
    of_each [] = tt
    of_each (s ∷ xs) = ((s, refl), of_each xs)

    go : (t : Bool) → among sections i ≡ t → ((s : SectionId) × (i ≡ id_of s)) ⊎ ((s : SectionId) → id_of s ≡ i → ⊥)
    go true e = inl (among_each (λ i. (s : SectionId) × (i ≡ id_of s)) sections i (of_each ids) e)
    go false e = inr (λ s z. true≢false (sym (id_among s) ∙ ap (among sections) z ∙ e))
