-- Answers by number (document 01): each number has its condition, and where several hold, the first in the order of judging is given. Assumes nothing.
use Rattle.std.specs.Prelude.{◌≡◌, refl, ◌↔◌, Bool, true, false, cond, ◌||◌, List, [], ◌∷◌, ◌++◌, ℕ, eqb}
use Rattle.std.proofs.Common.{sym, ap, ◌∙◌, true≢false, eq-eqb, ne_eqb, eqb-true}
use Rattle.std.proofs.lemmas.Bool.{eqb-false}
use Rattle.format.specs.Lists.{All}

-- the answer by numbers and their conditions, in the order of judging: 0, accepted, where none holds
abbrev pub answer : List (ℕ × Bool) → ℕ
answer [] = 0
answer (c ∷ cs) = cond c.1 c.0 (answer cs)

-- none of the conditions holds
abbrev pub NoneHolds : List (ℕ × Bool) → Type 0
NoneHolds cs = All (λ c. c.1 ≡ false) cs

-- one of them is that of the number n
abbrev pub has : ℕ → List (ℕ × Bool) → Bool
has n [] = false
has n (c ∷ cs) = cond (eqb c.0 n) true (has n cs)

-- where no earlier condition is that of n, and no later one gives it instead of b
given : (n : ℕ) (b : Bool) (later : List (ℕ × Bool)) → (b ≡ false → answer later ≡ n → ⊥) → (earlier : List (ℕ × Bool)) → has n earlier ≡ false
    → (answer (earlier ++ ((n, b) ∷ later)) ≡ n) ↔ (NoneHolds earlier × (b ≡ true))
given n b later e earlier d = (there earlier d, back earlier)
  where
    here : (t : Bool) → b ≡ t → cond t n (answer later) ≡ n → t ≡ true
    here true p q = refl
    here false p q = absurd (e p q)

    there : (cs : List (ℕ × Bool)) → has n cs ≡ false → answer (cs ++ ((n, b) ∷ later)) ≡ n → NoneHolds cs × (b ≡ true)
    there [] h q = (tt, here b refl q)
    there (c ∷ cs) h q = go c.1 refl (eqb c.0 n) refl h q (there cs)
      where
        go : (t : Bool) → c.1 ≡ t → (u : Bool) → eqb c.0 n ≡ u → cond u true (has n cs) ≡ false → cond t c.0 (answer (cs ++ ((n, b) ∷ later))) ≡ n
            → (has n cs ≡ false → answer (cs ++ ((n, b) ∷ later)) ≡ n → NoneHolds cs × (b ≡ true)) → NoneHolds (c ∷ cs) × (b ≡ true)
        go t p true r h q f = absurd (true≢false h)
        go true p false r h q f = absurd (eqb-false c.0 n r q)
        go false p false r h q f = let k = f h q in ((p, k.0), k.1)

    back : (cs : List (ℕ × Bool)) → NoneHolds cs × (b ≡ true) → answer (cs ++ ((n, b) ∷ later)) ≡ n
    back [] (h, q) = rw q
    back (c ∷ cs) (h, q) = rw h.0 (back cs (h.1, q))

-- a last condition that gives 0, or that does not hold, changes nothing
answer_end : (c : ℕ × Bool) → answer (c ∷ []) ≡ 0 → (cs : List (ℕ × Bool)) → answer (cs ++ (c ∷ [])) ≡ answer cs
answer_end c e [] = e
answer_end c e (d ∷ cs) = ap (λ (n : ℕ). cond d.1 d.0 n) (answer_end c e cs)

-- accepted exactly if no condition holds
pub accepted_exactly : (cs : List (ℕ × Bool)) → has 0 cs ≡ false → (answer cs ≡ 0) ↔ NoneHolds cs
accepted_exactly cs d =
    let g = given 0 true [] (λ e. absurd (true≢false e)) cs d in
    (λ e. (g.0 (answer_end (0, true) refl cs ∙ e)).0, λ h. sym (answer_end (0, true) refl cs) ∙ g.1 (h, refl))

-- a number that is none of theirs is not given
not_given : (n : ℕ) → (n ≡ 0 → ⊥) → (cs : List (ℕ × Bool)) → has n cs ≡ false → answer cs ≡ n → ⊥
not_given n z cs h q = true≢false (sym ((given n false [] (λ e r. z (sym r)) cs h).0 (answer_end (n, false) refl cs ∙ q)).1)

-- a number is given exactly if its condition holds and none that is judged earlier
pub given_exactly : (n : ℕ) (b : Bool) (earlier later : List (ℕ × Bool)) → (n ≡ 0 → ⊥) → has n earlier ≡ false → has n later ≡ false
    → (answer (earlier ++ ((n, b) ∷ later)) ≡ n) ↔ (NoneHolds earlier × (b ≡ true))
given_exactly n b earlier later z d e = given n b later (λ _. not_given n z later e) earlier d

-- conditions that are judged behind others decide where none of those holds
pub answer_then : (cs ds : List (ℕ × Bool)) → has 0 cs ≡ false → answer (cs ++ ds) ≡ cond (eqb (answer cs) 0) (answer ds) (answer cs)
answer_then [] ds d = refl
answer_then (c ∷ cs) ds d = go c.1 (eqb c.0 0) refl d (answer_then cs ds)
  where
    go : (t u : Bool) → eqb c.0 0 ≡ u → cond u true (has 0 cs) ≡ false → (has 0 cs ≡ false → answer (cs ++ ds) ≡ cond (eqb (answer cs) 0) (answer ds) (answer cs))
        → cond t c.0 (answer (cs ++ ds)) ≡ cond (eqb (cond t c.0 (answer cs)) 0) (answer ds) (cond t c.0 (answer cs))
    go t true e d f = absurd (true≢false d)
    go true false e d f = rw e
    go false false e d f = f d

pub neither : (a b : Bool) → (a || b) ≡ false → (a ≡ false) × (b ≡ false)
neither true b e = absurd (true≢false e)
neither false b e = (refl, e)

-- what an entry does: by its answer it refuses, or accepts
module _ {O : Type 0} (refused : ℕ → O) (accepted : O) where
  unfoldable pub settled : ℕ → O
  settled n = cond (eqb n 0) accepted (refused n)

  pub settled_accepts : (n : ℕ) → n ≡ 0 → settled n ≡ accepted
  unfolding settled
  settled_accepts n e = rw (eq-eqb n 0 e)

  pub settled_refuses : (n : ℕ) → (n ≡ 0 → ⊥) → settled n ≡ refused n
  unfolding settled
  settled_refuses n h = rw (ne_eqb n 0 h)

  -- its number is the answer, so what is so exactly if that is some number is so exactly if its own is
  module _ (number : O → ℕ) (a : number accepted ≡ 0) (r : (n : ℕ) → number (refused n) ≡ n) where
    settled_number : (n : ℕ) → number (settled n) ≡ n
    settled_number n = go (eqb n 0) refl
      where
        go : (t : Bool) → eqb n 0 ≡ t → number (settled n) ≡ n
        go true e = ap number (settled_accepts n (eqb-true n 0 e)) ∙ a ∙ sym (eqb-true n 0 e)
        go false e = ap number (settled_refuses n (eqb-false n 0 e)) ∙ r n

    pub settled_exactly : {P : Type 0} {n m : ℕ} → (n ≡ m) ↔ P → (number (settled n) ≡ m) ↔ P
    settled_exactly {P} {n} {m} h = (λ e. h.0 (sym (settled_number n) ∙ e), λ p. settled_number n ∙ h.1 p)

-- an answer that is an enum stands for an outcome; where the outcome tells the answer and the memory, any two that stand for the same are equal
pub one_stands : {R M O : Type 0} (stands : R → M → O) (answer_of : O → R) (memory_of : O → M) → ((r : R) (m : M) → answer_of (stands r m) ≡ r)
    → ((r : R) (m : M) → memory_of (stands r m) ≡ m) → {w : O} {r s : R} {m n : M} → stands r m ≡ w → stands s n ≡ w → (r ≡ s) × (m ≡ n)
one_stands stands answer_of memory_of a b {w} {r} {s} {m} {n} p q =
    let e = p ∙ sym q in
    (sym (a r m) ∙ ap answer_of e ∙ a s n, sym (b r m) ∙ ap memory_of e ∙ b s n)
