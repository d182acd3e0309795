-- What is handed on to be written: after each part of the input, all that was said since the last time. One after the other, and then what waits at the end,
-- that is all that the program says, however the input is cut. Assumes nothing.
use Rattle.std.specs.Prelude.{◌≡◌, refl, Bool, true, false, cond, List, [], ◌∷◌, ◌++◌, ℕ, eqb, length}
use Rattle.std.proofs.Common.{sym, ap, ◌∙◌, append-nil, append_assoc}
use Rattle.frames.specs.Tally.{joined}
use Rattle.replies.specs.Input.{Kept, ended, more, heard, hears, closed, hears_more, fresh, says}

-- nothing of what was said waits any more
abbrev pub quiet : Kept → Kept
quiet k = record { state = k.state; store = k.store; buffer = k.buffer; line = k.line; said = [] }

-- ---- what was said before does not matter to what is said

heard_quiet : (k : Kept) (c : ℕ) → quiet (heard (quiet k) c) ≡ quiet (heard k c)
unfolding heard
heard_quiet k c = go (eqb c 0x0A)
  where
    go : (t : Bool) → quiet (cond t (ended (quiet k)) (more (quiet k) (c ∷ []))) ≡ quiet (cond t (ended k) (more k (c ∷ [])))
    go true = refl
    go false = refl

pub hears_quiet : (k : Kept) (p : List ℕ) → quiet (hears (quiet k) p) ≡ quiet (hears k p)
hears_quiet k [] = refl
hears_quiet k (c ∷ p) =
    sym (hears_quiet (heard (quiet k) c) p)
    ∙ ap (λ (m : Kept). quiet (hears m p)) (heard_quiet k c)
    ∙ hears_quiet (heard k c) p

heard_said : (k : Kept) (c : ℕ) → (heard k c).said ≡ k.said ++ (heard (quiet k) c).said
unfolding heard
heard_said k c = go (eqb c 0x0A)
  where
    go : (t : Bool) → (cond t (ended k) (more k (c ∷ []))).said ≡ k.said ++ (cond t (ended (quiet k)) (more (quiet k) (c ∷ []))).said
    go true = refl
    go false = sym (append-nil k.said)

-- it stands in front
pub hears_said : (k : Kept) (p : List ℕ) → (hears k p).said ≡ k.said ++ (hears (quiet k) p).said
hears_said k [] = sym (append-nil k.said)
hears_said k (c ∷ p) =
    let a = heard k c in
    let b = heard (quiet k) c in
    hears_said a p
    ∙ ap (λ (l : List ℕ). l ++ (hears (quiet a) p).said) (heard_said k c)
    ∙ append_assoc k.said b.said (hears (quiet a) p).said
    ∙ ap (λ (m : Kept). k.said ++ (b.said ++ (hears m p).said)) (sym (heard_quiet k c))
    ∙ ap (λ (l : List ℕ). k.said ++ l) (sym (hears_said b p))

closed_said : (k : Kept) → (closed k).said ≡ k.said ++ (closed (quiet k)).said
unfolding closed
closed_said k = go (eqb (length k.line) 0)
  where
    go : (t : Bool) → (cond t k (ended k)).said ≡ k.said ++ (cond t (quiet k) (ended (quiet k))).said
    go true = sym (append-nil k.said)
    go false = refl

-- ---- all that is handed on

-- after each part
abbrev pub handed_on : Kept → List (List ℕ) → List ℕ
handed_on k [] = []
handed_on k (p ∷ ps) = (hears k p).said ++ handed_on (quiet (hears k p)) ps

-- what is kept behind them
abbrev pub behind_all : Kept → List (List ℕ) → Kept
behind_all k [] = k
behind_all k (p ∷ ps) = behind_all (quiet (hears k p)) ps

handed_all : (k : Kept) (ps : List (List ℕ)) → handed_on k ps ++ (closed (behind_all k ps)).said ≡ (closed (hears k (joined ps))).said
handed_all k [] = refl
handed_all k (p ∷ ps) =
    let a = hears k p in
    let rest = handed_on (quiet a) ps in
    append_assoc a.said rest (closed (behind_all (quiet a) ps)).said
    ∙ ap (λ (l : List ℕ). a.said ++ l) (handed_all (quiet a) ps)
    ∙ sym (whole a (joined ps))
    ∙ ap (λ (m : Kept). (closed m).said) (sym (hears_more k p (joined ps)))
  where
    -- all that is said behind it
    whole : (a : Kept) (q : List ℕ) → (closed (hears a q)).said ≡ a.said ++ (closed (hears (quiet a) q)).said
    whole a q =
        closed_said (hears a q)
        ∙ ap (λ (l : List ℕ). l ++ (closed (quiet (hears a q))).said) (hears_said a q)
        ∙ append_assoc a.said (hears (quiet a) q).said (closed (quiet (hears a q))).said
        ∙ ap (λ (m : Kept). a.said ++ ((hears (quiet a) q).said ++ (closed m).said)) (sym (hears_quiet a q))
        ∙ ap (λ (l : List ℕ). a.said ++ l) (sym (closed_said (hears (quiet a) q)))

-- for the parts of an input
pub all_handed : (store buffer : List ℕ) (ps : List (List ℕ)) → handed_on (fresh store buffer) ps ++ (closed (behind_all (fresh store buffer) ps)).said ≡ says store buffer (joined ps)
all_handed store buffer ps = handed_all (fresh store buffer) ps
