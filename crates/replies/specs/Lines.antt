-- An input as lines (document 01, Hex lines: "A last line may lack its line feed"), and what the program says as the answers to them, answer k to line k, one
-- after the other ("Each line is answered by one line"). Assumes nothing.
use Rattle.std.specs.Prelude.{◌≡◌, refl, ◌⊎◌, Bool, true, false, cond, List, [], ◌∷◌, ◌++◌, ℕ, suc, eqb, length}
use Rattle.std.proofs.Common.{sym, ap, ◌∙◌, inl, inr, ⊎_elim, append-nil, append_assoc, arith, eqb-true}
use Rattle.format.specs.Lists.{All, all_more, prints}
use Rattle.frames.specs.Builder as builder
use Rattle.frames.specs.declared.State.{State}
use Rattle.hex_text.specs.Line.{line_of}
use Rattle.lines.specs.Done.{doing}
use Rattle.lines.specs.Answer.{answer_line}
use Rattle.replies.specs.Input.{Kept, answer_of, ended, more, heard, hears, closed, heard_end, heard_other, closed_none, closed_line, fresh, says}

-- lines, each with its line feed
abbrev pub fed : List (List ℕ) → List ℕ
fed ls = prints (λ l. l ++ (0x0A ∷ [])) ls

-- ---- the lines of an input

-- what stands behind the last line feed is a line, unless nothing does
abbrev pub last_line : List ℕ → List (List ℕ)
last_line [] = []
last_line (c ∷ l) = (c ∷ l) ∷ []

-- the first of them has begun with `begun`
abbrev pub lines_from : List ℕ → List ℕ → List (List ℕ)
lines_from begun [] = last_line begun
lines_from begun (c ∷ cs) = cond (eqb c 0x0A) (begun ∷ lines_from [] cs) (lines_from (begun ++ (c ∷ [])) cs)

abbrev pub lines_of : List ℕ → List (List ℕ)
lines_of input = lines_from [] input

-- with their line feeds they are the input, or the input with the line feed that its last line lacks
abbrev pub Whole : List ℕ → List ℕ → Type 0
Whole joined input = (joined ≡ input) ⊎ (joined ≡ input ++ (0x0A ∷ []))

whole_behind : (p : List ℕ) {joined input : List ℕ} → Whole joined input → Whole (p ++ joined) (p ++ input)
whole_behind p {joined} {input} =
    ⊎_elim (λ (e : joined ≡ input). inl (ap (λ (l : List ℕ). p ++ l) e))
    (λ (e : joined ≡ input ++ (0x0A ∷ [])). inr (ap (λ (l : List ℕ). p ++ l) e ∙ sym (append_assoc p input (0x0A ∷ []))))

last_whole : (begun : List ℕ) → Whole (fed (last_line begun)) begun
last_whole [] = inl refl
last_whole (c ∷ l) = inr (append-nil ((c ∷ l) ++ (0x0A ∷ [])))

from_whole : (begun input : List ℕ) → Whole (fed (lines_from begun input)) (begun ++ input)
from_whole begun [] = rw (append-nil begun) (last_whole begun)
from_whole begun (c ∷ cs) = go (eqb c 0x0A) refl (from_whole [] cs) (from_whole (begun ++ (c ∷ [])) cs)
  where
    go : (t : Bool) → eqb c 0x0A ≡ t → Whole (fed (lines_from [] cs)) cs → Whole (fed (lines_from (begun ++ (c ∷ [])) cs)) ((begun ++ (c ∷ [])) ++ cs)
        → Whole (fed (cond t (begun ∷ lines_from [] cs) (lines_from (begun ++ (c ∷ [])) cs))) (begun ++ (c ∷ cs))
    go true e h k =
        let f : c ≡ 0x0A = eqb-true c 0x0A e in
        let i : (begun ++ (0x0A ∷ [])) ++ cs ≡ begun ++ (c ∷ cs) = append_assoc begun (0x0A ∷ []) cs ∙ ap (λ (n : ℕ). begun ++ (n ∷ cs)) (sym f) in
        rw (← i) (whole_behind (begun ++ (0x0A ∷ [])) h)
    go false e h k = rw (← (append_assoc begun (c ∷ []) cs)) k

pub lines-whole : (input : List ℕ) → Whole (fed (lines_of input)) input
lines-whole input = from_whole [] input

-- and no line has a line feed in it
abbrev pub NoFeed : List ℕ → Type 0
NoFeed l = All (λ c. eqb c 0x0A ≡ false) l

last_clean : (begun : List ℕ) → NoFeed begun → All NoFeed (last_line begun)
last_clean [] h = tt
last_clean (c ∷ l) h = (h, tt)

from_clean : (begun input : List ℕ) → NoFeed begun → All NoFeed (lines_from begun input)
from_clean begun [] h = last_clean begun h
from_clean begun (c ∷ cs) h = go (eqb c 0x0A) refl (from_clean [] cs tt) (from_clean (begun ++ (c ∷ [])) cs)
  where
    go : (t : Bool) → eqb c 0x0A ≡ t → All NoFeed (lines_from [] cs) → (NoFeed (begun ++ (c ∷ [])) → All NoFeed (lines_from (begun ++ (c ∷ [])) cs))
        → All NoFeed (cond t (begun ∷ lines_from [] cs) (lines_from (begun ++ (c ∷ [])) cs))
    go true e a b = (h, a)
    go false e a b = b (all_more (λ c. eqb c 0x0A ≡ false) begun c h e)

pub lines_clean : (input : List ℕ) → All NoFeed (lines_of input)
lines_clean input = from_clean [] input tt

-- ---- the answers to lines

-- one to each, in their order; what a line leaves is what the next one finds
abbrev pub answers_to : State → List ℕ → List ℕ → List (List ℕ) → List (List ℕ)
answers_to state store buffer [] = []
answers_to state store buffer (l ∷ ls) =
    let d = doing state store buffer (line_of l) in
    answer_line d ∷ answers_to d.state d.store d.buffer ls

pub one_each : (state : State) (store buffer : List ℕ) (ls : List (List ℕ)) → length (answers_to state store buffer ls) ≡ length ls
one_each state store buffer [] = refl
one_each state store buffer (l ∷ ls) =
    let d = doing state store buffer (line_of l) in
    ap suc (one_each d.state d.store d.buffer ls)

-- ---- what is said is the answers to the lines

abbrev to_come : Kept → List (List ℕ) → List ℕ
to_come k ls = fed (answers_to k.state k.store k.buffer ls)

last_said : (k : Kept) (l : List ℕ) → k.line ≡ l → (closed k).said ≡ k.said ++ to_come k (last_line l)
last_said k [] e = ap (λ (o : Kept). o.said) (closed_none k (ap length e)) ∙ sym (append-nil k.said)
last_said k (c ∷ l) e =
    ap (λ (o : Kept). o.said) (closed_line k (λ z. omega (arith, z, ap length e)))
    ∙ ap (λ (m : List ℕ). k.said ++ (answer_line (doing k.state k.store k.buffer (line_of m)) ++ (0x0A ∷ []))) e
    ∙ ap (λ (m : List ℕ). k.said ++ m) (sym (append-nil (answer_line (doing k.state k.store k.buffer (line_of (c ∷ l))) ++ (0x0A ∷ []))))

said_lines : (k : Kept) (input : List ℕ) → (closed (hears k input)).said ≡ k.said ++ to_come k (lines_from k.line input)
said_lines k [] = last_said k k.line refl
said_lines k (c ∷ cs) = go (eqb c 0x0A) refl (said_lines (ended k) cs) (said_lines (more k (c ∷ [])) cs)
  where
    go : (t : Bool) → eqb c 0x0A ≡ t → (closed (hears (ended k) cs)).said ≡ (ended k).said ++ to_come (ended k) (lines_from [] cs)
        → (closed (hears (more k (c ∷ [])) cs)).said ≡ k.said ++ to_come k (lines_from (k.line ++ (c ∷ [])) cs)
        → (closed (hears (heard k c) cs)).said ≡ k.said ++ to_come k (cond t (k.line ∷ lines_from [] cs) (lines_from (k.line ++ (c ∷ [])) cs))
    go true e h i =
        ap (λ (o : Kept). (closed (hears o cs)).said) (ap (heard k) (eqb-true c 0x0A e) ∙ heard_end k)
        ∙ h
        ∙ append_assoc k.said (answer_line (answer_of k) ++ (0x0A ∷ [])) (to_come (ended k) (lines_from [] cs))
    go false e h i = ap (λ (o : Kept). (closed (hears o cs)).said) (heard_other k c e) ∙ i

pub says_answers : (store buffer input : List ℕ) → says store buffer input ≡ fed (answers_to builder.fresh store buffer (lines_of input))
says_answers store buffer input = said_lines (fresh store buffer) input
