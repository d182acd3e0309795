-- What the memory shows after a part of a line, and after a line. Assumes nothing.
use mathlib.Core.Path.{◌≡◌, refl, sym, ap, subst, ◌∙◌}
use mathlib.Core.Logic.{⊎_elim}
use mathlib.Core.List.{List, [], ◌∷◌, ◌++◌, append-nil, append_assoc}
use Prim.Native.Nat.{ℕ, ◌+◌, ◌-◌, ◌≤◌, ◌<◌, min}
use native.Mathlib.Numerals.{add-one}
use native.Mathlib.Omega.{arith}
use lib.ListN.{length, take, drop, set, length-append, length-take, length-drop}
use lib.Seq.{take_all, take_at, take-nil, take-append-add, take-suc-set, length-take-le}
use borrow.Rule.Slice.PartMut.{put_mid, mid_of, same_len_mid}
use Rattle.format.specs.Write.{Writes, over, fits_or, todo, todo_end, todo_part}
use Rattle.format.specs.Write.{Written}
use Rattle.hex_text.specs.Line.{line_of}
use Rattle.lines.specs.Done.{doing}
use Rattle.lines.specs.Answer.{Outcome, answer_line, answered, answers_line}
use Rattle.replies.specs.Input.{Kept, answer_of, ended, more, kept_most, closed_none, closed_line, front_tells, front_more}
use Rattle.replies.specs.Run.{buffer_long, longest, Ready, Shows, Gathered, answer_to, Replied, Ends, Closes}
use Rattle.replies.specs.declared.Run.{Run}

-- ---- a part of a line

-- as many of a part's characters as there is room for
part_front : (line part : List ℕ) (n m : ℕ) → n ≤ length line → m ≡ min (length part) (length line - n) → take n line ++ take m part ≡ take (length line) (take n line ++ part)
part_front line part n m h e =
    let k : length line ≡ length (take n line) + (length line - n) = omega (arith, length-take-le n line h) in
    let f : take m part ≡ take (length line - n) part =
    ⊎_elim (λ (g : length part ≤ length line - n). take_all m part (omega arith) ∙ sym (take_all (length line - n) part g))
    (λ (g : length line - n < length part). let j : m ≡ length line - n = omega arith in rw j)
    (fits_or (length part) (length line - n)) in
    ap (λ (l : List ℕ). take n line ++ l) f ∙ sym (ap (λ (j : ℕ). take j (take n line ++ part)) k ∙ take-append-add (take n line) part (length line - n))

pub part_gathered : (r : Run) (part line : List ℕ) {m : ℕ} {w : Written} (zs : List ℕ) → r.n ≤ length line → m ≡ min (length part) (length line - r.n)
    → Writes (take m part) (mid_of r.n (length line - r.n) line) zs w → length zs ≡ length (mid_of r.n (length line - r.n) line)
    → Gathered r part line (put_mid r.n (length line - r.n) line zs) (record { state = r.state; n = r.n + m; at = r.at })
part_gathered r part line {m} {w} zs h e x l =
    let n = r.n in
    let j : length (take m part) ≡ m = length-take-le m part (omega arith) in
    let whole : put_mid n (length line - n) line zs ≡ (take n line ++ take m part) ++ drop (n + length (take m part)) line =
    sym (todo_end (n + length (take m part)) (put_mid n (length line - n) line zs))
    ∙ todo_part n (take m part) [] line x (omega arith)
    ∙ ap (λ (p : List ℕ). todo n p line) (append-nil (take m part))
    ∙ sym (append_assoc (take n line) (take m part) (drop (n + length (take m part)) line)) in
    record {
      state = refl;
      waiting = refl;
      gathered = omega (arith, same_len_mid n (length line - n) line zs l);
      front = ap (take (n + m)) whole
          ∙ take_at (take n line ++ take m part) (drop (n + length (take m part)) line) (n + m) (omega (arith, length-append (take n line) (take m part), length-take-le n line h))
          ∙ part_front line part n m h e;
    }

pub shows_part : (k : Kept) (r s : Run) (part line line' store buffer out : List ℕ) → length line ≡ kept_most → Shows k r line store buffer out → Gathered r part line line' s
    → Shows (more k part) s line' store buffer out
shows_part k r s part line line' store buffer out l h g =
    record {
      state = g.state ∙ h.state;
      stored = h.stored;
      built = h.built;
      front = g.front ∙ ap (λ (n : ℕ). take n (take r.n line ++ part)) l ∙ ap (λ (f : List ℕ). take kept_most (f ++ part)) h.front ∙ front_more kept_most k.line part;
      waits = ap (λ (n : ℕ). take n out) g.waiting ∙ h.waits;
    }

-- ---- a line

waits_more : (at : ℕ) (a xs : List ℕ) → at + length a < length xs → take (at + length a + 1) (set (take at xs ++ over a (drop at xs)) (at + length a) 0x0A) ≡ take at xs ++ (a ++ (0x0A ∷ []))
waits_more at a xs h =
    let n = at + length a in
    let t : length (take at xs) ≡ at = length-take-le at xs (omega arith) in
    let all = take at xs ++ over a (drop at xs) in
    let long : n < length all =
    omega (arith, length-append (take at xs) (over a (drop at xs)), length-append a (drop (length a) (drop at xs)), length-drop (length a) (drop at xs), length-drop at xs) in
    ap (λ (j : ℕ). take j (set all n 0x0A)) (add-one n)
    ∙ take-suc-set all n 0x0A long
    ∙ ap (λ (l : List ℕ). l ++ (0x0A ∷ []))
    (ap (take n) (sym (append_assoc (take at xs) a (drop (length a) (drop at xs))))
    ∙ take_at (take at xs ++ a) (drop (length a) (drop at xs)) n (omega (arith, length-append (take at xs) a)))
    ∙ append_assoc (take at xs) a (0x0A ∷ [])

module _ (k : Kept) (r s : Run) (line store buffer out store' buffer' out' : List ℕ) (h : Shows k r line store buffer out) (l : length buffer ≡ buffer_long)
    (g : r.at + longest ≤ length out) (w : Replied r (answer_to r (take r.n line) store buffer out) out s store' buffer' out') where
  did : doing r.state store buffer (line_of (take r.n line)) ≡ answer_of k
  did =
      let f : line_of (take r.n line) ≡ line_of k.line = ap line_of h.front ∙ front_tells k.line in
      λ i. doing (h.state i) (h.stored i) (h.built i) (f i)

  said : answer_to r (take r.n line) store buffer out ≡ answered (drop r.at out) (answer_of k)
  said =
      sym (answers_line r.state store buffer (drop r.at out) (take r.n line) (omega (arith, length-drop r.at out)))
      ∙ ap (answered (drop r.at out)) did

  shows_end : Shows (ended k) s line store' buffer' out'
  shows_end =
      let a = answer_line (answer_of k) in
      let n : (answer_to r (take r.n line) store buffer out).value ≡ length a = ap (λ (o : Outcome). o.value) said in
      let at : s.at ≡ r.at + length a + 1 = ap (λ (r : Run). r.at) w.run ∙ ap (λ (j : ℕ). r.at + j + 1) n in
      let ys : out' ≡ set (take r.at out ++ over a (drop r.at out)) (r.at + length a) 0x0A =
      w.answers ∙ (λ i. set (take r.at out ++ (said i).out) (r.at + (said i).value) 0x0A) in
      record {
        state = ap (λ (r : Run). r.state) w.run ∙ ap (λ (o : Outcome). o.state) said;
        stored = w.store ∙ ap (λ (o : Outcome). o.store) said;
        built = w.buffer ∙ ap (λ (o : Outcome). o.buffer) said;
        front = ap (λ (r : Run). take r.n line) w.run ∙ sym (take-nil kept_most);
        waits = (λ i. take (at i) (ys i)) ∙ waits_more r.at a out (omega (arith, w.fits, n)) ∙ ap (λ (l : List ℕ). l ++ (a ++ (0x0A ∷ []))) h.waits;
      }

-- nothing of it is gathered any more, and its answer waits
pub line_ends : {r s : Run} {line store buffer out store' buffer' out' : List ℕ} → Ready r line store buffer out → r.at + longest ≤ length out
    → Replied r (answer_to r (take r.n line) store buffer out) out s store' buffer' out' → length store' ≡ length store → length buffer' ≡ length buffer
    → length out' ≡ length out → Ends r line store buffer out s store' buffer' out'
line_ends {r} {s} {line} {store} {buffer} {out} {store'} {buffer'} {out'} p g w t b o =
    record {
      ready = record {
        gathered = omega (arith, ap (λ (r : Run). r.n) w.run);
        waiting = omega (arith, ap (λ (r : Run). r.at) w.run, w.fits);
        lined = p.lined;
        stored = t ∙ p.stored;
        buffered = b ∙ p.buffered;
        room = omega (arith, p.room);
      };
      shows = λ k h. shows_end k r s line store buffer out store' buffer' out' h p.buffered g w;
    }

-- ---- the end of the input

module _ {r : Run} {line store buffer out : List ℕ} (p : Ready r line store buffer out) where
  -- the line is empty exactly where nothing is gathered
  as_long : (k : Kept) → Shows k r line store buffer out → r.n ≡ min kept_most (length k.line)
  as_long k h = omega (arith, ap length h.front, length-take-le r.n line p.gathered, length-take kept_most k.line)

  pub nothing_closes : r.n ≡ 0 → Closes r line store buffer out r store buffer out
  nothing_closes e =
      record { ready = p; shows = λ k w. subst (λ (m : Kept). Shows m r line store buffer out) (sym (closed_none k (omega (arith, as_long k w)))) w }

  pub line_closes : {s : Run} {store' buffer' out' : List ℕ} → (r.n ≡ 0 → ⊥) → Ends r line store buffer out s store' buffer' out' → Closes r line store buffer out s store' buffer' out'
  line_closes {s} {store'} {buffer'} {out'} n e =
      record {
        ready = e.ready;
        shows = λ k w. subst (λ (m : Kept). Shows m s line store' buffer' out') (sym (closed_line k (λ z. n (omega (arith, z, as_long k w))))) (e.shows k w);
      }
