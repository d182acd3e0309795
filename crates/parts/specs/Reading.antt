-- Reading a part that begins at a place: its bytes are read, and the words of its record are appended, spans pointing into the bytes. How such walks are put
-- together; those over lists are in ListWalks. Assumes nothing.
use Rattle.std.specs.Prelude.{◌≡◌, refl, List, ◌∷◌, ◌++◌, ℕ, ◌+◌, ◌≤◌, length, get_or, drop}
use Rattle.std.proofs.Common.{sym, ap, subst, ◌∙◌, arith, length-drop, eq-eqb}
use Rattle.format.specs.Parsed.{Parsed, fail, got, got_rest, map_same}
use Rattle.format.specs.Format.{Format}
use Rattle.format.specs.Agree.{Agree}
use Rattle.format.specs.Count.{Appends, silent}
use Rattle.format.specs.Read.{drop_more, place_of, place_at, read_on, ends_at}
use Rattle.format.specs.Sequence.{dep_known}
use Rattle.format.specs.Walk.{Walked, Walks, nothing_there, not_found, gone, walks_as}
use Rattle.format.specs.declared.Done.{Done}
use Rattle.format.specs.Walk.{Walk}
use Rattle.std.specs.Prelude.{Option, None, Some}
use Rattle.texts.specs.Section.{Section, textless}
use Rattle.texts.specs.Text.{Kind}
use Rattle.texts.specs.Place.{text_at}
use Rattle.texts.specs.Spans.{span}
use Rattle.texts.specs.declared.Span.{Span}
use Rattle.std.specs.Prelude.{Option}
use Rattle.parts.specs.Text.{Holding, text}
use Rattle.parts.specs.Both.{both, behind}

module _ {A B : Type 0} (S : Section A B) where
  -- the words of a part that begins at n
  abbrev pub record_at : ℕ → B → List ℕ
  record_at n x = S.words.print (S.locate n x)

  pub record Reading (b : List ℕ) (at : ℕ) (old : List ℕ) (s : Done) (new : List ℕ) (r : Walk) : Type 0 where
    pub reads : at ≤ length b → Walks S.bytes (record_at at) silent b at old s new r

-- a text that was found: its span is appended
abbrev pub FoundReads : Option Span → List ℕ → Done → List ℕ → Walk → Type 0
FoundReads None old s new r = r ≡ None
FoundReads (Some v) old s new r = (u : Done) × (r ≡ Some (v.start + v.len, u)) × Appends (span.print v) old s new u

-- F: its bytes; place: its span, where they begin; it ends where they do
pub found_reads : (k : Kind) (F : Format (List ℕ)) (place : ℕ → List ℕ → Span) (H : Holding k F place)
    → ((n : ℕ) (b : List ℕ) → (place n b).start + (place n b).len ≡ n + length (F.print b)) → (b : List ℕ) (at : ℕ) (old : List ℕ) (s : Done) (new : List ℕ) (r : Walk)
    → FoundReads (text_at (place at) (F.parse (drop at b))) old s new r → Reading (text k F place H) b at old s new r
found_reads k F place H end b at old s new r x = record { reads = λ h. record { walked = go h (F.parse (drop at b)) refl x } }
  where
    go : at ≤ length b → (m : Parsed (List ℕ)) → F.parse (drop at b) ≡ m → FoundReads (text_at (place at) m) old s new r → Walked (λ y. span.print (place at y)) silent b m old s new r
    go h fail p y = y
    go h (got v q) p y =
        let on = read_on F b at v q h p in
        let e : q ≡ drop (at + length (F.print v)) b = got_rest (sym p ∙ on.0) in
        let l : place_of b q ≡ (place at v).start + (place at v).len = ap (place_of b) e ∙ place_at b (at + length (F.print v)) on.1 ∙ sym (end at v) in
        (y.0, y.1 ∙ ap (λ (n : ℕ). Some (n, y.0)) (sym l), y.2)

-- what a text's finder told, and what was appended of it
pub text_reads : (k : Kind) (F : Format (List ℕ)) (place : ℕ → List ℕ → Span) (H : Holding k F place)
    → ((n : ℕ) (b : List ℕ) → (place n b).start + (place n b).len ≡ n + length (F.print b)) → {found : Option Span} {b : List ℕ} {at : ℕ} {old : List ℕ} {s : Done} {new : List ℕ} {r : Walk}
    → found ≡ text_at (place at) (F.parse (drop at b)) → FoundReads found old s new r → Reading (text k F place H) b at old s new r
text_reads k F place H end {b = b} {at} {old} {s} {new} {r} e x = found_reads k F place H end b at old s new r (rw e at x)

-- ---- one behind the other

module _ {A B C D : Type 0} (S : Section A B) (T : Section C D) {b : List ℕ} {at : ℕ} {old : List ℕ} {s : Done} {new : List ℕ} {r : Walk} where
  pub part_missing : Reading S b at old s new r → r ≡ None → Reading (both S T) b at old s new None
  part_missing x e =
      record { reads = λ h. nothing_there (rw (not_found (x.reads h) e)) }

  pub part_follows : {cur : List ℕ} {p : ℕ} {u : Done} {r' : Walk} → Reading S b at old s cur r → r ≡ Some (p, u) → Reading T b p cur u new r' → Reading (both S T) b at old s new r'
  part_follows {cur} {p} {u} {r'} x e y = record { reads = go }
    where
      go : at ≤ length b → Walks (both S T).bytes (record_at (both S T) at) silent b at old s new r'
      go h =
          let g = gone S.bytes (x.reads h) e in
          let v = g.value in
          let l : p ≡ at + length (S.bytes.print v) = ends_at S.bytes b at p v g.read h g.place in
          walks_as (λ z. (v, z)) (dep_known S.bytes (λ z. T.bytes) v (drop at b) (drop p b) g.read) (λ z. ap (λ (n : ℕ). record_at S at v ++ record_at T n z) l) (λ z. refl) g.adds (y.reads g.place)

-- what holds no text, and such a part in front
pub textless_reads : {A : Type 0} (W F : Format A) (same : Agree W F) {b : List ℕ} {at : ℕ} {old : List ℕ} {s : Done} {new : List ℕ} {r : Walk} → Walks F W.print silent b at old s new r
    → Reading (textless W F same) b at old s new r
textless_reads W F same x = record { reads = λ h. x }

module _ {A C D : Type 0} (W F : Format A) (same : Agree W F) (T : Section C D) {b : List ℕ} {at : ℕ} {old : List ℕ} {s : Done} {new : List ℕ} {r : Walk} where
  pub textless_missing : Walks F W.print silent b at old s new r → r ≡ None → Reading (both (textless W F same) T) b at old s new None
  textless_missing x e = part_missing (textless W F same) T (textless_reads W F same x) e

  pub follows_textless : {cur : List ℕ} {p : ℕ} {u : Done} {r' : Walk} → Walks F W.print silent b at old s cur r → r ≡ Some (p, u) → Reading T b p cur u new r'
      → Reading (both (textless W F same) T) b at old s new r'
  follows_textless x e y = part_follows (textless W F same) T (textless_reads W F same x) e y

-- T reads the bytes that S reads, and has the words pre before those of S
pub words_before : {A C B : Type 0} (S : Section A B) (T : Section C B) (pre : List ℕ) → ((s : List ℕ) → T.bytes.parse s ≡ S.bytes.parse s)
    → ((n : ℕ) (x : B) → pre ++ record_at S n x ≡ record_at T n x) → {b : List ℕ} {at : ℕ} {old : List ℕ} {s : Done} {cur : List ℕ} {u : Done} {new : List ℕ} {r : Walk}
    → Appends pre old s cur u → Reading S b at cur u new r → Reading T b at old s new r
words_before S T pre e w {b} {at} a x = record { reads = λ h. walks_as (λ y. y) (rw (e (drop at b)) (map_same (S.bytes.parse (drop at b)))) (w at) (λ y. refl) a (x.reads h) }

-- behind a byte that was read
pub behind_reads : {A B : Type 0} (k : ℕ) (S : Section A B) (b : List ℕ) (at : ℕ) (old : List ℕ) (s : Done) (new : List ℕ) (r : Walk) → drop at b ≡ k ∷ drop (at + 1) b
    → Reading S b (at + 1) old s new r → Reading (behind k S) b at old s new r
behind_reads {A} {B} k S b at old s new r e x =
    record {
      reads = λ h. record {
        walked = subst (λ (m : Parsed B). Walked (record_at S (at + 1)) silent b m old s new r) (sym p) (x.reads (omega (arith, ap length e, length-drop at b))).walked;
      };
    }
  where
    p : (behind k S).bytes.parse (drop at b) ≡ S.bytes.parse (drop (at + 1) b)
    p = rw (e, eq-eqb k k refl)

-- behind two bytes
pub two_reads : {A B : Type 0} (j k : ℕ) (S : Section A B) (b : List ℕ) (at : ℕ) (old : List ℕ) (s : Done) (new : List ℕ) (r : Walk) → at + 2 ≤ length b → get_or b at 0 ≡ j
    → get_or b (at + 1) 0 ≡ k → Reading S b (at + 2) old s new r → Reading (behind j (behind k S)) b at old s new r
two_reads j k S b at old s new r h e f x =
    let i : at + 2 ≡ at + 1 + 1 = omega arith in
    behind_reads j (behind k S) b at old s new r (drop_more b at (omega arith) ∙ ap (λ (n : ℕ). n ∷ drop (at + 1) b) e)
    (behind_reads k S b (at + 1) old s new r (drop_more b (at + 1) (omega arith) ∙ ap (λ (n : ℕ). n ∷ drop (at + 1 + 1) b) f)
    (subst (λ (n : ℕ). Reading S b n old s new r) i x))
