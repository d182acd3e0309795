-- The elements of a segment in words: the kind, and functions, or a type and expressions. Assumes nothing.
use mathlib.Core.Path.{◌≡◌, refl, sym, ap, subst, ◌∙◌}
use mathlib.Core.Bool.{Bool, true, false, cond}
use mathlib.Core.List.{List, [], ◌∷◌}
use Prim.Native.Nat.{ℕ, ◌+◌, ◌<◌, ◌≤◌, min}
use native.Mathlib.Omega.{arith}
use Rattle.std.specs.Prelude.{slice_range}
use lib.Dec.{eqb}
use lib.ListN.{length, get_or, drop}
use Rattle.format.specs.Parsed.{Parsed, fail, bind, map, map_same}
use Rattle.format.specs.Basic.{bit, flag, tag, lit}
use Rattle.format.specs.Format.{Format}
use Rattle.format.specs.Count.{Appends, no_refusal, silent, adds_nil, adds_seq}
use Rattle.format.specs.Lists.{many}
use Rattle.format.specs.Read.{one_read}
use Rattle.format.specs.Sequence.{Joins, leaves, pair_plain, dep_known, first_missing, second_follows}
use Rattle.format.specs.Walk.{Walks, walks_as}
use Rattle.format.specs.declared.Done.{Done}
use Rattle.format.specs.Walk.{Walk}
use Rattle.std.specs.Prelude.{None, Some}
use Rattle.leb128.proofs.Formats.{u32}
use Rattle.words.specs.WordWalks.{AreWords}
use Rattle.words.specs.Words.{word}
use Rattle.texts.specs.Spans.{span}
use Rattle.texts.specs.declared.Span.{Span}
use Rattle.types.specs.Words.{ref_words, ref_of}
use Rattle.types.specs.Bytes.{ref_bytes}
use Rattle.words.specs.Words.{unused}
use Rattle.types.specs.Answers.{ref_ans}
use Rattle.std.specs.Prelude.{Option, Some}
use Rattle.types.specs.declared.RefType.{RefType}
use Rattle.refs.proofs.Words.{ref_words_missing, ref_words_there}
use Rattle.parts.proofs.Rest.{at_rest}
use Rattle.parts.specs.Text.{expression}
use Rattle.parts.specs.Listed.{texts_of, listed}
use Rattle.parts.specs.Writing.{Writing, item_of, low_of, lowest_behind}
use Rattle.elements.specs.Segment.{ElementsOf, elements_words_of, elements_words}
use Rattle.elements.specs.Written.{head_of, type_of, functions_of, expressions_of, expressions_low, elements_from, elements_of, low_from, elements_low}
use Rattle.modes.specs.declared.Mode.{Mode}

-- ---- the flag

module _ {other : Bool} (m : Mode) (e : Bool) {old : List ℕ} {s : Done} {new : List ℕ} {u : Done} where
  pub other_added : other ≡ true → {cur : List ℕ} {t : Done} → Appends (6 ∷ []) old s cur t → Appends (0 ∷ []) cur t new u → Appends (head_of other m e) old s new u
  other_added o a b = subst (λ (k : Bool). Appends (head_of k m e) old s new u) (sym o) (adds_seq a b)

-- ---- the type, which is written where it is said

module _ (said : Bool) {w : List ℕ} {at : ℕ} {old : List ℕ} {s : Done} where
  pub type_said : said ≡ true → {new : List ℕ} {r : Walk} → Walks ref_words ref_bytes.print silent w at old s new r → Walks ref_words (type_of said) silent w at old s new r
  type_said t {new} {r} x = subst (λ (k : Bool). Walks ref_words (type_of k) silent w at old s new r) (sym t) x

-- v is the words from the place on, and found is what `from_words` told of the first two
module _ (w : List ℕ) (at : ℕ) {v : List ℕ} (from : v ≡ slice_range w at (length w)) {found : Option RefType} (d : found ≡ ref_ans (ref_of (get_or v 0 0, get_or v 1 0))) where
  found_there : found ≡ ref_ans (ref_of (get_or w at 0, get_or w (at + 1) 0))
  found_there =
      let a : get_or v 0 0 ≡ get_or w at 0 = at_rest w at from 0 ∙ ap (λ (j : ℕ). get_or w j 0) (omega arith) in
      rw (sym a, sym (at_rest w at from 1)) d

module _ {said : Bool} (t : said ≡ false) {w : List ℕ} {at : ℕ} {old : List ℕ} {s : Done} (i : AreWords w) {v : List ℕ} (from : v ≡ slice_range w at (length w)) (long : length v + at ≡ length w)
    (k : 2 ≤ length v) {found : Option RefType} (d : found ≡ ref_ans (ref_of (get_or v 0 0, get_or v 1 0))) where
  pub no_type_there : found ≡ None → Walks ref_words (type_of said) silent w at old s old None
  no_type_there e = ref_words_missing (omega (arith, long)) (omega (arith, long)) (found_there w at from d) e i

  pub type_unsaid : {x : RefType} → found ≡ Some x → Walks ref_words (type_of said) silent w at old s old (Some (at + 2, s))
  type_unsaid e =
      subst (λ (j : Bool). Walks ref_words (type_of j) silent w at old s old (Some (at + 2, s))) (sym t)
      (ref_words_there (omega (arith, long)) (omega (arith, long)) (found_there w at from d) e (adds_nil old s) i)

-- ---- a type, and expressions

module _ (said : Bool) (t : List ℕ) where
  expressions_joins : Joins ref_words.parse (type_of said) silent (many word span).parse (item_of (listed expression) t) (low_of (listed expression) t)
      (elements_words_of true).parse (expressions_of said t) (expressions_low t)
  expressions_joins =
      record {
        ends = leaves ref_words;
        join = λ r xs. (r, xs);
        reads = pair_plain ref_words (many word span);
        writes = λ r xs. refl;
        draws = λ r xs. lowest_behind t (texts_of expression xs);
      }

  module _ {w : List ℕ} {at : ℕ} {old : List ℕ} {s : Done} {new : List ℕ} {r : Walk} where
    pub type_then_list : {cur : List ℕ} {p : ℕ} {u : Done} {r' : Walk} → Walks ref_words (type_of said) silent w at old s cur r → r ≡ Some (p, u)
        → Writing (listed expression) t w p cur u new r' → Walks (elements_words_of true) (expressions_of said t) (expressions_low t) w at old s new r'
    type_then_list x e y = second_follows expressions_joins x e y.writes

-- ---- two unused words, and functions

module _ {A : Type 0} (F : Format A) (f : A → List ℕ) where
  abbrev then : Unit {0} → List ℕ → Parsed A
  then u r = map (λ x. x) (F.parse r)

  pass : (b : Bool) (m : Parsed A) (n : Parsed (Unit {0})) → m ≡ bind n then → cond b m fail ≡ bind (cond b n fail) then
  pass true m n e = e
  pass false m n e = refl

  second : (s : List ℕ) → (tag 0 F).parse s ≡ bind ((lit 0).parse s) then
  second [] = refl
  second (y ∷ s) = pass (eqb y 0) _ _ (map_same (F.parse s))

  both : (s : List ℕ) → (tag 0 (tag 0 F)).parse s ≡ bind (unused.parse s) then
  both [] = refl
  both (x ∷ s) = pass (eqb x 0) _ _ (second s)

  pub unused_joins : Joins unused.parse (λ u. []) silent F.parse f silent (tag 0 (tag 0 F)).parse f silent
  unused_joins = record { ends = leaves unused; join = λ u x. x; reads = both; writes = λ u x. refl; draws = λ u x. refl }

module _ (said : Bool) {w : List ℕ} {at : ℕ} {old : List ℕ} {s : Done} {r : Walk} (x : (o : List ℕ) → Walks unused (λ u. []) silent w at o s o r) where
  pub unused_missing : r ≡ None → Walks (elements_words_of false) (functions_of said) silent w at old s old None
  unused_missing e = first_missing (unused_joins (many word word) (functions_of said)) (x old) e

  module _ {p : ℕ} {u : Done} (e : r ≡ Some (p, u)) {new : List ℕ} {r' : Walk} where
    then_functions : (k : Bool) → said ≡ k → Walks (many word word) (functions_of k) silent w p old u new r' → Walks (elements_words_of false) (functions_of said) silent w at old s new r'
    then_functions k t y =
        subst (λ (j : Bool). Walks (elements_words_of false) (functions_of j) silent w at old s new r') (sym t) (second_follows (unused_joins (many word word) (functions_of k)) (x old) e y)

    pub then_said_functions : said ≡ true → {cur : List ℕ} {v : Done} → Appends (0x00 ∷ []) old u cur v → Walks (many word word) (many u32 u32).print silent w p cur v new r'
        → Walks (elements_words_of false) (functions_of said) silent w at old s new r'
    then_said_functions t a y = then_functions true t (walks_as (λ x. x) (map_same ((many word word).parse (drop p w))) (λ x. refl) (λ x. refl) a y)

    pub then_bare_functions : said ≡ false → Walks (many word word) (many u32 u32).print silent w p old u new r' → Walks (elements_words_of false) (functions_of said) silent w at old s new r'
    then_bare_functions t y = then_functions false t y

-- ---- behind their kind

low_none : (t : List ℕ) (e : Bool) (q : ElementsOf e Span) → min no_refusal (low_from t e q) ≡ low_from t e q
low_none t false q = refl
low_none t true q = lowest_behind t (texts_of expression q.1)

module _ (said : Bool) (t : List ℕ) {w : List ℕ} {at : ℕ} {old : List ℕ} {s : Done} {new : List ℕ} (h : at < length w) where
  module _ {r : Walk} where
    kind_known : (e : Bool) → get_or w at 0 ≡ bit e → Walks (elements_words_of e) (elements_from said t e) (low_from t e) w (at + 1) old s new r
        → Walks elements_words (elements_of said t) (elements_low t) w at old s new r
    kind_known e k x =
        walks_as (λ q. (e, q)) (dep_known flag elements_words_of e (drop at w) (drop (at + 1) w) (one_read flag e (bit e) tt refl w at h k)) (λ q. refl) (low_none t e) (adds_nil old s) x

    module _ {x : ℕ} (y : get_or w at 0 ≡ x) where
      pub functions_kind : x ≡ 0 → Walks (elements_words_of false) (functions_of said) silent w (at + 1) old s new r
          → Walks elements_words (elements_of said t) (elements_low t) w at old s new r
      functions_kind k z = kind_known false (y ∙ k) z

      pub expressions_kind : x ≡ 1 → Walks (elements_words_of true) (expressions_of said t) (expressions_low t) w (at + 1) old s new r
          → Walks elements_words (elements_of said t) (elements_low t) w at old s new r
      expressions_kind k z = kind_known true (y ∙ k) z
