-- Writing a part: its words are read, its bytes appended, and the lowest refusal that its texts draw is kept. How such walks are put together;
-- those over lists are in ListWalks. Assumes nothing.
use Rattle.std.specs.Prelude.{◌≡◌, refl, List, [], ◌∷◌, ◌++◌, ℕ, ◌+◌, min, drop}
use Rattle.std.proofs.Common.{sym, ◌∙◌, append-nil, arith}
use Rattle.format.specs.Parsed.{map_same}
use Rattle.format.specs.Format.{Format}
use Rattle.format.specs.Agree.{Agree}
use Rattle.format.specs.Count.{Adds, Appends, no_refusal, silent, adds_nil, adds_seq, adds_eq, min_assoc}
use Rattle.format.specs.Sequence.{Joins, leaves, pair_plain, first_missing, second_follows}
use Rattle.format.specs.Walk.{Walks, value_there, walks_as}
use Rattle.format.specs.declared.Done.{Done}
use Rattle.format.specs.Walk.{Walk}
use Rattle.std.specs.Prelude.{Option, None, Some}
use Rattle.texts.specs.Text.{Kind, slice_of, refusal_of, lowest_of, lowest_small}
use Rattle.texts.specs.Section.{Section, textless}
use Rattle.texts.specs.Spans.{span}
use Rattle.texts.specs.declared.Span.{Span}
use Rattle.std.specs.Prelude.{Option}
use Rattle.parts.specs.Text.{Holding, text, span_of, span_not, span_is}
use Rattle.parts.specs.Both.{both, behind}

-- what is written with the text t, and the lowest refusal that is drawn
module _ {A B : Type 0} (S : Section A B) (t : List ℕ) where
  abbrev pub item_of : A → List ℕ
  item_of a = S.bytes.print (S.resolve t a)

  abbrev pub low_of : A → ℕ
  low_of a = lowest_of t (S.texts a)

  pub record Writing (w : List ℕ) (at : ℕ) (old : List ℕ) (s : Done) (new : List ℕ) (r : Walk) : Type 0 where
    pub writes : Walks S.words item_of low_of w at old s new r

-- a text: by its span in the words
module _ (k : Kind) (F : Format (List ℕ)) (place : ℕ → List ℕ → Span) (H : Holding k F place) (t w : List ℕ) (at : ℕ) (old : List ℕ) (s : Done) (new : List ℕ) where
  pub text_no : span_of (span.parse (drop at w)) ≡ None → Writing (text k F place H) t w at old s new None
  text_no e = record { writes = record { walked = rw (span_not w at e) refl } }

  pub text_got : (v : Span) (u : Done) → span_of (span.parse (drop at w)) ≡ Some v → Adds (F.print (slice_of t v)) (refusal_of t k v) old s new u
      → Writing (text k F place H) t w at old s new (Some (at + 2, u))
  text_got v u e a =
      let (p, h) = span_is w at v e in
      record { writes = value_there {a = v} (adds_eq (append-nil (F.print (slice_of t v))) refl (adds_seq a (adds_nil new u))) p h }

-- what a span's finder told, and what was appended of it
module _ (k : Kind) (F : Format (List ℕ)) (place : ℕ → List ℕ → Span) (H : Holding k F place) {found : Option Span} {t w : List ℕ} {at : ℕ} {old : List ℕ} {s : Done} {new : List ℕ} where
  pub span_missing : found ≡ span_of (span.parse (drop at w)) → found ≡ None → Writing (text k F place H) t w at old s new None
  span_missing d e = text_no k F place H t w at old s new (sym d ∙ e)

  pub text_writes : {v : Span} {u : Done} → found ≡ Some v → found ≡ span_of (span.parse (drop at w)) → Adds (F.print (slice_of t v)) (refusal_of t k v) old s new u
      → Writing (text k F place H) t w at old s new (Some (at + 2, u))
  text_writes {v} {u} e d a = text_got k F place H t w at old s new v u (sym d ∙ e) a

-- texts in two lists draw the lower of the refusals that each draws
pub lowest_both : (t : List ℕ) (xs ys : List (Kind × Span)) → lowest_of t (xs ++ ys) ≡ min (lowest_of t xs) (lowest_of t ys)
lowest_both t [] ys = let h = lowest_small t ys in omega arith
lowest_both t (x ∷ xs) ys = rw (lowest_both t xs ys) (sym (min_assoc _ (lowest_of t xs) (lowest_of t ys)))

-- no refusal before changes nothing
pub lowest_behind : (t : List ℕ) (xs : List (Kind × Span)) → min no_refusal (lowest_of t xs) ≡ lowest_of t xs
lowest_behind t xs = let h = lowest_small t xs in omega arith

-- one behind the other
module _ {A B C D : Type 0} (S : Section A B) (T : Section C D) (t : List ℕ) where
  abbrev pub both_joins : Joins S.words.parse (item_of S t) (low_of S t) T.words.parse (item_of T t) (low_of T t) (both S T).words.parse (item_of (both S T) t) (low_of (both S T) t)
  both_joins =
      record {
        ends = leaves S.words;
        join = λ a c. (a, c);
        reads = pair_plain S.words T.words;
        writes = λ a c. refl;
        draws = λ a c. sym (lowest_both t (S.texts a) (T.texts c));
      }

module _ {A B C D : Type 0} (S : Section A B) (T : Section C D) {t w : List ℕ} {at : ℕ} {old : List ℕ} {s : Done} {new : List ℕ} {r : Walk} where
  pub part_missing : Writing S t w at old s new r → r ≡ None → Writing (both S T) t w at old s new None
  part_missing x e = record { writes = first_missing (both_joins S T t) x.writes e }

  pub part_follows : {cur : List ℕ} {p : ℕ} {u : Done} {r' : Walk} → Writing S t w at old s cur r → r ≡ Some (p, u) → Writing T t w p cur u new r' → Writing (both S T) t w at old s new r'
  part_follows x e y = record { writes = second_follows (both_joins S T t) x.writes e y.writes }

-- what holds no text, and such a part in front
pub textless_writes : {A : Type 0} (W F : Format A) (same : Agree W F) {t w : List ℕ} {at : ℕ} {old : List ℕ} {s : Done} {new : List ℕ} {r : Walk} → Walks W F.print silent w at old s new r
    → Writing (textless W F same) t w at old s new r
textless_writes W F same x = record { writes = x }

module _ {A C D : Type 0} (W F : Format A) (same : Agree W F) (T : Section C D) {t w : List ℕ} {at : ℕ} {old : List ℕ} {s : Done} {new : List ℕ} {r : Walk} where
  pub textless_missing : Walks W F.print silent w at old s new r → r ≡ None → Writing (both (textless W F same) T) t w at old s new None
  textless_missing x e = part_missing (textless W F same) T (textless_writes W F same x) e

  pub follows_textless : {cur : List ℕ} {p : ℕ} {u : Done} {r' : Walk} → Walks W F.print silent w at old s cur r → r ≡ Some (p, u) → Writing T t w p cur u new r'
      → Writing (both (textless W F same) T) t w at old s new r'
  follows_textless x e y = part_follows (textless W F same) T (textless_writes W F same x) e y

-- behind a byte that was appended
pub behind_writing : {A B : Type 0} (k : ℕ) (S : Section A B) {t w : List ℕ} {at : ℕ} {old : List ℕ} {s : Done} {cur : List ℕ} {u : Done} {new : List ℕ} {r : Walk} → Appends (k ∷ []) old s cur u
    → Writing S t w at cur u new r → Writing (behind k S) t w at old s new r
behind_writing k S {t} {w} {at} a x = record { writes = walks_as (λ v. v) (map_same (S.words.parse (drop at w))) (λ v. refl) (λ v. lowest_behind t (S.texts v)) a x.writes }

-- behind two
pub behind_two : {A B : Type 0} (j k : ℕ) (S : Section A B) {t w : List ℕ} {at : ℕ} {old : List ℕ} {s : Done} {o₁ : List ℕ} {s₁ : Done} {o₂ : List ℕ} {s₂ : Done} {new : List ℕ} {r : Walk}
    → Appends (j ∷ []) old s o₁ s₁ → Appends (k ∷ []) o₁ s₁ o₂ s₂ → Writing S t w at o₂ s₂ new r → Writing (behind j (behind k S)) t w at old s new r
behind_two j k S a b x = behind_writing j (behind k S) a (behind_writing k S b x)
