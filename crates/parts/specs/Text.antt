-- A text as a part of records and items (document 01, Records: a span is two words; Items to bytes): a name, an expression, data. Like a section, a part has
-- words, texts and bytes. Assumes nothing.
use Rattle.std.specs.Prelude.{Option, None, Some}
use Rattle.std.specs.Prelude.{◌≡◌, refl, List, [], ◌∷◌, ◌++◌, ℕ, ◌+◌, ◌<◌, ◌≤◌, ◌^◌, length, drop}
use Rattle.std.proofs.Common.{ap, ◌∙◌, arith}
use Rattle.format.specs.Parsed.{Parsed, fail, got}
use Rattle.format.specs.Format.{Format}
use Rattle.format.specs.Combine.{guard}
use Rattle.format.specs.Sized.{sized}
use Rattle.format.specs.Read.{read_on, begins}
use Rattle.leb128.proofs.Formats.{u32}
use Rattle.names.specs.Name.{is_name, name_exactly}
use Rattle.exprs.specs.Laws.{expr}
use Rattle.texts.specs.Text.{Kind, named, constant, plain, slice_of, long_in}
use Rattle.texts.specs.Spans.{span}
use Rattle.texts.specs.Place.{span_at, sized_at}
use Rattle.texts.specs.Allowed.{IsKind}
use Rattle.texts.specs.Held.{Holds, held, sized_held, held_allowed}
use Rattle.texts.specs.Section.{Section}
use Rattle.texts.specs.declared.Span.{Span}
use Rattle.std.specs.Prelude.{Option}

-- F: the bytes of a text of the kind k; place: its span, where they begin
pub record Holding (k : Kind) (F : Format (List ℕ)) (place : ℕ → List ℕ → Span) : Type 0 where
  pub holds : (q r b : List ℕ) → Holds (q ++ (F.print b ++ r)) (place (length q) b) b
  pub kind : (b : List ℕ) → F.Ok b → IsKind k b
  pub ok : (b : List ℕ) → IsKind k b → length b < 2 ^ 32 → F.Ok b

module _ (k : Kind) (F : Format (List ℕ)) (place : ℕ → List ℕ → Span) (H : Holding k F place) where
  abbrev pub text : Section Span (List ℕ)
  text =
      record {
        words = span;
        texts = λ v. (k, v) ∷ [];
        bytes = F;
        resolve = slice_of;
        locate = place;
        located = λ q r b ok. (H.holds q r b).slice;
        locate_ok = λ q r b ok h. (let i = (H.holds q r b).within in (omega arith, omega arith));
        locate_texts = λ q r b ok. (held_allowed k (H.holds q r b) (H.kind b ok), tt);
        resolve_ok = λ t v ok h. H.ok (slice_of t v) h.0.kind (omega (arith, long_in t v h.0.within, ok.1));
        same_words = λ t v n. refl;
      }

-- a name: its length and its bytes, which are UTF-8
abbrev pub name_bytes : Format (List ℕ)
name_bytes = guard (sized u32) is_name

abbrev pub name_holds : Holding named name_bytes sized_at
name_holds = record { holds = λ q r b. sized_held q b r refl refl; kind = λ b ok. (name_exactly b).0 ok.1; ok = λ b i h. (h, (name_exactly b).1 i) }

abbrev pub name : Section Span (List ℕ)
name = text named name_bytes sized_at name_holds

-- an expression: its bytes, which end in 0B
abbrev pub expr_holds : Holding constant expr span_at
expr_holds = record { holds = λ q r b. held q b r refl refl; kind = λ b ok. ok; ok = λ b i h. i }

abbrev pub expression : Section Span (List ℕ)
expression = text constant expr span_at expr_holds

-- data: its length and its bytes, which are any
abbrev pub plain_holds : Holding plain (sized u32) sized_at
plain_holds = record { holds = λ q r b. sized_held q b r refl refl; kind = λ b ok. tt; ok = λ b i h. h }

abbrev pub content : Section Span (List ℕ)
content = text plain (sized u32) sized_at plain_holds

-- a span that was read of words, as an answer
abbrev pub span_of : Parsed Span → Option Span
span_of fail = None
span_of (got v r) = Some v

module _ (w : List ℕ) (at : ℕ) where
  pub span_not : span_of (span.parse (drop at w)) ≡ None → span.parse (drop at w) ≡ fail
  span_not e = go (span.parse (drop at w)) e
    where
      go : (m : Parsed Span) → span_of m ≡ None → m ≡ fail
      go fail q = refl
      go (got v r) q = let z : ◌≡◌ {A = ℕ} 0 1 = cc in absurd (omega arith)

  -- it takes two words
  pub span_is : (v : Span) → span_of (span.parse (drop at w)) ≡ Some v → (span.parse (drop at w) ≡ got v (drop (at + 2) w)) × (at + 2 ≤ length w)
  span_is v e = go (span.parse (drop at w)) refl e
    where
      go : (m : Parsed Span) → span.parse (drop at w) ≡ m → span_of m ≡ Some v → (span.parse (drop at w) ≡ got v (drop (at + 2) w)) × (at + 2 ≤ length w)
      go fail p q = let z : ◌≡◌ {A = ℕ} 0 1 = cc in absurd (omega arith)
      go (got u r) p q =
          let u' : u ≡ v = cc in
          let on = read_on span w at u r (begins span w at u r (omega arith) p) p in
          (on.0 ∙ ap (λ (x : Span). got x (drop (at + 2) w)) u', on.1)
