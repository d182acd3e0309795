-- Where a text stands in the bytes that hold it (document 01, Answers by number: spans pointing into those bytes, an empty one where its bytes would
-- begin). Assumes nothing.
use Rattle.std.specs.Prelude.{◌≡◌, refl, Option, None, Some, List, ℕ, ◌+◌, ◌≤◌, length, drop}
use Rattle.std.proofs.Common.{sym, arith}
use Rattle.format.specs.Parsed.{Parsed, fail, got}
use Rattle.format.specs.Format.{Format}
use Rattle.format.specs.Read.{read_on}
use Rattle.leb128.specs.Leb.{uleb}
use Rattle.texts.specs.declared.Span.{Span}

-- bytes that begin at n
abbrev pub span_at : ℕ → List ℕ → Span
span_at n b = record { start = n; len = length b }

-- bytes behind their length, which begins at n
abbrev pub sized_at : ℕ → List ℕ → Span
sized_at n b = span_at (n + length (uleb (length b))) b

-- what was read of a text, as an answer
abbrev pub text_at : (List ℕ → Span) → Parsed (List ℕ) → Option Span
text_at f fail = None
text_at f (got b r) = Some (f b)

-- what an answer tells
module _ (F : Format (List ℕ)) (f : List ℕ → Span) (s : List ℕ) (at : ℕ) where
  pub record Stands (v : Span) : Type 0 where
    pub text : List ℕ
    pub is : v ≡ f text
    pub parsed : F.parse (drop at s) ≡ got text (drop (at + length (F.print text)) s)
    pub within : at + length (F.print text) ≤ length s

  pub stands : (v : Span) → at ≤ length s → text_at f (F.parse (drop at s)) ≡ Some v → Stands v
  stands v h e = go (F.parse (drop at s)) refl e
    where
      go : (m : Parsed (List ℕ)) → F.parse (drop at s) ≡ m → text_at f m ≡ Some v → Stands v
      go fail p q = let z : ◌≡◌ {A = ℕ} 0 1 = cc in absurd (omega arith)
      go (got b r) p q =
          let on = read_on F s at b r h p in
          let i : f b ≡ v = cc in
          record { text = b; is = sym i; parsed = on.0; within = on.1 }

  pub stands_not : text_at f (F.parse (drop at s)) ≡ None → F.parse (drop at s) ≡ fail
  stands_not e = go (F.parse (drop at s)) e
    where
      go : (m : Parsed (List ℕ)) → text_at f m ≡ None → m ≡ fail
      go fail q = refl
      go (got b r) q = let z : ◌≡◌ {A = ℕ} 0 1 = cc in absurd (omega arith)
