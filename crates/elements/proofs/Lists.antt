-- What a segment lists, in bytes: functions, or a type and expressions, with what the flag says of them or not. Assumes nothing.
use mathlib.Core.Path.{◌≡◌, refl, sym, subst, ◌∙◌}
use mathlib.Core.Bool.{Bool, true, false}
use mathlib.Core.List.{List, [], ◌∷◌}
use Prim.Native.Nat.{ℕ, ◌+◌, ◌<◌}
use native.Mathlib.Omega.{arith}
use lib.ListN.{length, get_or, length-append}
use Rattle.format.specs.Count.{Appends, silent, adds_seq}
use Rattle.format.specs.Lists.{many}
use Rattle.format.specs.Walk.{Walks}
use Rattle.format.specs.declared.Done.{Done}
use Rattle.format.specs.Walk.{Walk}
use Rattle.std.specs.Prelude.{None, Some}
use Rattle.leb128.proofs.Formats.{u32}
use Rattle.exprs.specs.Grammar.{Expr, stop, more}
use Rattle.exprs.specs.Laws.{expr}
use Rattle.words.specs.Words.{word}
use Rattle.texts.specs.Spans.{span}
use Rattle.texts.specs.declared.Span.{Span}
use Rattle.types.specs.Words.{ref_words}
use Rattle.types.specs.Bytes.{ref_bytes}
use Rattle.parts.specs.Text.{expression}
use Rattle.parts.specs.Both.{both}
use Rattle.parts.specs.Listed.{listed}
use Rattle.parts.specs.Reading.{Reading, part_missing, part_follows, behind_reads, words_before}
use Rattle.elements.specs.Members.{indices, functions, ref_type, expressions, funcrefs, members}
use Rattle.modes.proofs.Tags.{stands}

-- an expression takes a byte at least, and its span a word
expr_long : {e : List ℕ} → Expr e → 0 < length e
expr_long stop = omega arith
expr_long (more a e i x) = omega (arith, length-append a e, expr_long x)

pub byte_each : (x : List ℕ) → expr.Ok x → 0 < length (expr.print x)
byte_each x ok = expr_long ok

pub word_each : (v : Span) → span.Ok v → 0 < length (span.print v)
word_each v ok = omega arith

module _ (e : Bool) {said k : Bool} {b : List ℕ} {at : ℕ} {old : List ℕ} {s : Done} {new : List ℕ} {r : Walk} where
  pub as_members : said ≡ k → Reading (members e k) b at old s new r → Reading (members e said) b at old s new r
  as_members p x = subst (λ (i : Bool). Reading (members e i) b at old s new r) (sym p) x

module _ {said : Bool} {b : List ℕ} {at : ℕ} {old : List ℕ} {s : Done} {new : List ℕ} where
  module _ (t : said ≡ true) where
    -- 00 says that they are functions

    module _ (h : at < length b) where
      pub said_functions : {o₁ : List ℕ} {s₁ : Done} {cur : List ℕ} {u : Done} {r : Walk} {x : ℕ} → get_or b at 0 ≡ x → x ≡ 0 → Appends (0 ∷ []) old s o₁ s₁ → Appends (0 ∷ 0 ∷ []) o₁ s₁ cur u
          → Walks (many u32 u32) (many word word).print silent b (at + 1) cur u new r → Reading (members false said) b at old s new r
      said_functions {r = r} y e a c x =
          as_members false t
          (behind_reads 0x00 functions b at old s new r (stands 0x00 b at h (y ∙ e))
          (words_before indices functions (0 ∷ 0 ∷ 0 ∷ []) (λ s. refl) (λ n x. refl) (adds_seq a c) (record { reads = λ k. x })))

    -- a type, and expressions
    module _ {o₁ : List ℕ} {s₁ : Done} (a : Appends (1 ∷ []) old s o₁ s₁) where
      typed : {r' : Walk} → Reading (both ref_type (listed expression)) b at o₁ s₁ new r' → Reading (members true said) b at old s new r'
      typed x = as_members true t (words_before (both ref_type (listed expression)) expressions (1 ∷ []) (λ s. refl) (λ n y. refl) a x)

      pub type_not_read : {r : Walk} → Walks ref_bytes ref_words.print silent b at o₁ s₁ new r → r ≡ None → Reading (members true said) b at old s new None
      type_not_read x e = typed (part_missing ref_type (listed expression) (record { reads = λ k. x }) e)

      pub typed_reads : {cur : List ℕ} {p : ℕ} {u : Done} {r r' : Walk} → Walks ref_bytes ref_words.print silent b at o₁ s₁ cur r → r ≡ Some (p, u)
          → Reading (listed expression) b p cur u new r' → Reading (members true said) b at old s new r'
      typed_reads x e y = typed (part_follows ref_type (listed expression) (record { reads = λ k. x }) e y)

  -- neither is said
  module _ (t : said ≡ false) {o₁ : List ℕ} {s₁ : Done} {cur : List ℕ} {u : Done} {r : Walk} where
    pub bare_functions : Appends (0 ∷ []) old s o₁ s₁ → Appends (0 ∷ 0 ∷ []) o₁ s₁ cur u → Walks (many u32 u32) (many word word).print silent b at cur u new r
        → Reading (members false said) b at old s new r
    bare_functions a c x = as_members false t (words_before indices functions (0 ∷ 0 ∷ 0 ∷ []) (λ s. refl) (λ n x. refl) (adds_seq a c) (record { reads = λ k. x }))

    pub funcrefs_read : Appends (1 ∷ []) old s o₁ s₁ → Appends (16 ∷ 0 ∷ []) o₁ s₁ cur u → Reading (listed expression) b at cur u new r → Reading (members true said) b at old s new r
    funcrefs_read a c x = as_members true t (words_before (listed expression) funcrefs (1 ∷ 16 ∷ 0 ∷ []) (λ s. refl) (λ n y. refl) (adds_seq a c) x)
