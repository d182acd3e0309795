-- How the walks over texts are put together: what a finder told of a span in the words, and of bytes at a place. Assumes nothing.
use mathlib.Core.Path.{◌≡◌, refl, sym, ap, subst, ◌∙◌}
use mathlib.Core.Bool.{Bool, true, false}
use mathlib.Core.List.{List, ◌++◌}
use Prim.Native.Nat.{ℕ, ◌+◌, ◌-◌, ◌<◌, ◌≤◌, ◌^◌}
use native.Mathlib.Omega.{arith}
use lib.Dec.{leb}
use lib.IntN.{pos}
use lib.ListN.{length, take, drop, length-append, take-append-drop}
use lib.Seq.{length-take-le}
use borrow.Author.Tests.{leb-true}
use mir.Syntax.{w64}
use mir.Val.{Fits}
use Rattle.format.specs.Parsed.{Parsed, fail, got}
use Rattle.format.specs.Read.{begins}
use Rattle.format.specs.Sized.{sized}
use Rattle.std.specs.Prelude.{Option, None, Some}
use Rattle.leb128.proofs.Formats.{u32}
use Rattle.leb128.specs.Leb.{uleb, unsigned}
use Rattle.leb128.proofs.LebLaws.{leb_some}
use Rattle.names.specs.Name.{is_name}
use Rattle.texts.specs.Text.{cut_is}
use Rattle.texts.specs.Spans.{span}
use Rattle.texts.specs.Place.{sized_at, text_at, Stands, stands}
use Rattle.texts.specs.Held.{Holds, sized_held}
use Rattle.texts.specs.declared.Span.{Span}
use Rattle.std.specs.Prelude.{Option}
use Rattle.parts.specs.Text.{name_bytes, span_of, span_is}

-- ---- a span in the words: the place behind it is within them, and so is one before that

pub behind_span : (w : List ℕ) (at i : ℕ) {found : Option Span} {v : Span} → found ≡ span_of (span.parse (drop at w)) → found ≡ Some v → length w < 2 ^ 64 → leb i 2 ≡ true → Fits w64 (at + i)
behind_span w at i {v = v} d e h k = record { fits = omega (arith, (span_is w at v (sym d ∙ e)).1, leb-true i 2 k) }

-- ---- bytes that were found: where they end

pub sized_ends : (n : ℕ) (b : List ℕ) → (sized_at n b).start + (sized_at n b).len ≡ n + length ((sized u32).print b)
sized_ends n b = omega (arith, length-append (uleb (length b)) b)

-- ---- data behind its length at a place: its span holds it, and it is a name or not

module _ (b : List ℕ) (at : ℕ) {found : Option Span} (d : found ≡ text_at (sized_at at) ((sized u32).parse (drop at b))) where
  module _ {v : Span} (e : found ≡ Some v) where
    within : at ≤ length b
    within = go ((sized u32).parse (drop at b)) refl (sym d ∙ e)
      where
        go : (m : Parsed (List ℕ)) → (sized u32).parse (drop at b) ≡ m → text_at (sized_at at) m ≡ Some v → at ≤ length b
        go fail p q = let z : ◌≡◌ {A = ℕ} 0 1 = cc in absurd (omega arith)
        go (got t r) p q = begins (sized u32) b at t r (omega (arith, leb_some unsigned (pos (length t)), length-append (uleb (length t)) t)) p

    stood : Stands (sized u32) (sized_at at) b at v
    stood = stands (sized u32) (sized_at at) b at v within (sym d ∙ e)

    holds : Holds b v stood.text
    holds =
        let t = stood.text in
        let r = drop (at + length ((sized u32).print t)) b in
        let q : b ≡ take at b ++ ((uleb (length t) ++ t) ++ r) = sym (take-append-drop at b) ∙ ap (λ (l : List ℕ). take at b ++ l) ((sized u32).only (drop at b) t r stood.parsed).1 in
        subst (λ (u : Span). Holds b u t) (sym stood.is) (sized_held (take at b) t r q (sym (length-take-le at b within)))

    pub data_within : v.start + v.len ≤ length b
    data_within = holds.within

    -- what is_name was asked, and answered
    module _ {c : Bool} (n : c ≡ is_name (take (v.start + v.len - v.start) (drop v.start b))) where
      is-so : is_name stood.text ≡ c
      is-so = ap is_name (sym holds.slice ∙ sym (cut_is b v data_within)) ∙ sym n

      pub name_there : c ≡ true → Some v ≡ text_at (sized_at at) (name_bytes.parse (drop at b))
      name_there i =
          let t = stood.text in
          let p : name_bytes.parse (drop at b) ≡ got t (drop (at + length ((sized u32).print t)) b) = rw (stood.parsed, is-so ∙ i) in
          ap Some stood.is ∙ sym (ap (text_at (sized_at at)) p)

      pub no_name : c ≡ false → None ≡ text_at (sized_at at) (name_bytes.parse (drop at b))
      no_name i = rw (stood.parsed, is-so ∙ i)
