-- A text that stands between other bytes: the span that begins where it does holds it. Assumes nothing.
use Rattle.std.specs.Prelude.{◌≡◌, refl, List, ◌++◌, ℕ, ◌+◌, ◌≤◌, length}
use Rattle.std.proofs.Common.{sym, ap, ◌∙◌, append_assoc, arith, length-append, take_at, drop_at}
use Rattle.leb128.specs.Leb.{uleb}
use Rattle.texts.specs.Text.{Kind, slice_of, slice_in}
use Rattle.texts.specs.Place.{span_at, sized_at}
use Rattle.texts.specs.Allowed.{IsKind, Allowed}
use Rattle.texts.specs.declared.Span.{Span}

-- at ends within s and holds b there
pub record Holds (s : List ℕ) (at : Span) (b : List ℕ) : Type 0 where
  pub within : at.start + at.len ≤ length s
  pub slice : slice_of s at ≡ b

-- behind p
pub held : {s : List ℕ} (p b r : List ℕ) {n : ℕ} → s ≡ p ++ (b ++ r) → n ≡ length p → Holds s (span_at n b) b
held {s} p b r {n} e f =
    let l : length s ≡ length p + (length b + length r) = ap length e ∙ length-append p (b ++ r) ∙ ap (λ (k : ℕ). length p + k) (length-append b r) in
    let h : n + length b ≤ length s = omega arith in
    record { within = h; slice = slice_in s (span_at n b) h ∙ rw (e, drop_at p (b ++ r) n (sym f), take_at b r (length b) refl) }

-- and behind its length
pub sized_held : {s : List ℕ} (p b r : List ℕ) {n : ℕ} → s ≡ p ++ ((uleb (length b) ++ b) ++ r) → n ≡ length p → Holds s (sized_at n b) b
sized_held {s} p b r {n} e f =
    let u = uleb (length b) in
    let d : s ≡ (p ++ u) ++ (b ++ r) = e ∙ ap (λ (l : List ℕ). p ++ l) (append_assoc u b r) ∙ sym (append_assoc p u (b ++ r)) in
    held (p ++ u) b r d (ap (λ (k : ℕ). k + length u) f ∙ sym (length-append p u))

-- bytes of a kind are an allowed text
pub held_allowed : {s : List ℕ} {at : Span} {b : List ℕ} (k : Kind) → Holds s at b → IsKind k b → Allowed s (k, at)
held_allowed k h i = record { within = h.within; kind = rw h.slice i }
