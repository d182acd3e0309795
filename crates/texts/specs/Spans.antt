-- A span in a record (document 01, Records): two words, start and length. Assumes nothing.
use Rattle.std.specs.Prelude.{◌≡◌, refl, List, ℕ, ◌+◌, ◌<◌, ◌≤◌, ◌^◌, length, get_or, drop}
use Rattle.std.proofs.Common.{lt-ltb}
use Rattle.format.specs.Parsed.{got}
use Rattle.format.specs.Format.{Format}
use Rattle.format.specs.Combine.{pair, iso}
use Rattle.format.specs.Read.{drop_two}
use Rattle.words.specs.Words.{word}
use Rattle.texts.specs.declared.Span.{Span}

abbrev pub span : Format Span
span = iso (pair word word) (λ s. (s.start, s.len)) (λ p. record { start = p.0; len = p.1 }) (λ s. refl) (λ p. refl)

pub span_at_lem : (w : List ℕ) (at : ℕ) → at + 2 ≤ length w → get_or w at 0 < 2 ^ 32 → get_or w (at + 1) 0 < 2 ^ 32
    → span.parse (drop at w) ≡ got (record { start = get_or w at 0; len = get_or w (at + 1) 0 }) (drop (at + 2) w)
span_at_lem w at h p q = rw (drop_two w at h, lt-ltb (get_or w at 0) (2 ^ 32) p, lt-ltb (get_or w (at + 1) 0) (2 ^ 32) q)
