-- Which bytes are a name's: a decision, equal to the definition; and a name as a format, its length and then its bytes. Assumes nothing.
use Rattle.std.specs.Prelude.{◌≡◌, refl, ◌↔◌, Bool, true, false, List, ℕ, ◌≤◌, length, drop}
use Rattle.std.proofs.Common.{sym, ap, ◌∙◌, true≢false}
use Rattle.std.proofs.Math.Option.{Option, none, some}
use Rattle.format.specs.Format.{Format}
use Rattle.format.specs.Combine.{guard}
use Rattle.format.specs.Sized.{sized}
use Rattle.format.specs.Runs.{run, run_only, run_back}
use Rattle.leb128.proofs.Formats.{u32}
use Rattle.names.specs.Utf8.{IsName}
use Rattle.names.specs.Char.{char, char_some}

abbrev pub found : Option (List ℕ) → Bool
found none = false
found (some cs) = true

-- they are characters, one after the other, up to the end
unfoldable pub is_name : List ℕ → Bool
is_name s = found (run char s)

pub name_exactly : (s : List ℕ) → (is_name s ≡ true) ↔ IsName s
unfolding is_name
name_exactly s = (there (run char s) refl, back)
  where
    there : (o : Option (List ℕ)) → run char s ≡ o → found o ≡ true → IsName s
    there none e h = absurd (true≢false (sym h))
    there (some cs) e h = let i = run_only char s cs e in record { chars = cs; scalars = i.0; encoded = i.1 }

    back : IsName s → found (run char s) ≡ true
    back n = ap found (ap (run char) n.encoded ∙ run_back char char_some n.chars n.scalars)

-- Binary Format, Names: the length in bytes, as a u32, and the bytes
abbrev pub name : Format (List ℕ)
name = guard (sized u32) is_name

-- what is between two places of s is characters, one after the other
pub record NamedTo (s : List ℕ) (from at : ℕ) : Type 0 where
  pub after : from ≤ at
  pub within : at ≤ length s
  pub same : is_name (drop from s) ≡ is_name (drop at s)
