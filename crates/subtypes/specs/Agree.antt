-- The subtypes that have words are those that have bytes (document 01, Records and Types to bytes). Assumes nothing.
use Rattle.std.specs.Prelude.{◌↔◌, Bool, true, false, ℕ}
use Rattle.std.proofs.Math.Option.{Option, none, some}
use Rattle.format.specs.Alternatives.{opt}
use Rattle.format.specs.Agree.{Agree}
use Rattle.format.specs.Leads.{option, mark}
use Rattle.leb128.proofs.Formats.{u32}
use Rattle.words.specs.Words.{word}
use Rattle.subtypes.specs.SubType.{sub_words, sub_bytes}
use Rattle.composites.specs.Agree.{inner_agree}
use Rattle.prefixes.specs.Agree.{supers_agree}

-- what a lead can print is what the words behind its flag can
option_agree : (k : ℕ) (o : Option ℕ) → (opt word).Ok o ↔ (option k u32).Ok o
option_agree k none = (λ h. tt, λ h. tt)
option_agree k (some x) = (λ h. h, λ h. h)

mark_ok : (k : ℕ) (b : Bool) → (mark k).Ok b
mark_ok k true = tt
mark_ok k false = tt

pub sub_agree : Agree sub_words sub_bytes
sub_agree s =
    let p = supers_agree (s.final, s.supers) in
    let d = option_agree 0x4C s.describes in
    let e = option_agree 0x4D s.descriptor in
    let i = inner_agree s.inner in (
      λ h. (p.0 h.0, (mark_ok 0x65 s.shared, (d.0 h.1.1.0, (e.0 h.1.1.1.0, i.0 h.1.1.1.1)))),
      λ h. (p.1 h.0, (tt, (d.1 h.1.1.0, (e.1 h.1.1.1.0, i.1 h.1.1.1.1)))),
    )
