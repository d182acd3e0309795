-- `hex_text::sum::sum` meets its contract: each byte is added, and wraps. Assumes nothing.
use Rattle.std.proofs.Common.{◌≡◌, ℕ, ◌+◌, ◌%◌, ◌^◌, ◌<◌, List, [], ◌∷◌, ◌∙◌, arith, rules, fold}
use Rattle.hex_text.specs.Sum.{total}
use Rattle.hex_text.proofs.sum.sum.Goals as goal

added : (s : ℕ) (b : List ℕ) → s < 256 → fold (λ s x. (s + x) % 2 ^ 8) s b ≡ (s + total b) % 256
added s [] h = omega arith
added s (x ∷ b) h = added ((s + x) % 256) b (omega arith) ∙ omega arith

pub returns : goal.returns
returns c =
    let e : c.fold.result ≡ fold (λ s x. (s + x) % 2 ^ 8) 0 c.args.bytes.now = search rules in
    omega (arith, added 0 c.args.bytes.now (omega arith))
