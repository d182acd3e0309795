-- `types::RefType::from_words` meets its contract. Assumes nothing.
use mathlib.Core.Path.{◌≡◌, sym, ◌∙◌}
use Prim.Native.Nat.{◌<◌}
use native.Mathlib.Omega.{arith}
use lib.Bits.{bit_and}
use borrow.Author.Tests.{eq-eqb, ne_eqb}
use Rattle.format.specs.Basic.{find}
use Rattle.types.specs.Abstract.{abstracts, kind_of}
use Rattle.types.specs.Words.{ref_words_bits}
use Rattle.types.specs.Answers.{kind_some}
use Rattle.types.proofs.RefType.from_words.Goals as goal

pub returns-then-kind-lt14 : goal.returns-then-kind-lt14
returns-then-kind-lt14 c = let small : c.args.h < 64 = omega (arith, c.if-h-ne0.false) in
    let a = c.args in
    let unused : a.x ≡ 0 = omega arith in
    rw (
      c.new_abstract.ensures,
      ref_words_bits a.h a.x small,
      ne_eqb (bit_and a.h 15) 14 (λ e. omega (arith, c.if-kind-lt14.true)),
      ne_eqb (bit_and a.h 15) 15 (λ e. omega (arith, c.if-kind-lt14.true)),
      eq-eqb a.x 0 unused,
      kind_some (find kind_of abstracts (bit_and a.h 15)) _ (sym c.from_kind.ensures ∙ c.in_ok-ty.was),
    )
