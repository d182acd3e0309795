-- What a `?` tells of the Option that it took apart: a value, or nothing, which is handed on. Assumes nothing.
use Rattle.std.specs.Prelude.{◌≡◌, Option, None, Some}
use Rattle.std.proofs.Common.{◌∙◌, ap}
use Rattle.std.specs.ControlFlow.{continue_value}
use Rattle.std.specs.declared.ops.ControlFlow.{ControlFlow}
use Rattle.std.specs.declared.ops.ControlFlow.TheVariants.{Continue, Break}

pub took : {A B : Type 0} {r : Option A} {b : ControlFlow B A} {x : A} → r ≡ continue_value b → b ≡ Continue x → r ≡ Some x
took e f = e ∙ ap continue_value f

pub left : {A B : Type 0} {r : Option A} {b : ControlFlow B A} {n : B} → r ≡ continue_value b → b ≡ Break n → r ≡ None
left e f = e ∙ ap continue_value f
