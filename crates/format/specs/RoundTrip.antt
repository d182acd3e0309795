-- What was written is read back: for every format, whatever stood in the buffer before and behind. Assumes nothing.
use Rattle.std.specs.Prelude.{◌≡◌, refl, List, ◌++◌, ℕ, ◌+◌, length, drop}
use Rattle.std.proofs.Common.{ap, ◌∙◌, arith, length-append}
use Rattle.format.specs.Parsed.{got}
use Rattle.format.specs.Format.{Format}
use Rattle.format.specs.Write.{Writes, told_length}
use Rattle.format.specs.Read.{found, reading, place_of}
use Rattle.std.specs.Prelude.{Ok}

pub written_read : {A : Type 0} (F : Format A) (zero a : A) (xs ys : List ℕ) (n : ℕ) → F.Ok a → Writes (F.print a) xs ys (Ok n)
    → reading zero ys (F.parse ys) ≡ found a n
written_read F zero a xs ys n ok w =
    let t = told_length w refl in
    let r = drop (length (F.print a)) xs in
    let y : ys ≡ F.print a ++ r = t.2 in
    let e : F.parse ys ≡ got a r = ap F.parse y ∙ F.back a r ok in
    let l : length ys ≡ length (F.print a) + length r = ap length y ∙ length-append (F.print a) r in
    let p : place_of ys r ≡ n = omega (arith, t.0) in
    rw (e, p)
