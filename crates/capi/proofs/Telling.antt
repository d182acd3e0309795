-- An entry for C tells what the call below it answered: what it leaves is the outcome of that call. Assumes nothing.
use mathlib.Core.Path.{◌≡◌, ap, ◌∙◌}
use mathlib.Core.List.{List}
use Prim.Native.Nat.{ℕ}
use mir.Syntax.{Width}
use mir.Val.{SFits, to_z, of_z}
use mir.Facts.{to_z-of_z}
use lib.IntN.{ℤ}
use Rattle.format.specs.Write.{Written, Writes, writing, outcome}
use Rattle.frames.specs.Append as append
use Rattle.thriftbell.specs.Add as add
use Rattle.thriftbell.specs.Read as read
use Rattle.std.specs.Prelude.{Result}
use Rattle.format.specs.declared.refusal.Refusal.{Refusal}
use Rattle.frames.specs.declared.State.{State}
use Rattle.thriftbell.specs.declared.Took.{Took}
use Rattle.lines.specs.Answer as line
use Rattle.lines.specs.declared.Reply.{Reply}
use Rattle.format.specs.Write as write
use Rattle.capi.specs.Outcomes.{written, added, took, answered, numbered}

-- reading a number
pub told : {A : Type 0} {x y z : A} → x ≡ y → y ≡ z → x ≡ z
told p q = p ∙ q

-- writing
module _ {r l : ℕ} (w : Written) (t : (out : List ℕ) → written r l out ≡ outcome w out) where
  pub written_told : {b xs ys : List ℕ} → Writes b xs ys w → written r l ys ≡ writing b xs
  written_told {ys = ys} p = t ys ∙ p.right

-- a number with a sign, written as f says
pub signed_told : (f : ℤ → List ℕ) {r l : ℕ} (w : Written) → ((out : List ℕ) → written r l out ≡ outcome w out) → {n : Width} (v : ℤ) {xs ys : List ℕ} → SFits n v
    → Writes (f (to_z n (of_z n v))) xs ys w → written r l ys ≡ writing (f v) xs
signed_told f w t v {xs} {ys} s p = written_told w t (rw (to_z-of_z s) at p)

-- adding, finishing, reading an item, and a line
pub added_told : {r u : ℕ} (state : State) (a : Result State Refusal) {ys : List ℕ} {o : append.Outcome} → ((store : List ℕ) → added r u store ≡ add.outcome state a store)
    → add.outcome state a ys ≡ o → added r u ys ≡ o
added_told state a {ys = ys} t p = t ys ∙ p

pub finished_told : {r l : ℕ} (f : Written) {ys : List ℕ} {o : write.Outcome} → ((out : List ℕ) → written r l out ≡ outcome f out) → outcome f ys ≡ o → written r l ys ≡ o
finished_told f {ys} t p = t ys ∙ p

pub taken_told : {r m n : ℕ} (a : Result Took Refusal) {ys : List ℕ} {o : read.Outcome} → ((out : List ℕ) → took r m n out ≡ read.outcome a out) → read.outcome a ys ≡ o → took r m n ys ≡ o
taken_told a {ys} t p = t ys ∙ p

pub reply_told : {r u l : ℕ} (a : Reply) {s b ys : List ℕ} {o : line.Outcome} → ((store buffer out : List ℕ) → answered r u l store buffer out ≡ numbered (line.outcome a store buffer out))
    → line.outcome a s b ys ≡ o → answered r u l s b ys ≡ numbered o
reply_told a {s} {b} {ys} t p = t s b ys ∙ ap numbered p
