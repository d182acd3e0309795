-- What the calls of `expr_end` tell of where an expression ends: each law takes what they ensure and what was tested, in the code's order. Assumes nothing.
use mathlib.Core.Path.{◌≡◌, sym, subst, ◌∙◌}
use mathlib.Core.Bool.{Bool, true, false, cond}
use mathlib.Core.List.{List}
use Prim.Native.Nat.{ℕ, ◌+◌, ◌≤◌, ◌<◌}
use native.Mathlib.Omega.{arith}
use mir.Syntax.{w8}
use mir.Val.{Fits}
use lib.ListN.{length, get_or, drop}
use borrow.Author.Tests.{eq-eqb, ne_eqb}
use Rattle.std.specs.Prelude.{Option, None, Some, option_map}
use Rattle.exprs.specs.Scan.{opcode, number_left, is_heap, operand, nothing, plus, still, next, scan, PassedTo, Passed, expr_end}
use Rattle.exprs.specs.Laws.{inside}
use Rattle.exprs.specs.declared.Next.{Next}
use Rattle.exprs.specs.declared.Next.TheVariants.{End, Takes}
use Rattle.exprs.specs.declared.Operand.{Operand}
use Rattle.exprs.specs.declared.Operand.TheVariants.{Bytes, Heap, Number}
use Rattle.exprs.proofs.Steps.{at-end, at_go, at_bad, at_stop, at_none, bytes_on}

-- ---- a heap type: x is the byte there, and t what `is_heap` told of it

module _ (s : List ℕ) {i : ℕ} where
  pub none_left : {r : Option ℕ} → r ≡ None → length s ≤ i → Passed Heap s i r
  none_left e h = record { to = rw e (at-end s Heap i h) }

  module _ (h : i < length s) {x : ℕ} (y : x ≡ get_or s i 0) {t : Bool} (e : t ≡ is_heap x) where
    heap : next Heap (get_or s i 0) ≡ still (option_map Bytes (cond t (Some 0) None))
    unfolding operand
    heap = rw (← y, e)

    pub heap_passed : t ≡ true → Passed Heap s i (Some (i + 1))
    heap_passed z = record { to = (omega arith, at_go s Heap i h nothing (heap ∙ rw z)) }

    pub heap_wrong : t ≡ false → Passed Heap s i None
    heap_wrong z = record { to = at_bad s Heap i h (heap ∙ rw z) }

-- ---- instructions

-- the whole scan is the scan from here on, so many bytes later
pub record Scanned (s : List ℕ) (o : Operand) (i : ℕ) : Type 0 where
  pub is : expr_end s ≡ plus i (scan o (drop i s))

module _ {s : List ℕ} {o : Operand} {i : ℕ} (a : Scanned s o i) where
  pub bytes_missing : {r : Option ℕ} → r ≡ None → length s ≤ i → r ≡ expr_end s
  bytes_missing e h = e ∙ sym (a.is ∙ at-end s o i h)

module _ {s : List ℕ} {g : Bool} {n i : ℕ} (a : Scanned s (Number g n) i) where
  pub number_ends : n ≡ 0 → Scanned s nothing i
  number_ends z = record { is = a.is ∙ at_none s (Number g n) i (eq-eqb n 0 z) }

  module _ (some : n ≡ 0 → ⊥) (h : i < length s) {x : ℕ} (y : x ≡ get_or s i 0) {r : Option ℕ} (e : r ≡ number_left g n x) where
    step : {t : Option ℕ} → r ≡ t → next (Number g n) (get_or s i 0) ≡ still (option_map (Number g) t)
    unfolding operand
    step q = inside (Number g n) (get_or s i 0) (ne_eqb n 0 some) ∙ rw (← y, ← e, q)

    pub number_wrong : {q : Option ℕ} → q ≡ None → r ≡ None → q ≡ expr_end s
    number_wrong e q = e ∙ sym (a.is ∙ at_bad s (Number g n) i h (step q))

    pub number_goes_on : {left : ℕ} → r ≡ Some left → Scanned s (Number g left) (i + 1)
    number_goes_on {left} q = record { is = a.is ∙ at_go s (Number g n) i h (Number g left) (step q) }

module _ {s : List ℕ} {i : ℕ} (a : Scanned s nothing i) (h : i < length s) {x : ℕ} (y : x ≡ get_or s i 0) {r : Option Next} (e : r ≡ opcode x) where
  first : {t : Option Next} → r ≡ t → next nothing (get_or s i 0) ≡ t
  first q = rw (← y, ← e, q)

  pub no_instruction : {q : Option ℕ} → q ≡ None → r ≡ None → q ≡ expr_end s
  no_instruction e q = e ∙ sym (a.is ∙ at_bad s nothing i h (first q))

  pub last_instruction : r ≡ Some End → Some (i + 1) ≡ expr_end s
  last_instruction q = sym (a.is ∙ at_stop s nothing i h (first q))

  pub operand_begins : {o : Operand} → r ≡ Some (Takes o) → Scanned s o (i + 1)
  operand_begins {o} q = record { is = a.is ∙ at_go s nothing i h o (first q) }

-- an operand that is no number is passed at once
module _ {s : List ℕ} {i : ℕ} where
  pub bytes_passed : ((j : ℕ) → Fits w8 (get_or s j 0)) → {n : ℕ} → Scanned s (Bytes n) i → Scanned s nothing (i + n)
  bytes_passed each {n} a = record { is = a.is ∙ bytes_on s (λ j. let f = each j in omega arith) n i }

  module _ {o : Operand} (a : Scanned s o i) {q : Option ℕ} (p : Passed o s i q) where
    pub operand_missing : {r : Option ℕ} → r ≡ None → q ≡ None → r ≡ expr_end s
    operand_missing e f = e ∙ sym (a.is ∙ subst (PassedTo o s i) f p.to)

    pub operand_passed : {j : ℕ} → q ≡ Some j → Scanned s nothing j
    operand_passed {j} f = let ended : PassedTo o s i (Some j) = subst (PassedTo o s i) f p.to in record { is = a.is ∙ ended.1 }
