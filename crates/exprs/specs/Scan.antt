-- Where the first expression of some bytes ends, byte by byte. What is to come of an operand is an operand again: so many bytes, a heap type, or a number without
-- or with a sign of so many bits. Between instructions no bytes are to come.
use Rattle.std.specs.Prelude.{Bool, true, false, cond, ◌&&◌, List, [], ◌∷◌, ◌≡◌, ℕ, ◌+◌, ◌-◌, ◌≤◌, ltb, eqb, length, drop, Option, None, Some, option_map}
use Rattle.leb128.specs.Leb.{within, last_of}
use Rattle.exprs.specs.declared.Operand.{Operand}
use Rattle.exprs.specs.declared.Operand.TheVariants.{Bytes, Heap, Number}
use Rattle.exprs.specs.declared.Next.{Next}
use Rattle.exprs.specs.declared.Next.TheVariants.{End, Takes}

-- what an instruction's first byte leads to
pub record Code : Type 0 where
  pub byte : ℕ
  pub leads : Next

abbrev pub codes : List Code
codes =
    record { byte = 0x0B; leads = End }
    ∷ record { byte = 0x41; leads = Takes (Number true 32) }
    ∷ record { byte = 0x42; leads = Takes (Number true 64) }
    ∷ record { byte = 0x43; leads = Takes (Bytes 4) }
    ∷ record { byte = 0x44; leads = Takes (Bytes 8) }
    ∷ record { byte = 0x23; leads = Takes (Number false 32) }
    ∷ record { byte = 0xD0; leads = Takes Heap }
    ∷ record { byte = 0xD2; leads = Takes (Number false 32) }
    ∷ record { byte = 0x6A; leads = Takes (Bytes 0) }
    ∷ record { byte = 0x6B; leads = Takes (Bytes 0) }
    ∷ record { byte = 0x6C; leads = Takes (Bytes 0) }
    ∷ record { byte = 0x7C; leads = Takes (Bytes 0) }
    ∷ record { byte = 0x7D; leads = Takes (Bytes 0) }
    ∷ record { byte = 0x7E; leads = Takes (Bytes 0) }
    ∷ []

abbrev pub lookup : List Code → ℕ → Option Next
lookup [] b = None
lookup (c ∷ cs) b = cond (eqb b c.byte) (Some c.leads) (lookup cs b)

unfoldable pub opcode : ℕ → Option Next
opcode b = lookup codes b

-- what a byte leaves of an operand
unfoldable pub raw_left : ℕ → ℕ → Option ℕ
raw_left n b = cond (ltb b 256) (Some (n - 1)) None

-- as the reading of a number has it (leb128/specs/Leb.antt, `wide`)
unfoldable pub number_left : Bool → ℕ → ℕ → Option ℕ
number_left s n b = cond (ltb b 128) (cond (within s n (last_of s b)) (Some 0) None) (cond (ltb b 256 && ltb 7 n) (Some (n - 7)) None)

unfoldable pub is_heap : ℕ → Bool
is_heap b = cond (ltb b 0x68) false (ltb b 0x76)

abbrev pub heap_left : ℕ → Option ℕ
heap_left b = cond (is_heap b) (Some 0) None

unfoldable pub operand : Operand → ℕ → Option Operand
operand (Bytes n) b = option_map Bytes (raw_left n b)
operand Heap b = option_map Bytes (heap_left b)
operand (Number s n) b = option_map (Number s) (number_left s n b)

-- whether nothing is to come
abbrev pub is_over : Operand → Bool
is_over (Bytes n) = eqb n 0
is_over Heap = false
is_over (Number s n) = eqb n 0

abbrev pub nothing : Operand
nothing = Bytes 0

-- so many bytes later
abbrev pub plus : ℕ → Option ℕ → Option ℕ
plus i (Some j) = Some (i + j)
plus i None = None

abbrev pub still : Option Operand → Option Next
still o = option_map Takes o

abbrev pub next : Operand → ℕ → Option Next
next o b = cond (is_over o) (opcode b) (still (operand o b))

abbrev pub onward : Option Next → (Operand → Option ℕ) → Option ℕ
onward None f = None
onward (Some End) f = Some 1
onward (Some (Takes o)) f = plus 1 (f o)

unfoldable pub scan : Operand → List ℕ → Option ℕ
scan o [] = None
scan o (b ∷ s) = onward (next o b) (λ o. scan o s)

-- the operand to come behind i bytes ends behind j, or no expression is found
abbrev pub PassedTo : Operand → List ℕ → ℕ → Option ℕ → Type 0
PassedTo o s i (Some j) = (i ≤ j) × (plus i (scan o (drop i s)) ≡ plus j (scan nothing (drop j s)))
PassedTo o s i None = plus i (scan o (drop i s)) ≡ None

-- a record, so that `search` finds it among what is known
pub record Passed (o : Operand) (s : List ℕ) (i : ℕ) (r : Option ℕ) : Type 0 where
  pub to : PassedTo o s i r

abbrev pub expr_end : List ℕ → Option ℕ
expr_end s = scan nothing s

-- document 01, Answers by number: 0 where the bytes are an expression, else 5
abbrev pub whole : Option ℕ → ℕ → ℕ
whole (Some k) n = cond (eqb k n) 0 5
whole None n = 5

abbrev pub answer : List ℕ → ℕ
answer s = whole (expr_end s) (length s)
