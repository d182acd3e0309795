-- The scan finds the first expression, exactly where one begins the bytes. Assumes nothing.
use Rattle.std.specs.Prelude.{◌≡◌, refl, ◌⊎◌, Bool, true, false, cond, ◌&&◌, List, [], ◌∷◌, ◌++◌, ℕ, zero, suc, ◌+◌, ◌-◌, ◌≤◌, ◌<◌, ◌^◌, eqb, ltb, ℤ, pos, length, take, drop, Option, None, Some, option_map}
use Rattle.std.proofs.Common.{sym, subst, ◌∙◌, inl, inr, ⊎_elim, true≢false, append_assoc, arith, length-append, take_at, drop_at, lt-ltb, le-ltb, ltb-true, ne_eqb, eqb-true}
use Rattle.std.proofs.Math.Path.{ap}
use Rattle.format.specs.Parsed.{Parsed, fail, got, got_value, got_rest, fail_got, map}
use Rattle.format.specs.Format.{Format}
use Rattle.format.specs.Lists.{All}
use Rattle.format.specs.Write.{fits_or}
use Rattle.leb128.specs.Integers.{U, S}
use Rattle.leb128.specs.Leb.{unsigned, signed, within, last_of, join, wide}
use Rattle.leb128.proofs.LebLaws.{wide_form}
use Rattle.leb128.proofs.Standard.{u_wide, wide_u, s_wide, wide_s}
use Rattle.exprs.specs.Grammar.{Bytes as ByteRun, Instr, i32_const, i64_const, f32_const, f64_const, global_get, ref_null, ref_func, i32_add, i32_sub, i32_mul, i64_add, i64_sub, i64_mul, Expr, stop, more}
use Rattle.exprs.specs.Scan.{Code, codes, lookup, opcode, raw_left, number_left, is_heap, operand, is_over, nothing, plus, still, next, onward, scan, expr_end}
use Rattle.exprs.specs.declared.Next.{Next}
use Rattle.exprs.specs.declared.Next.TheVariants.{End, Takes}
use Rattle.exprs.specs.declared.Operand.{Operand}
use Rattle.exprs.specs.declared.Operand.TheVariants.{Bytes, Heap, Number}

-- ---- one byte

pub inside : (o : Operand) (b : ℕ) → is_over o ≡ false → next o b ≡ still (operand o b)
inside o b h = rw h

pub go_on : (o : Operand) (b : ℕ) (p : Operand) (s : List ℕ) → next o b ≡ Some (Takes p) → scan o (b ∷ s) ≡ plus 1 (scan p s)
unfolding scan
go_on o b p s e = ap (λ (x : Option Next). onward x (λ o. scan o s)) e

pub go_wrong : (o : Operand) (b : ℕ) (s : List ℕ) → next o b ≡ None → scan o (b ∷ s) ≡ None
unfolding scan
go_wrong o b s e = ap (λ (x : Option Next). onward x (λ o. scan o s)) e

-- with nothing to come, what it was is of no account
pub no_kind : (o : Operand) (s : List ℕ) → is_over o ≡ true → scan o s ≡ scan nothing s
unfolding scan
no_kind o [] h = refl
no_kind o (b ∷ s) h = rw h

pub plus_plus : (i j : ℕ) (x : Option ℕ) → plus i (plus j x) ≡ plus (i + j) x
plus_plus i j (Some m) = let e : i + (j + m) ≡ i + j + m = omega arith in ap Some e
plus_plus i j None = refl

pub plus_zero : (x : Option ℕ) → plus 0 x ≡ x
plus_zero (Some m) = let e : 0 + m ≡ m = omega arith in ap Some e
plus_zero None = refl

both_true : (a b : Bool) → (a && b) ≡ true → (a ≡ true) × (b ≡ true)
both_true true b e = (refl, e)
both_true false b e = absurd (true≢false (sym e))

-- ---- numbers: the scan goes as their reading does

-- behind what was read of l
abbrev after : List ℕ → Parsed ℤ → Option ℕ
after l fail = None
after l (got z r) = plus (length l - length r) (scan nothing r)

some_left : (n : ℕ) → 0 < n → eqb n 0 ≡ false
some_left n h = ne_eqb n 0 (λ e. omega arith)

number_next : (s : Bool) (n b : ℕ) → 0 < n → next (Number s n) b ≡ still (option_map (Number s) (number_left s n b))
unfolding operand
number_next s n b h = inside (Number s n) b (some_left n h)

-- what one byte of a number leads to
module _ (s : Bool) (n b : ℕ) (h : 0 < n) (t : List ℕ) where
  number-last : ltb b 128 ≡ true → within s n (last_of s b) ≡ true → scan (Number s n) (b ∷ t) ≡ plus 1 (scan nothing t)
  unfolding number_left
  number-last p q = go_on (Number s n) b (Number s 0) t (number_next s n b h ∙ rw (p, q)) ∙ ap (plus 1) (no_kind (Number s 0) t refl)

  number_over : ltb b 128 ≡ true → within s n (last_of s b) ≡ false → scan (Number s n) (b ∷ t) ≡ None
  unfolding number_left
  number_over p q = go_wrong (Number s n) b t (number_next s n b h ∙ rw (p, q))

  number_more : ltb b 128 ≡ false → (ltb b 256 && ltb 7 n) ≡ true → scan (Number s n) (b ∷ t) ≡ plus 1 (scan (Number s (n - 7)) t)
  unfolding number_left
  number_more p q = go_on (Number s n) b (Number s (n - 7)) t (number_next s n b h ∙ rw (p, q))

  number_long : ltb b 128 ≡ false → (ltb b 256 && ltb 7 n) ≡ false → scan (Number s n) (b ∷ t) ≡ None
  unfolding number_left
  number_long p q = go_wrong (Number s n) b t (number_next s n b h ∙ rw (p, q))

-- a byte in front of what was read
after_more : (s : Bool) (n b : ℕ) (t : List ℕ) (f : ℤ → ℤ) → after (b ∷ t) (map f (wide s n t)) ≡ plus 1 (after t (wide s n t))
after_more s n b t f = go (wide s n t) refl
  where
    go : (m : Parsed ℤ) → wide s n t ≡ m → after (b ∷ t) (map f m) ≡ plus 1 (after t m)
    go fail e = refl
    go (got z r) e =
        let w = wide_form s n t z r e in
        let l : length t ≡ length w.bytes + length r = ap length w.front ∙ length-append w.bytes r in
        let q : suc (length t) - length r ≡ 1 + (length t - length r) = omega arith in
        ap (λ (i : ℕ). plus i (scan nothing r)) q ∙ sym (plus_plus 1 (length t - length r) (scan nothing r))

number_scan : (s : Bool) (l : List ℕ) (n : ℕ) → 0 < n → scan (Number s n) l ≡ after l (wide s n l)
unfolding scan wide
number_scan s [] n h = refl
number_scan s (b ∷ t) n h = go (ltb b 128) refl (within s n (last_of s b)) refl (ltb b 256 && ltb 7 n) refl (number_scan s t)
  where
    go : (x : Bool) → ltb b 128 ≡ x → (y : Bool) → within s n (last_of s b) ≡ y → (z : Bool) → (ltb b 256 && ltb 7 n) ≡ z
        → ((m : ℕ) → 0 < m → scan (Number s m) t ≡ after t (wide s m t)) → scan (Number s n) (b ∷ t) ≡ after (b ∷ t) (wide s n (b ∷ t))
    go true p true q z r ih =
        let e : suc (length t) - length t ≡ 1 = omega arith in
        number-last s n b h t p q ∙ sym (rw (p, q, wide) (ap (λ (i : ℕ). plus i (scan nothing t)) e))
    go true p false q z r ih = number_over s n b h t p q ∙ sym (rw (p, q, wide))
    go false p y q true r ih =
        let k = (both_true (ltb b 256) (ltb 7 n) r).1 in
        let m : 0 < n - 7 = omega (arith, ltb-true 7 n k) in
        number_more s n b h t p r ∙ ap (plus 1) (ih (n - 7) m) ∙ sym (rw (p, r, wide) (after_more s (n - 7) b t (λ z. join z (b - 128))))
    go false p y q false r ih = number_long s n b h t p r ∙ sym (rw (p, r, wide))

-- ---- an operand is passed

-- o is the operand p
data Taken : Operand → List ℕ → Type 0 where
  takes_bytes : (n : ℕ) (o : List ℕ) → ByteRun n o → Taken (Bytes n) o
  takes_unsigned : (n : ℕ) (o : List ℕ) (x : ℕ) → 0 < n → U n o x → Taken (Number unsigned n) o
  takes_signed : (n : ℕ) (o : List ℕ) (z : ℤ) → 0 < n → S n o z → Taken (Number signed n) o
  takes_heap : (b : ℕ) → 0x68 ≤ b → b ≤ 0x75 → Taken Heap (b ∷ [])

pub byte_next : (n b : ℕ) → 0 < n → b < 256 → next (Bytes n) b ≡ Some (Takes (Bytes (n - 1)))
unfolding operand raw_left
byte_next n b h k = inside (Bytes n) b (some_left n h) ∙ rw (lt-ltb b 256 k)

heap_next : (b : ℕ) → 0x68 ≤ b → b ≤ 0x75 → next Heap b ≡ Some (Takes nothing)
unfolding operand is_heap
heap_next b h k = rw (le-ltb b 0x68 h, lt-ltb b 0x76 (omega arith))

pass_bytes : (n : ℕ) (o r : List ℕ) → length o ≡ n → All (λ b. b < 2 ^ 8) o → scan (Bytes n) (o ++ r) ≡ plus (length o) (scan nothing r)
pass_bytes n [] r l h = rw (← l) (sym (plus_zero (scan nothing r)))
pass_bytes n (b ∷ o) r l h =
    let q : 1 + length o ≡ suc (length o) = omega arith in
    go_on (Bytes n) b (Bytes (n - 1)) (o ++ r) (byte_next n b (omega arith) h.0)
    ∙ ap (plus 1) (pass_bytes (n - 1) o r (omega arith) h.1)
    ∙ plus_plus 1 (length o) (scan nothing r)
    ∙ ap (λ (i : ℕ). plus i (scan nothing r)) q

pass_number : (s : Bool) (n : ℕ) (o r : List ℕ) (z : ℤ) → 0 < n → wide s n (o ++ r) ≡ got z r → scan (Number s n) (o ++ r) ≡ plus (length o) (scan nothing r)
pass_number s n o r z h e =
    let q : length (o ++ r) - length r ≡ length o = omega (arith, length-append o r) in
    number_scan s (o ++ r) n h ∙ ap (after (o ++ r)) e ∙ ap (λ (i : ℕ). plus i (scan nothing r)) q

pass : {p : Operand} {o : List ℕ} → Taken p o → (r : List ℕ) → scan p (o ++ r) ≡ plus (length o) (scan nothing r)
pass (takes_bytes n o h) r = pass_bytes n o r h.long h.each
pass (takes_unsigned n o x h u) r = pass_number unsigned n o r (pos x) h (u_wide u r)
pass (takes_signed n o z h u) r = pass_number signed n o r z h (s_wide u r)
pass (takes_heap b h k) r = go_on Heap b nothing r (heap_next b h k)

-- ---- complete

pass_instr : (b : ℕ) (p : Operand) (o r : List ℕ) → opcode b ≡ Some (Takes p) → Taken p o → scan nothing (b ∷ (o ++ r)) ≡ plus (length (b ∷ o)) (scan nothing r)
pass_instr b p o r e t =
    let q : 1 + length o ≡ suc (length o) = omega arith in
    go_on nothing b p (o ++ r) e ∙ ap (plus 1) (pass t r) ∙ plus_plus 1 (length o) (scan nothing r) ∙ ap (λ (i : ℕ). plus i (scan nothing r)) q

none_taken : Taken nothing []
none_taken = takes_bytes 0 [] (record { long = refl; each = tt })

instr_passed : {a : List ℕ} → Instr a → (r : List ℕ) → scan nothing (a ++ r) ≡ plus (length a) (scan nothing r)
unfolding opcode
instr_passed (i32_const o z u) r = pass_instr 0x41 (Number signed 32) o r refl (takes_signed 32 o z (omega arith) u)
instr_passed (i64_const o z u) r = pass_instr 0x42 (Number signed 64) o r refl (takes_signed 64 o z (omega arith) u)
instr_passed (f32_const o h) r = pass_instr 0x43 (Bytes 4) o r refl (takes_bytes 4 o h)
instr_passed (f64_const o h) r = pass_instr 0x44 (Bytes 8) o r refl (takes_bytes 8 o h)
instr_passed (global_get o x u) r = pass_instr 0x23 (Number unsigned 32) o r refl (takes_unsigned 32 o x (omega arith) u)
instr_passed (ref_null b h k) r = pass_instr 0xD0 Heap (b ∷ []) r refl (takes_heap b h k)
instr_passed (ref_func o x u) r = pass_instr 0xD2 (Number unsigned 32) o r refl (takes_unsigned 32 o x (omega arith) u)
instr_passed i32_add r = pass_instr 0x6A nothing [] r refl none_taken
instr_passed i32_sub r = pass_instr 0x6B nothing [] r refl none_taken
instr_passed i32_mul r = pass_instr 0x6C nothing [] r refl none_taken
instr_passed i64_add r = pass_instr 0x7C nothing [] r refl none_taken
instr_passed i64_sub r = pass_instr 0x7D nothing [] r refl none_taken
instr_passed i64_mul r = pass_instr 0x7E nothing [] r refl none_taken

-- an expression, whatever follows it, is found with its end
pub complete : {e : List ℕ} → Expr e → (r : List ℕ) → expr_end (e ++ r) ≡ Some (length e)
unfolding scan opcode
complete stop r = refl
complete (more a e i x) r = rw (append_assoc a e r) (instr_passed i (e ++ r) ∙ ap (plus (length a)) (complete x r) ∙ ap Some (sym (length-append a e)))

-- ---- sound

nothing_at : {x : Option ℕ} (j : ℕ) → x ≡ None → x ≡ Some j → ⊥
nothing_at j p q = let z : ◌≡◌ {A = ℕ} 0 1 = cc in omega arith

plus_inv : (m : ℕ) (x : Option ℕ) (j : ℕ) → plus m x ≡ Some j → (i : ℕ) × (x ≡ Some i) × (j ≡ m + i)
plus_inv m (Some i) j e = let h : m + i ≡ j = cc in (i, refl, sym h)
plus_inv m None j e = absurd (nothing_at j refl e)

-- bytes of which P holds in front, and behind them an expression
record Cut (P : List ℕ → Type 0) (s : List ℕ) (j : ℕ) : Type 0 where
  front : List ℕ
  rest : List ℕ
  end : ℕ
  holds : P front
  split : s ≡ front ++ rest
  scanned : scan nothing rest ≡ Some end
  long : j ≡ length front + end

cut_as : {P Q : List ℕ → Type 0} {s : List ℕ} {j : ℕ} → ((o : List ℕ) → P o → Q o) → Cut P s j → Cut Q s j
cut_as f c = record { front = c.front; rest = c.rest; end = c.end; holds = f c.front c.holds; split = c.split; scanned = c.scanned; long = c.long }

cut_none : {P : List ℕ → Type 0} (s : List ℕ) (j : ℕ) → P [] → scan nothing s ≡ Some j → Cut P s j
cut_none s j p e = record { front = []; rest = s; end = j; holds = p; split = refl; scanned = e; long = omega arith }

cut_byte : {P : List ℕ → Type 0} (o : Operand) (b : ℕ) (p : Operand) (s : List ℕ) (j : ℕ) → next o b ≡ Some (Takes p) → ((i : ℕ) → scan p s ≡ Some i → Cut (λ o. P (b ∷ o)) s i)
    → scan o (b ∷ s) ≡ Some j → Cut P (b ∷ s) j
cut_byte o b p s j e f h =
    let v = plus_inv 1 (scan p s) j (sym (go_on o b p s e) ∙ h) in
    let c = f v.0 v.1 in
    record { front = b ∷ c.front; rest = c.rest; end = c.end; holds = c.holds; split = ap (λ (l : List ℕ). b ∷ l) c.split; scanned = c.scanned; long = omega (arith, v.2, c.long) }

cut_number : (s : Bool) (n : ℕ) → 0 < n → (l : List ℕ) (j : ℕ) → scan (Number s n) l ≡ Some j
    → (z : ℤ) × (r : List ℕ) × (i : ℕ) × (wide s n l ≡ got z r) × (scan nothing r ≡ Some i) × (j ≡ length l - length r + i)
cut_number s n h l j e = go (wide s n l) refl (sym (number_scan s l n h) ∙ e)
  where
    go : (m : Parsed ℤ) → wide s n l ≡ m → after l m ≡ Some j → (z : ℤ) × (r : List ℕ) × (i : ℕ) × (wide s n l ≡ got z r) × (scan nothing r ≡ Some i) × (j ≡ length l - length r + i)
    go fail p q = absurd (nothing_at j refl q)
    go (got z r) p q = let v = plus_inv (length l - length r) (scan nothing r) j q in (z, r, v.0, p, v.1, v.2)

cut_unsigned : (n : ℕ) → 0 < n → (l : List ℕ) (j : ℕ) → scan (Number unsigned n) l ≡ Some j → Cut (λ o. (x : ℕ) × U n o x) l j
cut_unsigned n h l j e =
    let (z, r, i, p, q, d) = cut_number unsigned n h l j e in
    let w = wide_u n l z r p in
    let k : length l ≡ length w.bytes + length r = ap length w.front ∙ length-append w.bytes r in
    record { front = w.bytes; rest = r; end = i; holds = (w.stands.value, w.stands.grammar); split = w.front; scanned = q; long = omega arith }

cut_signed : (n : ℕ) → 0 < n → (l : List ℕ) (j : ℕ) → scan (Number signed n) l ≡ Some j → Cut (λ o. (z : ℤ) × S n o z) l j
cut_signed n h l j e =
    let (z, r, i, p, q, d) = cut_number signed n h l j e in
    let w = wide_s n l z r p in
    let k : length l ≡ length w.bytes + length r = ap length w.front ∙ length-append w.bytes r in
    record { front = w.bytes; rest = r; end = i; holds = (z, w.stands); split = w.front; scanned = q; long = omega arith }

byte_wrong : (n b : ℕ) → 0 < n → 256 ≤ b → next (Bytes n) b ≡ None
unfolding operand raw_left
byte_wrong n b h k = inside (Bytes n) b (some_left n h) ∙ rw (le-ltb b 256 k)

cut-bytes : (n : ℕ) (l : List ℕ) (j : ℕ) → scan (Bytes n) l ≡ Some j → Cut (ByteRun n) l j
unfolding scan
cut-bytes zero l j e = cut_none l j (record { long = refl; each = tt }) e
cut-bytes (suc n) [] j e = absurd (nothing_at j refl e)
cut-bytes (suc n) (b ∷ l) j e =
    ⊎_elim (λ (h : 256 ≤ b). absurd (nothing_at j (go_wrong (Bytes (suc n)) b l (byte_wrong (suc n) b (omega arith) h)) e)) (there (cut-bytes n l)) (fits_or 256 b)
  where
    there : ((i : ℕ) → scan (Bytes n) l ≡ Some i → Cut (ByteRun n) l i) → b < 256 → Cut (ByteRun (suc n)) (b ∷ l) j
    there f h =
        let q : suc n - 1 ≡ n = omega arith in
        cut_byte (Bytes (suc n)) b (Bytes n) l j (byte_next (suc n) b (omega arith) h ∙ ap (λ (m : ℕ). Some (Takes (Bytes m))) q)
        (λ i d. cut_as (λ o p. record { long = ap suc p.long; each = (h, p.each) }) (f i d)) e

heap_wrong : (b : ℕ) → (b < 0x68) ⊎ (0x76 ≤ b) → next Heap b ≡ None
unfolding operand is_heap
heap_wrong b (inl h) = rw (lt-ltb b 0x68 h)
heap_wrong b (inr h) = rw (le-ltb b 0x68 (omega arith), le-ltb b 0x76 h)

abbrev HeapByte : List ℕ → Type 0
HeapByte o = (b : ℕ) × (0x68 ≤ b) × (b ≤ 0x75) × (o ≡ b ∷ [])

cut_heap : (l : List ℕ) (j : ℕ) → scan Heap l ≡ Some j → Cut HeapByte l j
unfolding scan
cut_heap [] j e = absurd (nothing_at j refl e)
cut_heap (b ∷ l) j e = ⊎_elim (λ (h : 0x68 ≤ b). ⊎_elim (λ (k : 0x76 ≤ b). wrong (inr k)) (λ (k : b < 0x76). right h k) (fits_or 0x76 b)) (λ (h : b < 0x68). wrong (inl h)) (fits_or 0x68 b)
  where
    wrong : (b < 0x68) ⊎ (0x76 ≤ b) → Cut HeapByte (b ∷ l) j
    wrong h = absurd (nothing_at j (go_wrong Heap b l (heap_wrong b h)) e)

    right : 0x68 ≤ b → b < 0x76 → Cut HeapByte (b ∷ l) j
    right h k = cut_byte Heap b nothing l j (heap_next b h (omega arith)) (λ i d. cut_none l i (b, h, omega arith, refl) d) e

-- what an instruction's first byte leads to makes an instruction, or ends the expression
abbrev Leads : ℕ → Next → Type 0
Leads b End = b ≡ 0x0B
Leads b (Takes p) = (l : List ℕ) (j : ℕ) → scan p l ≡ Some j → Cut (λ o. Instr (b ∷ o)) l j

-- and where it leads nowhere there is nothing to say
abbrev LeadsIf : ℕ → Option Next → Type 0
LeadsIf b None = Unit {0}
LeadsIf b (Some x) = Leads b x

plain : {b : ℕ} → Instr (b ∷ []) → (l : List ℕ) (j : ℕ) → scan nothing l ≡ Some j → Cut (λ o. Instr (b ∷ o)) l j
plain i l j e = cut_none l j i e

each_leads : All (λ (c : Code). Leads c.byte c.leads) codes
each_leads = (
  refl,
  (
    λ l j e. cut_as (λ o p. i32_const o p.0 p.1) (cut_signed 32 (omega arith) l j e),
    (
      λ l j e. cut_as (λ o p. i64_const o p.0 p.1) (cut_signed 64 (omega arith) l j e),
      (
        λ l j e. cut_as (λ o p. f32_const o p) (cut-bytes 4 l j e),
        (
          λ l j e. cut_as (λ o p. f64_const o p) (cut-bytes 8 l j e),
          (
            λ l j e. cut_as (λ o p. global_get o p.0 p.1) (cut_unsigned 32 (omega arith) l j e),
            (
              λ l j e. cut_as (λ o p. subst (λ (q : List ℕ). Instr (0xD0 ∷ q)) (sym p.3) (ref_null p.0 p.1 p.2)) (cut_heap l j e),
              (
                λ l j e. cut_as (λ o p. ref_func o p.0 p.1) (cut_unsigned 32 (omega arith) l j e),
                (plain i32_add, (plain i32_sub, (plain i32_mul, (plain i64_add, (plain i64_sub, (plain i64_mul, tt)))))),
              ),
            ),
          ),
        ),
      ),
    ),
  ),
)

lookup_leads : (cs : List Code) (b : ℕ) → All (λ (c : Code). Leads c.byte c.leads) cs → LeadsIf b (lookup cs b)
lookup_leads [] b h = tt
lookup_leads (c ∷ cs) b h = go (eqb b c.byte) refl (lookup_leads cs b h.1)
  where
    go : (t : Bool) → eqb b c.byte ≡ t → LeadsIf b (lookup cs b) → LeadsIf b (cond t (Some c.leads) (lookup cs b))
    go true e d = subst (λ (n : ℕ). Leads n c.leads) (sym (eqb-true b c.byte e)) h.0
    go false e d = d

opcode_leads : (b : ℕ) → LeadsIf b (opcode b)
unfolding opcode
opcode_leads b = lookup_leads codes b each_leads

-- an expression at the front of s, of j bytes
pub record Front (s : List ℕ) (j : ℕ) : Type 0 where
  pub bytes : List ℕ
  pub rest : List ℕ
  pub expr : Expr bytes
  pub split : s ≡ bytes ++ rest
  pub long : j ≡ length bytes

sound_by : (m : ℕ) (s : List ℕ) (j : ℕ) → length s ≤ m → scan nothing s ≡ Some j → Front s j
unfolding scan
sound_by zero [] j l e = absurd (nothing_at j refl e)
sound_by zero (b ∷ t) j l e = absurd (omega arith)
sound_by (suc m) [] j l e = absurd (nothing_at j refl e)
sound_by (suc m) (b ∷ t) j l e = go (opcode b) refl (opcode_leads b) e (sound_by m)
  where
    go : (x : Option Next) → opcode b ≡ x → LeadsIf b x → onward x (λ o. scan o t) ≡ Some j → ((r : List ℕ) (i : ℕ) → length r ≤ m → scan nothing r ≡ Some i → Front r i) → Front (b ∷ t) j
    go (Some End) p q d ih = let h : 1 ≡ j = cc in record { bytes = 0x0B ∷ []; rest = t; expr = stop; split = ap (λ (n : ℕ). n ∷ t) q; long = sym h }
    go None p q d ih = absurd (nothing_at j refl d)
    go (Some (Takes o)) p q d ih =
        let v = plus_inv 1 (scan o t) j d in
        let c = q t v.0 v.1 in
        let z : length t ≡ length c.front + length c.rest = ap length c.split ∙ length-append c.front c.rest in
        let f = ih c.rest c.end (omega arith) c.scanned in
        record {
          bytes = (b ∷ c.front) ++ f.bytes;
          rest = f.rest;
          expr = more (b ∷ c.front) f.bytes c.holds f.expr;
          split = ap (λ (r : List ℕ). b ∷ r) (c.split ∙ ap (λ (r : List ℕ). c.front ++ r) f.split ∙ sym (append_assoc c.front f.bytes f.rest));
          long = omega (arith, v.2, c.long, f.long, length-append c.front f.bytes);
        }

-- what is found is an expression at the front
pub sound : (s : List ℕ) (j : ℕ) → expr_end s ≡ Some j → Front s j
sound s j e = sound_by (length s) s j (omega arith) e

-- ---- an expression as a format: its bytes

abbrev pub at_end : List ℕ → Option ℕ → Parsed (List ℕ)
at_end s (Some j) = got (take j s) (drop j s)
at_end s None = fail

pub expr_back : (e r : List ℕ) → Expr e → at_end (e ++ r) (expr_end (e ++ r)) ≡ got e r
expr_back e r x = rw (complete x r, take_at e r (length e) refl, drop_at e r (length e) refl)

pub expr_only : (s e r : List ℕ) → at_end s (expr_end s) ≡ got e r → Expr e × (s ≡ e ++ r)
expr_only s e r h = go (expr_end s) refl h
  where
    go : (x : Option ℕ) → expr_end s ≡ x → at_end s x ≡ got e r → Expr e × (s ≡ e ++ r)
    go None p q = absurd (fail_got _ e r refl q)
    go (Some j) p q =
        let f = sound s j p in
        let t : take j s ≡ f.bytes = ap (take j) f.split ∙ take_at f.bytes f.rest j (sym f.long) in
        let d : drop j s ≡ f.rest = ap (drop j) f.split ∙ drop_at f.bytes f.rest j (sym f.long) in
        let a : f.bytes ≡ e = sym t ∙ got_value q in
        let b : f.rest ≡ r = sym d ∙ got_rest q in
        (subst Expr a f.expr, f.split ∙ ap (λ (l : List ℕ). l ++ f.rest) a ∙ ap (λ (l : List ℕ). e ++ l) b)

abbrev pub expr : Format (List ℕ)
expr = record { Ok = Expr; print = λ e. e; parse = λ s. at_end s (expr_end s); back = expr_back; only = expr_only }
