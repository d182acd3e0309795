-- What writing answers and leaves: the one vocabulary of every writer into the rest of a lent buffer. Assumes nothing.
use Rattle.std.specs.Prelude.{◌≡◌, refl, ◌↔◌, ◌⊎◌, Bool, true, false, cond, List, [], ◌∷◌, ◌++◌, ℕ, suc, ◌+◌, ◌-◌, ◌≤◌, ◌<◌, leb, length, take, drop, set}
use Rattle.std.proofs.Common.{sym, ◌∙◌, ap, subst, inl, inr, ⊎_elim, append_assoc, append-nil, le_refl, zero-add, add-zero, add_assoc, arith, length-append, length-drop, take-append-drop, take_at, drop_at, drop-drop, take_all, length-take-le, take-suc-set, drop-set-lt, le-leb, leb-true, leb-false}
use Rattle.std.proofs.Math.Seq.{drop-length, drop-append-add}
use Rattle.std.proofs.lemmas.Bool.{lt-leb}
use borrow.Rule.Slice.PartMut.{put_mid, mid_of, Post-is}
use Rattle.std.specs.Prelude.{Result, Ok, Err}
use Rattle.format.specs.Refusal.{number_of, one_number, numbered}
use Rattle.format.specs.declared.refusal.Refusal.{Refusal}
use Rattle.format.specs.declared.refusal.Refusal.TheVariants.{OutputShort}

abbrev pub Written : Type 0
Written = Result ℕ Refusal

-- document 01, Answers by number: a number of the table, the length or 0, and the memory that was lent, as it is left
pub record OutcomeOf (A : Type 0) : Type 0 where
  pub number : ℕ
  pub value : ℕ
  pub memory : List A

abbrev pub Outcome : Type 0
Outcome = OutcomeOf ℕ

-- what an answer stands for: accepted, 0, with the length; or the number of a refusal
abbrev pub outcome : {A : Type 0} → Written → List A → OutcomeOf A
outcome (Ok n) ys = record { number = 0; value = n; memory = ys }
outcome (Err e) ys = record { number = number_of e; value = 0; memory = ys }

-- b over the front of xs: past the result, xs keeps what it held
abbrev pub over : {A : Type 0} → List A → List A → List A
over b xs = b ++ drop (length b) xs

-- what is right where b is to be written into xs: a refusal changes nothing
unfoldable pub writing : {A : Type 0} → List A → List A → OutcomeOf A
writing b xs =
    cond (leb (length b) (length xs))
    (record { number = 0; value = length b; memory = over b xs })
    (record { number = 10; value = 0; memory = xs })

-- every writer's contract: it was lent xs, answered r and left ys
pub record Writes {A : Type 0} (b xs ys : List A) (r : Written) : Type 0 where
  pub right : outcome r ys ≡ writing b xs

-- an answer and the memory are told by what they stand for
pub same_outcome : {A : Type 0} (r s : Written) (ys zs : List A) → outcome r ys ≡ outcome s zs → (r ≡ s) × (ys ≡ zs)
same_outcome (Ok n) (Ok m) ys zs e = (ap Ok (ap (λ (o : OutcomeOf _). o.value) e), ap (λ (o : OutcomeOf _). o.memory) e)
same_outcome (Ok n) (Err d) ys zs e = let z : 0 ≡ number_of d = ap (λ (o : OutcomeOf _). o.number) e in let p = numbered d in absurd (omega arith)
same_outcome (Err c) (Ok m) ys zs e = let z : number_of c ≡ 0 = ap (λ (o : OutcomeOf _). o.number) e in let p = numbered c in absurd (omega arith)
same_outcome (Err c) (Err d) ys zs e = (ap Err (one_number c d (ap (λ (o : OutcomeOf _). o.number) e)), ap (λ (o : OutcomeOf _). o.memory) e)

-- any two outcomes that it allows are equal
pub one_outcome : {A : Type 0} {b xs ys zs : List A} {r s : Written} → Writes b xs ys r → Writes b xs zs s → (r ≡ s) × (ys ≡ zs)
one_outcome {ys = ys} {zs = zs} {r = r} {s = s} p q = same_outcome r s ys zs (p.right ∙ sym q.right)

-- ---- where the bytes fit, and where they do not

pub fits_or : (m n : ℕ) → (m ≤ n) ⊎ (n < m)
fits_or m n = go (leb m n) refl
  where
    go : (t : Bool) → leb m n ≡ t → (m ≤ n) ⊎ (n < m)
    go true e = inl (leb-true m n e)
    go false e = inr (leb-false m n e)

writing_fits : {A : Type 0} (b xs : List A) → length b ≤ length xs → writing b xs ≡ outcome (Ok (length b)) (over b xs)
unfolding writing
writing_fits b xs h = rw (le-leb (length b) (length xs) h)

writing_short : {A : Type 0} (b xs : List A) → length xs < length b → writing b xs ≡ outcome (Err OutputShort) xs
unfolding writing
writing_short b xs h = rw (lt-leb (length b) (length xs) h)

-- how a writer meets its contract
pub writes : {A : Type 0} {b xs ys : List A} {n : ℕ} → length b ≤ length xs → n ≡ length b → ys ≡ over b xs → Writes b xs ys (Ok n)
writes {b} {xs} {ys} {n} h e m = record { right = rw (writing_fits b xs h, e, m) }

pub writes_not : {A : Type 0} {b xs : List A} → length xs < length b → Writes b xs xs (Err OutputShort)
writes_not {b} {xs} h = record { right = sym (writing_short b xs h) }

-- one byte, by a store
pub write_one : {A : Type 0} (b : A) (xs : List A) → 0 < length xs → Writes (b ∷ []) xs (set xs 0 b) (Ok 1)
write_one b [] h = absurd (omega arith)
write_one b (x ∷ xs) h = writes (omega arith) refl refl

-- what a writer did, where there is room
pub wrote : {A : Type 0} {b xs ys : List A} {r : Written} → Writes b xs ys r → length b ≤ length xs → (r ≡ Ok (length b)) × (ys ≡ over b xs)
wrote w h = one_outcome w (writes h refl refl)

-- what its answer tells
pub told_length : {A : Type 0} {b xs ys : List A} {r : Written} {n : ℕ} → Writes b xs ys r → r ≡ Ok n → (n ≡ length b) × (length b ≤ length xs) × (ys ≡ over b xs)
told_length {b} {xs} {ys} {r} {n} w e = ⊎_elim fit (λ h. absurd (never h)) (fits_or (length b) (length xs))
  where
    fit : length b ≤ length xs → (n ≡ length b) × (length b ≤ length xs) × (ys ≡ over b xs)
    fit h = let d = wrote w h in (cc d.0, h, d.1)

    never : length xs < length b → ⊥
    never h = let z : ◌≡◌ {A = ℕ} 0 1 = cc (one_outcome w (writes_not h)).0 in omega arith

pub told_short : {A : Type 0} {b xs ys : List A} {r : Written} {d : Refusal} → Writes b xs ys r → r ≡ Err d → (length xs < length b) × (ys ≡ xs)
told_short {b} {xs} {ys} {r} w e = ⊎_elim (λ h. absurd (never h)) (λ h. (h, (one_outcome w (writes_not h)).1)) (fits_or (length b) (length xs))
  where
    never : length b ≤ length xs → ⊥
    never h = let z : ◌≡◌ {A = ℕ} 0 1 = cc (wrote w h).0 in omega arith

-- 10 is given exactly where the output is shorter than the result
pub ten_exactly : {A : Type 0} {b xs ys : List A} {r : Written} → Writes b xs ys r → ((outcome r ys).number ≡ 10) ↔ (length xs < length b)
ten_exactly {b} {xs} {ys} {r} w = (λ e. ⊎_elim (λ h. absurd (fit e h)) (λ h. h) (fits_or (length b) (length xs)), λ h. ap (λ (o : OutcomeOf _). o.number) (w.right ∙ writing_short b xs h))
  where
    fit : (outcome r ys).number ≡ 10 → length b ≤ length xs → ⊥
    fit e h = let z : (outcome r ys).number ≡ 0 = ap (λ (o : OutcomeOf _). o.number) (w.right ∙ writing_fits b xs h) in omega arith

-- and 0 exactly where there is room for it
pub zero_exactly : {A : Type 0} {b xs ys : List A} {r : Written} → Writes b xs ys r → ((outcome r ys).number ≡ 0) ↔ (length b ≤ length xs)
zero_exactly {b} {xs} {ys} {r} w = (λ e. ⊎_elim (λ h. h) (λ h. absurd (short e h)) (fits_or (length b) (length xs)), λ h. ap (λ (o : OutcomeOf _). o.number) (w.right ∙ writing_fits b xs h))
  where
    short : (outcome r ys).number ≡ 0 → length xs < length b → ⊥
    short e h = let z = (ten_exactly w).1 h in omega arith

-- ---- the rest of a lent buffer, `&mut out[n..]`: what is lent, and what the whole is when it has come back

pub rest_lent : {A : Type 0} (n : ℕ) (xs : List A) → mid_of n (length xs - n) xs ≡ drop n xs
rest_lent n xs = take_all (length xs - n) (drop n xs) (simp length-drop (le_refl (length xs - n)))

pub rest_back : {A : Type 0} (n : ℕ) (xs ys : List A) → n ≤ length xs → put_mid n (length xs - n) xs ys ≡ take n xs ++ ys
rest_back n xs ys h = simp (Post-is n (length xs) xs h, drop-length, append-nil)

-- ---- writing forwards, where there is room for all: the list as it will be once the bytes b, which are still to be written from place i on, are.
-- A store, or a writer that is lent the rest, takes its bytes off the front of b and leaves what will be as it is

abbrev pub todo : {A : Type 0} → ℕ → List A → List A → List A
todo i b ys = take i ys ++ (b ++ drop (i + length b) ys)

-- at the start all is to be done, at the end nothing
pub todo_start : {A : Type 0} (b xs : List A) → todo 0 b xs ≡ over b xs
todo_start b xs = rw zero-add

pub todo_end : {A : Type 0} (i : ℕ) (ys : List A) → todo i [] ys ≡ ys
todo_end i ys = rw (add-zero, take-append-drop)

pub length_todo : {A : Type 0} (i : ℕ) (b ys : List A) → i + length b ≤ length ys → length (todo i b ys) ≡ length ys
length_todo i b ys h = simp (length-append, length-drop, length-take-le i ys (omega arith)) (omega arith)

-- a byte, by a store
pub todo_byte : {A : Type 0} (i : ℕ) (b : A) (bs ys : List A) → i < length ys → todo (i + 1) bs (set ys i b) ≡ todo i (b ∷ bs) ys
todo_byte i b bs ys h =
    let e : i + 1 ≡ suc i = omega arith in
    let f : suc i + length bs ≡ i + suc (length bs) = omega arith in
    rw (e, take-suc-set ys i b h, append_assoc, drop-set-lt (suc i + length bs) ys i b (omega arith), f)

todo_over : {A : Type 0} (i : ℕ) (a b ys : List A) → i + length a ≤ length ys
    → todo (i + length a) b (take i ys ++ over a (drop i ys)) ≡ todo i (a ++ b) ys
todo_over i a b ys h =
    let p = take i ys ++ a in
    let n = i + length a in
    let long : length p ≡ n = simp (length-append, length-take-le i ys (omega arith)) in
    rw (
      drop-drop,
      ← (append_assoc (take i ys) a (drop n ys)),
      take_at p (drop n ys) n long,
      ← long,
      drop-append-add p (drop (length p) ys) (length b),
      drop-drop,
      long,
      length-append,
      append_assoc,
      append_assoc,
      ← (add_assoc i (length a) (length b)),
    )

-- a writer of a that is lent the rest: what the whole is then
rest_wrote : {A : Type 0} (i : ℕ) (a ys : List A) {r : Written} {zs : List A} → Writes a (mid_of i (length ys - i) ys) zs r → i + length a ≤ length ys
    → put_mid i (length ys - i) ys zs ≡ take i ys ++ over a (drop i ys)
rest_wrote i a ys {r} {zs} w h =
    let v : Writes a (drop i ys) zs r = rw rest_lent at w in
    let room : length a ≤ length (drop i ys) = simp length-drop (omega arith) in
    rw (rest_back i ys zs (omega arith), (wrote v room).1)

pub todo_part : {A : Type 0} (i : ℕ) (a b ys : List A) {r : Written} {zs : List A} → Writes a (mid_of i (length ys - i) ys) zs r → i + length a ≤ length ys
    → todo (i + length a) b (put_mid i (length ys - i) ys zs) ≡ todo i (a ++ b) ys
todo_part i a b ys w h = rw (rest_wrote i a ys w h) (todo_over i a b ys h)

-- two writers, the second behind the first
pub todo_two : {A : Type 0} (i : ℕ) (a b xs : List A) {r s : Written} {zs ws : List A} → i + length a + length b ≤ length xs → Writes a (mid_of i (length xs - i) xs) zs r
    → Writes b (mid_of (i + length a) (length (put_mid i (length xs - i) xs zs) - (i + length a)) (put_mid i (length xs - i) xs zs)) ws s
    → put_mid (i + length a) (length (put_mid i (length xs - i) xs zs) - (i + length a)) (put_mid i (length xs - i) xs zs) ws ≡ todo i (a ++ b) xs
todo_two {A} i a b xs {r} {s} {zs} {ws} h w v =
    let ys = put_mid i (length xs - i) xs zs in
    let long : length ys ≡ length xs =
    rw (rest_wrote i a xs w (omega arith)) (simp (length-append, length-drop, length-take-le i xs (omega arith)) (omega arith)) in
    sym (todo_end (i + length a + length b) _)
    ∙ todo_part (i + length a) b [] ys v (omega arith)
    ∙ ap (λ (l : List A). todo (i + length a) l ys) (append-nil b)
    ∙ todo_part i a b xs w (omega arith)

-- ---- writers that there is room for, one behind the other

pub fitted : {A : Type 0} {b xs ys : List A} {r : Written} → Writes b xs ys r → length b ≤ length xs → Writes b xs ys (Ok (length b))
fitted w h = writes h refl (wrote w h).1

pub writes_as : {A : Type 0} {a b xs ys : List A} {r : Written} → a ≡ b → Writes a xs ys r → Writes b xs ys r
writes_as {A = A} {xs = xs} {ys = ys} {r = r} e w = subst (λ (l : List A). Writes l xs ys r) e w

-- the second is lent what is behind the first
pub writes_then : {A : Type 0} {a b xs ys zs : List A} {n m : ℕ} → Writes a xs ys (Ok n) → Writes b (mid_of n (length ys - n) ys) zs (Ok m)
    → Writes (a ++ b) xs (put_mid n (length ys - n) ys zs) (Ok (n + m))
writes_then {a} {b} {xs} {ys} {zs} {n} {m} w v =
    let (k, h, e) = told_length w refl in
    let (l, p, _) = told_length v refl in
    let long : length ys ≡ length xs = ap length e ∙ simp (length-append, length-drop) (omega arith) in
    let room : n + length b ≤ length ys = omega (arith, ap length (rest_lent n ys), length-drop n ys) in
    let t : take n ys ≡ a = ap (take n) e ∙ take_at a (drop (length a) xs) n (sym k) in
    let d : drop n ys ≡ drop (length a) xs = ap (drop n) e ∙ drop_at a (drop (length a) xs) n (sym k) in
    writes (simp length-append (omega arith)) (simp length-append (omega arith))
    (rest_wrote n b ys v room ∙ rw (t, d, drop-drop, length-append) (sym (append_assoc a b (drop (length a + length b) xs))))

-- and there is room for it
pub record Room {A : Type 0} (b ys : List A) (n : ℕ) : Type 0 where
  pub start : n ≤ length ys
  pub room : length b ≤ length (mid_of n (length ys - n) ys)

pub room_then : {A : Type 0} {a xs ys : List A} {n : ℕ} (b : List A) → Writes a xs ys (Ok n) → length (a ++ b) ≤ length xs → Room b ys n
room_then {a} {xs} {ys} {n} b w h =
    let (k, _, e) = told_length w refl in
    let l : length (a ++ b) ≡ length a + length b = length-append a b in
    let long : length ys ≡ length xs = ap length e ∙ simp (length-append, length-drop) (omega arith) in
    record { start = omega arith; room = omega (arith, ap length (rest_lent n ys), length-drop n ys) }

pub same_long : {A : Type 0} {a xs ys : List A} {n : ℕ} → Writes a xs ys (Ok n) → length ys ≡ length xs
same_long w = let (_, h, e) = told_length w refl in ap length e ∙ simp (length-append, length-drop) (omega arith)

-- what was written is no longer than what was lent
pub within : {A : Type 0} {a xs ys : List A} {n : ℕ} → Writes a xs ys (Ok n) → n ≤ length xs
within w = let (k, h, _) = told_length w refl in omega arith
