-- What reading an item answers and leaves, for every input (document 01, Answers by number, Reading an item: 11, 10). Assumes nothing.
use Rattle.std.proofs.Math.Path.{◌≡◌, refl, sym, ap}
use Rattle.std.proofs.Common.{◌∙◌, true≢false, arith}
use Rattle.std.specs.Prelude.{◌↔◌, Bool, true, List, [], ◌∷◌, ℕ, ◌≤◌, ◌<◌, ltb, take, drop}
use Rattle.std.proofs.Math.Bool.{false}
use Rattle.std.proofs.Math.Option.{Option, none, some}
use Rattle.std.proofs.Math.ListN.{length}
use borrow.Author.Tests.{lt-ltb, le-ltb, le-leb, lt-leb}
use Rattle.format.specs.Parsed.{Parsed, fail, got}
use Rattle.format.specs.Read.{place_of}
use Rattle.format.specs.Write.{over}
use Rattle.format.specs.Answers.{answer, NoneHolds, given_exactly, accepted_exactly, settled, settled_accepts, settled_refuses, settled_exactly}
use Rattle.texts.specs.Judge.{words_most}
use Rattle.items.specs.Record.{Item, begins_in, read_in, record_of, record_some}
use Rattle.std.specs.Prelude.{Result, Ok, Err}
use Rattle.format.specs.Refusal.{number_of, one_number, numbered}
use Rattle.format.specs.declared.refusal.Refusal.{Refusal}
use Rattle.thriftbell.specs.declared.Took.{Took}

-- a number of the table, how many words were written and bytes taken, and the memory that was lent, as it is left
pub record Outcome : Type 0 where
  pub number : ℕ
  pub words : ℕ
  pub taken : ℕ
  pub memory : List ℕ

-- a refusal returns 0 for any number and changes nothing
abbrev pub refused : List ℕ → ℕ → Outcome
refused out n = record { number = n; words = 0; taken = 0; memory = out }

-- what an answer stands for
abbrev pub outcome : Result Took Refusal → List ℕ → Outcome
outcome (Ok t) ys = record { number = 0; words = t.words; taken = t.bytes; memory = ys }
outcome (Err e) ys = refused ys (number_of e)

-- it looks at the first 65,536 bytes only
abbrev pub front_of : List ℕ → List ℕ
front_of bytes = take 65536 bytes

-- the record's words, and how many bytes it took; none where no item begins the bytes
abbrev pub read_of : List ℕ → Parsed Item → Option (List ℕ × ℕ)
read_of b fail = none
read_of b (got x r) = some (record_of x, place_of b r)

abbrev pub is_nothing : Option (List ℕ × ℕ) → Bool
is_nothing none = true
is_nothing (some p) = false

abbrev pub words_of : Option (List ℕ × ℕ) → List ℕ
words_of none = []
words_of (some p) = p.0

abbrev pub taken_of : Option (List ℕ × ℕ) → ℕ
taken_of none = 0
taken_of (some p) = p.1

module _ (id : ℕ) (bytes out : List ℕ) where
  unfoldable pub words_in : Option (List ℕ × ℕ)
  words_in = read_of (front_of bytes) (read_in id (front_of bytes))

  -- no item of that section begins the bytes; output shorter than the result
  abbrev pub conditions : List (ℕ × Bool)
  conditions = (11, is_nothing words_in) ∷ (10, ltb (length out) (length (words_of words_in))) ∷ []

  abbrev pub took : Outcome
  took = record { number = 0; words = length (words_of words_in); taken = taken_of words_in; memory = over (words_of words_in) out }

  unfoldable pub reading : Outcome
  reading = settled (refused out) took (answer conditions)

  -- ---- each number is given exactly on its condition, where no earlier one's holds

  exactly : {P : Type 0} {n : ℕ} → (answer conditions ≡ n) ↔ P → (reading.number ≡ n) ↔ P
  unfolding reading
  exactly = settled_exactly (refused out) took (λ o. o.number) refl (λ n. refl)

  pub eleven_exactly : (reading.number ≡ 11) ↔ (NoneHolds [] × (is_nothing words_in ≡ true))
  eleven_exactly = exactly (given_exactly 11 (is_nothing words_in) [] (drop 1 conditions) (λ e. omega arith) refl refl)

  pub ten_exactly : (reading.number ≡ 10) ↔ (NoneHolds (take 1 conditions) × (ltb (length out) (length (words_of words_in)) ≡ true))
  ten_exactly = exactly (given_exactly 10 (ltb (length out) (length (words_of words_in))) (take 1 conditions) [] (λ e. omega arith) refl refl)

  pub zero_exactly : (reading.number ≡ 0) ↔ NoneHolds conditions
  zero_exactly = exactly (accepted_exactly conditions refl)

  -- ---- what meets it

  refuses : (n : ℕ) → (n ≡ 0 → ⊥) → answer conditions ≡ n → refused out n ≡ reading
  unfolding reading
  refuses n z e = sym (ap (settled (refused out) took) e ∙ settled_refuses (refused out) took n z)

  pub none_read : words_in ≡ none → refused out 11 ≡ reading
  none_read e = refuses 11 (λ z. omega arith) (rw e)

  pub short_out : (ws : List ℕ) (n : ℕ) → words_in ≡ some (ws, n) → length out < length ws → refused out 10 ≡ reading
  short_out ws n e h = refuses 10 (λ z. omega arith) (rw (e, lt-ltb (length out) (length ws) h))

  pub was_read : (ws : List ℕ) (n : ℕ) → words_in ≡ some (ws, n) → length ws ≤ length out
      → ◌≡◌ {A = Outcome} (record { number = 0; words = length ws; taken = n; memory = over ws out }) reading
  unfolding reading
  was_read ws n e h =
      let z : answer conditions ≡ 0 = rw (e, le-ltb (length out) (length ws) h) in
      let t : ◌≡◌ {A = Outcome} (record { number = 0; words = length ws; taken = n; memory = over ws out }) took = rw e in
      t ∙ sym (settled_accepts (refused out) took (answer conditions) z)

  -- ---- by the item that begins the bytes

  pub no_item : read_in id (front_of bytes) ≡ fail → words_in ≡ none
  unfolding words_in
  no_item e = ap (read_of (front_of bytes)) e

  pub item_read : (x : Item) (r : List ℕ) → read_in id (front_of bytes) ≡ got x r → words_in ≡ some (record_of x, place_of (front_of bytes) r)
  unfolding words_in
  item_read x r e = ap (read_of (front_of bytes)) e

  pub none_begins : begins_in id (front_of bytes) ≡ fail → words_in ≡ none
  none_begins e = no_item (rw e)

  -- its record has at most 4,096 words, or more
  module _ (x : Item) (r : List ℕ) (e : begins_in id (front_of bytes) ≡ got x r) where
    pub many_words : words_most < length (record_of x) → words_in ≡ none
    many_words h = no_item (rw (e, lt-leb (length (record_of x)) words_most h))

    pub few_words : length (record_of x) ≤ words_most → words_in ≡ some (record_of x, place_of (front_of bytes) r)
    few_words h = item_read x r (rw (e, le-leb (length (record_of x)) words_most h))

-- bytes behind the front do not matter
pub only_front : (id : ℕ) (b c out : List ℕ) → front_of b ≡ front_of c → reading id b out ≡ reading id c out
unfolding reading words_in
only_front id b c out e = rw e

module _ (id : ℕ) (bytes out : List ℕ) where
  pub some_words : is_nothing (words_in id bytes out) ≡ false → 0 < length (words_of (words_in id bytes out))
  unfolding words_in
  some_words e = go (read_in id (front_of bytes)) e
    where
      go : (m : Parsed Item) → is_nothing (read_of (front_of bytes) m) ≡ false → 0 < length (words_of (read_of (front_of bytes) m))
      go fail e = absurd (true≢false e)
      go (got x r) e = record_some x

  -- accepted, it has written some
  pub some_written : (reading id bytes out).number ≡ 0 → (reading id bytes out).words ≡ 0 → ⊥
  unfolding reading
  some_written z e =
      let h = (zero_exactly id bytes out).0 z in
      let a : answer (conditions id bytes out) ≡ 0 = (accepted_exactly (conditions id bytes out) refl).1 h in
      let o = settled_accepts (refused out) (took id bytes out) (answer (conditions id bytes out)) a in
      omega (arith, ap (λ (o : Outcome). o.words) o, some_words h.0)

-- any two answers and outputs that the contract allows are equal
module _ (id : ℕ) (bytes out : List ℕ) where
  pub one_read : {r s : Result Took Refusal} {ys zs : List ℕ} → outcome r ys ≡ reading id bytes out → outcome s zs ≡ reading id bytes out → (r ≡ s) × (ys ≡ zs)
  one_read {r} {s} {ys} {zs} p q = go r s (p ∙ sym q)
    where
      go : (r s : Result Took Refusal) → outcome r ys ≡ outcome s zs → (r ≡ s) × (ys ≡ zs)
      go (Ok a) (Ok b) e =
          let f = ap (λ (o : Outcome). o.words) e in
          let g = ap (λ (o : Outcome). o.taken) e in
          ((λ i. Ok (record { words = f i; bytes = g i })), ap (λ (o : Outcome). o.memory) e)
      go (Ok a) (Err d) e = let z : 0 ≡ number_of d = ap (λ (o : Outcome). o.number) e in let h = numbered d in absurd (omega arith)
      go (Err c) (Ok b) e = let z : number_of c ≡ 0 = ap (λ (o : Outcome). o.number) e in let h = numbered c in absurd (omega arith)
      go (Err c) (Err d) e = (ap Err (one_number c d (ap (λ (o : Outcome). o.number) e)), ap (λ (o : Outcome). o.memory) e)

-- a record of n words is put at the front of what was lent, where there is room for it, if its words stand at the front of what was tried, where there was room
pub record PutsWords (id : ℕ) (b : List ℕ) (n : ℕ) (tried old new : List ℕ) : Type 0 where
  pub puts : (x : Item) (r : List ℕ) → begins_in id b ≡ got x r → length (record_of x) ≡ n → (n ≤ length tried → take n tried ≡ record_of x)
      → n ≤ words_most → n ≤ length old → new ≡ over (record_of x) old
