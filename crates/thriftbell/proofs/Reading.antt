-- What the calls of a read tell of its answer: each law takes what they ensure and what was tested, in the code's order. Assumes nothing.
use mathlib.Core.Path.{◌≡◌, sym, ap, subst, ◌∙◌}
use mathlib.Core.Logic.{⊎_elim}
use mathlib.Core.List.{List}
use mathlib.Core.Option.{some}
use Prim.Native.Nat.{ℕ, ◌≤◌, ◌<◌, min}
use native.Mathlib.Omega.{arith}
use lib.ListN.{length, take, drop, length-take}
use lib.Seq.{take_all, take_at}
use Rattle.format.specs.Count.{Has, silent, no_refusal, count_in, has_count, adds_fresh}
use Rattle.format.specs.Parsed.{Parsed, got}
use Rattle.format.specs.Read.{place_of}
use Rattle.format.specs.Walk.{Walking, Walked, Found, not_found, was_found}
use Rattle.format.specs.Write.{Writes, wrote, writes_as, fits_or}
use Rattle.format.specs.declared.Done.{Done}
use Rattle.format.specs.Walk.{Walk}
use Rattle.std.specs.Prelude.{None, Some}
use Rattle.format.specs.Write.{Written}
use Rattle.texts.specs.Judge.{words_most, text_most}
use Rattle.items.specs.Record.{Item, begins_in, record_of}
use Rattle.thriftbell.specs.Read.{Outcome, outcome, refused, front_of, words_in, reading, none_read, short_out, was_read, none_begins, many_words, few_words, only_front, PutsWords}
use Rattle.std.specs.Prelude.{Ok}

-- what was appended stands at the front, where there was room
stands : {p old new : List ℕ} {u : Done} {n : ℕ} → Has p no_refusal old new u → length p ≡ n → n ≤ words_most → n ≤ length new → take n new ≡ p
stands {p} {old} {new} {u} {n} h e few room = rw (h.bytes (omega (arith, e, few)) (omega (arith, e, room, h.kept))) (take_at p (drop (length p) old) n e)

-- ---- the answer

module _ (id : ℕ) (out : List ℕ) {b old : List ℕ} {s : Done} {new : List ℕ} {r : Walk} (k : length b ≤ text_most) (h : Walking (begins_in id) record_of silent b 0 old s new r) where
  -- all of it is looked at
  all_of : front_of b ≡ b
  all_of = take_all text_most b k

  pub item_missing : r ≡ None → refused out 11 ≡ reading id b out
  item_missing e = none_read id b out (none_begins id b out (ap (begins_in id) all_of ∙ not_found h e))

  module _ (z : s.v ≡ no_refusal) {end : ℕ} {u : Done} (q : r ≡ Some (end, u)) {n : ℕ} (c : n ≡ count_in u) where
    item : Found (begins_in id) record_of silent b 0 old s new end u
    item = was_found h q

    begins : begins_in id (front_of b) ≡ got item.value item.rest
    begins = ap (begins_in id) all_of ∙ item.is

    has : Has (record_of item.value) no_refusal old new u
    has = adds_fresh item.adds z (omega arith)

    pub many_there : words_most < n → refused out 11 ≡ reading id b out
    many_there m = none_read id b out (many_words id b out item.value item.rest begins (omega (arith, c, has_count has)))

    module _ (few : n ≤ words_most) where
      long : length (record_of item.value) ≡ n
      long = omega (arith, c, has_count has)

      words : words_in id b out ≡ some (record_of item.value, end)
      words =
          few_words id b out item.value item.rest begins (omega (arith, long))
          ∙ ap (λ (m : ℕ). some (record_of item.value, m)) (ap (λ (l : List ℕ). place_of l item.rest) all_of ∙ item.place)

      pub short_there : length out < n → refused out 10 ≡ reading id b out
      short_there m = short_out id b out (record_of item.value) end words (omega (arith, m, long))

      pub words_there : {ys : List ℕ} → n ≤ length out → PutsWords id b n new out ys → outcome (Ok (record { words = n; bytes = end })) ys ≡ reading id b out
      words_there m p =
          let memory = p.puts item.value item.rest item.is long (stands has long few) few m in
          (λ j. record { number = 0; words = sym long j; taken = end; memory = memory j }) ∙ was_read id b out (record_of item.value) end words (omega (arith, m, long))

-- ---- the words

pub words_copied : {id : ℕ} {b : List ℕ} {n : ℕ} {s out ys : List ℕ} {r : Written} → n ≤ length s → Writes (take n s) out ys r → PutsWords id b n s out ys
words_copied {n = n} {s = s} m w = record { puts = λ x r e long tried few room. (wrote (writes_as (tried m) w) (omega (arith, long, room))).1 }

pub words_walked : {id n : ℕ} {s b out ys : List ℕ} {d : Done} {r : Walk} → d.v ≡ no_refusal → Walking (begins_in id) record_of silent b 0 out d ys r → PutsWords id b n s out ys
words_walked {b = b} {out = out} {ys = ys} {d = d} {r = r} z h =
    record { puts = λ x t e long tried few room. (adds_fresh (subst (λ (p : Parsed Item). Walked record_of silent b p out d ys r) e h.walked).2 z (omega arith)).bytes (omega (arith, long, few)) (omega (arith, long, room)) }

-- ---- the front of the bytes

short : (b : List ℕ) → length (take (min text_most (length b)) b) ≤ text_most
short b = simp length-take (omega arith)

front_is : (b : List ℕ) → front_of (take (min text_most (length b)) b) ≡ front_of b
front_is b =
    take_all text_most (take (min text_most (length b)) b) (short b)
    ∙ ⊎_elim (λ (h : text_most ≤ length b). let e : min text_most (length b) ≡ text_most = omega arith in rw e)
    (λ (h : length b < text_most). let e : min text_most (length b) ≡ length b = omega arith in rw e (take_all (length b) b (omega arith) ∙ sym (take_all text_most b (omega arith))))
    (fits_or text_most (length b))

module _ (b : List ℕ) (n : ℕ) (e : n ≡ min (length b) text_most) where
  cut : take n b ≡ take (min text_most (length b)) b
  cut = ap (λ (m : ℕ). take m b) (e ∙ omega arith)

  pub front_within : n ≤ length b
  front_within = omega arith

  pub front_short : length (take n b) ≤ text_most
  front_short = rw cut (short b)

  -- bytes behind it do not matter
  pub front_read : (id : ℕ) (out : List ℕ) {o : Outcome} → o ≡ reading id (take n b) out → o ≡ reading id b out
  front_read id out q = q ∙ only_front id _ b out (ap front_of cut ∙ front_is b)
