-- The parts of a line's frame, as they are read. Assumes nothing.
use mathlib.Core.Path.{◌≡◌, refl, sym, ap, ◌∙◌}
use mathlib.Core.Bool.{Bool, true, false, not}
use mathlib.Core.Option.{none, some}
use mathlib.Core.List.{List, [], ◌∷◌}
use Prim.Native.Nat.{ℕ, ◌+◌, ◌*◌, ◌-◌, ◌≤◌, ◌<◌}
use native.Mathlib.Nat.{mul-le-mul_right}
use native.Mathlib.Omega.{arith}
use lib.Dec.{leb}
use lib.ListN.{length, take, drop, get_or, length-append, length-drop}
use lib.Seq.{take_at, drop_at, drop-drop, drop-cons}
use mir.Syntax.{w8}
use mir.Val.{Fits}
use borrow.Author.Tests.{leb-true, lt-ltb, eq-eqb, ne_eqb, not-true, not-false}
use borrow.Rule.Slice.PartMut.{mid_of}
use Rattle.format.specs.Parsed.{Parsed, fail, got, bind}
use Rattle.format.specs.Lists.{prints, times_only}
use Rattle.format.specs.Write.{rest_lent}
use Rattle.frames.specs.Frames.{word32}
use Rattle.hex_text.specs.Words.{words_in, Reads, told_words, told_missing, words_long, words_taken}
use Rattle.hex_text.specs.Frame.{adds, finish_told, word16, word_list, whole, frame_of}

-- ---- the kind

pub kind_none : (s : List ℕ) → length s < 1 → frame_of s ≡ none
unfolding frame_of
kind_none [] h = refl
kind_none (x ∷ s) h = absurd (omega arith)

module _ (s : List ℕ) (h : 1 ≤ length s) where
  pub kind_add : get_or s 0 0 ≡ 1 → frame_of s ≡ whole adds (word_list.parse (drop 1 s))
  unfolding frame_of
  kind_add e = ap frame_of (drop-cons s 0 0 (omega arith)) ∙ rw (eq-eqb (get_or s 0 0) 1 e)

  module _ (d : get_or s 0 0 ≡ 1 → ⊥) where
    pub kind_finish : get_or s 0 0 ≡ 2 → frame_of s ≡ whole finish_told (word32.parse (drop 1 s))
    unfolding frame_of
    kind_finish e = ap frame_of (drop-cons s 0 0 (omega arith)) ∙ rw (ne_eqb (get_or s 0 0) 1 d, eq-eqb (get_or s 0 0) 2 e)

    pub kind_other : (get_or s 0 0 ≡ 2 → ⊥) → frame_of s ≡ none
    unfolding frame_of
    kind_other e = ap frame_of (drop-cons s 0 0 (omega arith)) ∙ rw (ne_eqb (get_or s 0 0) 1 d, ne_eqb (get_or s 0 0) 2 e)

-- ---- the count, the words and the text

abbrev pub count_in : List ℕ → ℕ
count_in s = get_or s 0 0 + 256 * get_or s 1 0

module _ (s : List ℕ) (h : 2 ≤ length s) (bytes : (i : ℕ) → Fits w8 (get_or s i 0)) where
  count_found : word16.parse s ≡ got (count_in s) (drop 2 s)
  count_found =
      ap word16.parse (drop-cons s 0 0 (omega arith) ∙ ap (λ (l : List ℕ). get_or s 0 0 ∷ l) (drop-cons s 1 0 (omega arith)))
      ∙ rw (lt-ltb (get_or s 0 0) 256 (bytes 0).fits, lt-ltb (get_or s 1 0) 256 (bytes 1).fits)

  words_found : (m : Parsed (List ℕ)) → words_in (count_in s) (drop 2 s) ≡ m → word_list.parse s ≡ m
  words_found m e = ap (λ (m : Parsed ℕ). bind m words_in) count_found ∙ e

  -- what reading the words told: t, and the words at the front of ys
  module _ {xs ys : List ℕ} {t : Bool} (d : Reads (count_in s) (mid_of 2 (length s - 2) s) xs ys t) where
    read : Reads (count_in s) (drop 2 s) xs ys t
    read = let e = rest_lent 2 s in rw e at d

    -- there is room for all that such few bytes hold
    pub words_missing : length xs ≡ 1024 → length s ≤ 4096 → not t ≡ true → whole adds (word_list.parse s) ≡ none
    words_missing l few e = ap (whole adds) (words_found fail (go (words_in (count_in s) (drop 2 s)) refl))
      where
        go : (m : Parsed (List ℕ)) → words_in (count_in s) (drop 2 s) ≡ m → words_in (count_in s) (drop 2 s) ≡ fail
        go fail p = p
        go (got ws rest) p = told_missing read (not-true t e) (omega (arith, (words_taken (count_in s) (drop 2 s) ws rest p).1, length-drop 2 s))

    -- the text is behind the words
    module _ (e : not t ≡ false) where
      record Found : Type 0 where
        words : List ℕ
        is : word_list.parse s ≡ got words (drop (2 + 4 * count_in s) s)
        listed : take (count_in s) ys ≡ words
        few : count_in s ≤ length ys
        room : 2 + 4 * count_in s ≤ length s

      found : Found
      found =
          let (ws, rest, p, y) = told_words read (not-false t e) in
          let (k, _, q) = times_only word32 (count_in s) (drop 2 s) ws rest p in
          let l : length (prints word32.print ws) ≡ 4 * count_in s = words_long ws ∙ ap (λ (n : ℕ). 4 * n) k in
          let b : drop (4 * count_in s) (drop 2 s) ≡ rest = ap (drop (4 * count_in s)) q ∙ drop_at (prints word32.print ws) rest (4 * count_in s) l in
          record {
            words = ws;
            is = words_found (got ws rest) p ∙ ap (got ws) (sym b ∙ drop-drop (4 * count_in s) 2 s);
            listed = ap (take (count_in s)) y ∙ take_at ws _ (count_in s) k;
            few = omega (arith, ap length y, length-append ws (drop (length ws) xs));
            room = omega (arith, ap length q, length-append (prints word32.print ws) rest, length-drop 2 s);
          }

      pub words_within : count_in s ≤ length ys
      words_within = found.few

      -- whatever each of the words takes, up to four bytes
      module _ (j : ℕ) (u : leb j 4 ≡ true) where
        pub text_within : 2 + j * count_in s ≤ length s
        text_within = omega (arith, found.room, mul-le-mul_right (count_in s) (leb-true j 4 u))

      pub frame_told : some (adds (take (count_in s - 0) (drop 0 ys)) (mid_of (2 + 4 * count_in s) (length s - (2 + 4 * count_in s)) s)) ≡ whole adds (word_list.parse s)
      frame_told =
          let z : count_in s - 0 ≡ count_in s = omega arith in
          let w : take (count_in s - 0) (drop 0 ys) ≡ found.words = rw z found.listed in
          (λ i. some (adds (w i) (rest_lent (2 + 4 * count_in s) s i))) ∙ sym (ap (whole adds) found.is)
