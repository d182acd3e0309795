-- How far words are read. Assumes nothing.
use Rattle.std.proofs.Common.{◌≡◌, ℕ, suc, ◌+◌, ◌-◌, ◌*◌, ◌/◌, ◌<◌, ◌≤◌, true, false, List, ◌∷◌, length, drop, set, sym, refl, ap, ◌∙◌, arith, length-set, le-leb}
use borrow.Author.Tests.{lt-leb}
use Rattle.format.specs.Parsed.{Parsed, fail, got, got_value, fail_got, bind, map}
use Rattle.format.specs.Write.{over, todo, todo_end, todo_byte}
use Rattle.frames.specs.Frames.{word32}
use Rattle.hex_text.specs.Words.{words_in, outcome, reading, Reads, words_taken}

-- ---- what reading words answers

pub reads_few : {n : ℕ} {s xs : List ℕ} → length s / 4 < n → Reads n s xs xs false
unfolding reading
reads_few {n} {s} {xs} h = record { right = go (words_in n s) refl }
  where
    go : (m : Parsed (List ℕ)) → words_in n s ≡ m → outcome false xs ≡ reading m xs
    go fail e = refl
    go (got ws r) e = absurd (omega (arith, (words_taken n s ws r e).0, (words_taken n s ws r e).1))

pub reads_short : {n : ℕ} {s xs : List ℕ} → length xs < n → Reads n s xs xs false
unfolding reading
reads_short {n} {s} {xs} h = record { right = go (words_in n s) refl }
  where
    go : (m : Parsed (List ℕ)) → words_in n s ≡ m → outcome false xs ≡ reading m xs
    go fail e = refl
    go (got ws r) e = let k : length xs < length ws = omega (arith, (words_taken n s ws r e).0) in rw (lt-leb (length ws) (length xs) k)

-- ---- how far it has come: the words that the rest of the bytes are still to be written

pub record Reading (n : ℕ) (s xs ys : List ℕ) (i : ℕ) : Type 0 where
  pub rest : map (λ ws. todo i ws ys) (words_in (n - i) (drop (4 * i) s)) ≡ map (λ ws. over ws xs) (words_in n s)
  pub long : length ys ≡ length xs

module _ {n : ℕ} {s xs ys : List ℕ} {i : ℕ} (d : Reading n s xs ys i) where
  pub reading_more : i < n → n ≤ length xs → {w : ℕ} → word32.parse (drop (4 * i) s) ≡ got w (drop (4 * i + 4) s) → Reading n s xs (set ys i w) (i + 1)
  reading_more h room {w} e =
      let m : n - i ≡ suc (n - (i + 1)) = omega arith in
      let j : 4 * (i + 1) ≡ 4 * i + 4 = omega arith in
      let t = words_in (n - (i + 1)) (drop (4 * i + 4) s) in
      let step : words_in (n - i) (drop (4 * i) s) ≡ bind t (λ ws r. got (w ∷ ws) r) = rw (m, e) in
      record {
        rest = ap (λ (k : ℕ). map (λ ws. todo (i + 1) ws (set ys i w)) (words_in (n - (i + 1)) (drop k s))) j ∙ go t ∙ ap (map (λ ws. todo i ws ys)) (sym step) ∙ d.rest;
        long = length-set ys i w ∙ d.long;
      }
    where
      go : (m : Parsed (List ℕ)) → map (λ ws. todo (i + 1) ws (set ys i w)) m ≡ map (λ ws. todo i ws ys) (bind m (λ ws r. got (w ∷ ws) r))
      go fail = refl
      go (got ws r) = ap (λ (l : List ℕ). got l r) (todo_byte i w ws ys (omega (arith, d.long)))

  pub reading_done : n ≤ i → n ≤ length xs → Reads n s xs ys true
  unfolding reading
  reading_done h k = record { right = go (words_in n s) refl (sym done ∙ d.rest) }
    where
      done : map (λ ws. todo i ws ys) (words_in (n - i) (drop (4 * i) s)) ≡ got ys (drop (4 * i) s)
      done = let z : n - i ≡ 0 = omega arith in rw z (ap (λ (l : List ℕ). got l (drop (4 * i) s)) (todo_end i ys))

      go : (m : Parsed (List ℕ)) → words_in n s ≡ m → got ys (drop (4 * i) s) ≡ map (λ ws. over ws xs) m → outcome true ys ≡ reading m xs
      go fail e q = absurd (fail_got _ ys (drop (4 * i) s) refl (sym q))
      go (got ws r) e q =
          let l : length ws ≤ length xs = omega (arith, (words_taken n s ws r e).0) in
          let y : ys ≡ over ws xs = got_value q in
          rw (le-leb (length ws) (length xs) l, y)
