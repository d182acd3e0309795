-- How far bytes are written as digits. Assumes nothing.
use Rattle.std.proofs.Common.{◌≡◌, ℕ, ◌+◌, ◌-◌, ◌*◌, ◌/◌, ◌<◌, ◌≤◌, List, [], ◌∷◌, length, drop, sym, ap, ◌∙◌, subst, arith, length-append}
use borrow.Rule.Slice.PartMut.{put_mid, mid_of}
use Rattle.format.specs.Read.{drop_end}
use Rattle.format.specs.Write.{Writes, writes, writes_not, fitted, room_then, writes_then, over, todo, todo_end}
use Rattle.format.specs.Write.{Written}
use Rattle.std.specs.Prelude.{Ok, Err}
use Rattle.format.specs.declared.refusal.Refusal.TheVariants.{OutputShort}
use Rattle.hex_text.specs.Hex.{hex_of, hex_long}

-- the characters of the bytes from place i on are still to be written
pub record Printing (b xs ys : List ℕ) (i : ℕ) : Type 0 where
  pub rest : todo (2 * i) (hex_of (drop i b)) ys ≡ over (hex_of b) xs
  pub long : length ys ≡ length xs

module _ {b xs ys : List ℕ} {i : ℕ} (p : Printing b xs ys i) where
  pub printing_done : length b ≤ i → length b ≤ length xs / 2 → Writes (hex_of b) xs ys (Ok (2 * length b))
  printing_done h room =
      let n = hex_long b in
      writes (omega (arith, n)) (sym n) (sym (todo_end (2 * i) ys) ∙ ap (λ (r : List ℕ). todo (2 * i) (hex_of r) ys) (sym (drop_end b i h)) ∙ p.rest)

pub printing_short : (b xs : List ℕ) → length xs / 2 < length b → Writes (hex_of b) xs xs (Err OutputShort)
printing_short b xs h = writes_not (omega (arith, hex_long b))

-- the digits of a number, and behind them those of some bytes
pub answer_written : (k : ℕ) (b : List ℕ) {xs ys zs : List ℕ} {r s : Written} → 2 + 2 * length b ≤ length xs → Writes (hex_of (k ∷ [])) xs ys r
    → Writes (hex_of b) (mid_of 2 (length ys - 2) ys) zs s → Writes (hex_of (k ∷ b)) xs (put_mid 2 (length ys - 2) ys zs) (Ok (2 + 2 * length b))
answer_written k b {xs} {ys} {zs} h w v =
    let first = fitted w (omega arith) in
    let room = room_then (hex_of b) first (omega (arith, length-append (hex_of (k ∷ [])) (hex_of b), hex_long b)) in
    subst (λ (n : ℕ). Writes (hex_of (k ∷ b)) xs (put_mid 2 (length ys - 2) ys zs) (Ok (2 + n))) (hex_long b) (writes_then first (fitted v room.room))
