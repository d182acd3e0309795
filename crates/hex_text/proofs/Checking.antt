-- The bytes that a line holds, and the last of them. Assumes nothing.
use Rattle.std.proofs.Common.{◌≡◌, ℕ, ◌-◌, ◌<◌, ◌≤◌, List, length, get_or, take, drop, sym, ap, ◌∙◌, arith, length-append, w8, Fits}
use mathlib.Core.Option.{some}
use lib.ListN.{get_or-append}
use lib.Seq.{take-append-le}
use Rattle.format.specs.Write.{over}
use Rattle.hex_text.specs.Hex.{line_bytes}
use Rattle.hex_text.specs.Sum.{check_of}
use Rattle.hex_text.specs.Frame.{frame_of}
use Rattle.hex_text.specs.Line.{digits_most}
use Rattle.hex_text.specs.Decode.{Decodes, told_bytes, told_no}
use Rattle.hex_text.specs.Held.{Holds, holds_none, holds_some, too_long, no_bytes, empty, right_sum, wrong_sum}
use Rattle.std.specs.Prelude.{Some, None}
use Rattle.std.specs.Prelude as code

module _ (line xs ys b : List ℕ) (end : ℕ) (h : length line ≤ digits_most) (e : line_bytes line ≡ some b) (m : ys ≡ over b xs) (q : end ≡ length b - 1) (k : 0 < length b)
    (c : get_or ys end 0 < 256) where
  last-is : get_or ys end 0 ≡ get_or b (length b - 1) 0
  last-is = ap (λ (l : List ℕ). get_or l end 0) m ∙ get_or-append b (drop (length b) xs) 0 end (omega arith) ∙ ap (λ (j : ℕ). get_or b j 0) q

  others_are : take end ys ≡ take (length b - 1) b
  others_are = ap (take end) m ∙ take-append-le end b (drop (length b) xs) (omega arith) ∙ ap (λ (j : ℕ). take j b) q

  small : get_or b (length b - 1) 0 < 256
  small = omega (arith, last-is)

  holds_right : get_or ys end 0 ≡ check_of (take end ys) → Holds line ys (Some end)
  holds_right z =
      holds_some ys end (omega (arith, ap length m, length-append b (drop (length b) xs)))
      (right_sum line h b e k small (sym last-is ∙ z ∙ ap check_of others_are) ∙ ap frame_of (sym others_are))

  holds_wrong : (get_or ys end 0 ≡ check_of (take end ys) → ⊥) → Holds line ys None
  holds_wrong z = holds_none ys (wrong_sum line h b e k small (λ w. z (last-is ∙ w ∙ ap check_of (sym others_are))))

-- ---- by what decoding answered, and what was tested

pub long_held : {line ys : List ℕ} → digits_most < length line → Holds line ys None
long_held {line} {ys} h = holds_none ys (too_long line h)

module _ {line xs ys : List ℕ} {r : code.Option ℕ} (h : length line ≤ digits_most) (d : Decodes line xs ys r) where
  pub none_held : 4096 ≤ length xs → r ≡ None → Holds line ys None
  none_held room e = holds_none ys (no_bytes line h (told_no d e (omega arith)))

  module _ {n : ℕ} (e : r ≡ Some n) where
    pub nothing_held : (1 ≤ n → ⊥) → Holds line ys None
    nothing_held z = let (b, f, q, _, _) = told_bytes d e in holds_none ys (empty line h b f (omega (arith, z)))

    module _ {end : ℕ} (some : (1 ≤ n) × (end ≡ n - 1)) where
      pub last_within : end < length ys
      last_within = let (b, f, q, l, _) = told_bytes d e in omega (arith, d.long)

      module _ (each : (i : ℕ) → Fits w8 (get_or ys i 0)) {c : ℕ} (q : c ≡ check_of (take end ys)) where
        byte : get_or ys end 0 < 256
        byte = let f = each end in omega arith

        pub frame_held : get_or ys end 0 ≡ c → Holds line ys (Some end)
        frame_held w = let (b, f, l, _, m) = told_bytes d e in holds_right line xs ys b end h f m (omega arith) (omega arith) byte (w ∙ q)

        pub wrong_held : (get_or ys end 0 ≡ c → ⊥) → Holds line ys None
        wrong_held w = let (b, f, l, _, m) = told_bytes d e in holds_wrong line xs ys b end h f m (omega arith) (omega arith) byte (λ z. w (z ∙ sym q))
