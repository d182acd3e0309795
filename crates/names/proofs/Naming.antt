-- How far the check of a name has come. Assumes nothing.
use mathlib.Core.Path.{◌≡◌, refl, sym, ap, ◌∙◌}
use mathlib.Core.Logic.{◌↔◌}
use mathlib.Core.Bool.{Bool, true, false}
use mathlib.Core.Option.{Option, none, some, map}
use mathlib.Core.List.{List, ◌∷◌}
use Prim.Native.Nat.{ℕ, zero, suc, ◌+◌, ◌-◌, ◌≤◌, ◌<◌}
use native.Mathlib.Omega.{arith}
use lib.ListN.{length, get_or, drop, length-append, length-drop}
use Rattle.format.specs.Parsed.{Parsed, fail, got}
use Rattle.format.specs.Read.{place_of, rest_at, drop_end}
use Rattle.format.specs.Runs.{run, run_more_lem, run_stop, run_none}
use Rattle.std.specs.Prelude.{Some, None}
use Rattle.std.specs.Prelude as code
use Rattle.std.proofs.lemmas.Option.{none-some, same_Some}
use Rattle.names.specs.Utf8.{utf8}
use Rattle.names.specs.Char.{char, char_some, wide}
use Rattle.names.specs.Name.{is_name, found, NamedTo}
use Rattle.names.specs.Place.{end_of, EndsAt}
use Rattle.names.specs.Plain.{plain_name}
use Rattle.plain.specs.Plain.{Plain, IsPlain, Bits}
use Rattle.names.proofs.Reading.{plain, is_wide}

-- a character at a place takes a byte at least
taken : (s : List ℕ) (at c : ℕ) (r : List ℕ) → char.parse (drop at s) ≡ got c r → length r < length s - at
taken s at c r e =
    let o = char.only (drop at s) c r e in
    let l : length (drop at s) ≡ length (utf8 c) + length r = ap length o.1 ∙ length-append (utf8 c) r in
    omega (arith, char_some c o.0, length-drop at s)

pub passed_none : {s : List ℕ} {from : ℕ} → from ≤ length s → NamedTo s from from
passed_none h = record { after = omega arith; within = h; same = refl }

passed_then : {s : List ℕ} {from at end : ℕ} → NamedTo s from at → NamedTo s at end → NamedTo s from end
passed_then n m = record { after = omega (arith, n.after, m.after); within = m.within; same = n.same ∙ m.same }

-- a character is passed
pass : (s : List ℕ) (at c end : ℕ) → at < length s → char.parse (drop at s) ≡ got c (drop end s) → is_name (drop at s) ≡ is_name (drop end s)
unfolding is_name
pass s at c end h e = ap found (run_more_lem char char_some (drop at s) c (drop end s) (omega (arith, length-drop at s)) e) ∙ go (run char (drop end s))
  where
    go : (o : Option (List ℕ)) → found (map (λ (cs : List ℕ). c ∷ cs) o) ≡ found o
    go none = refl
    go (some cs) = refl

pass_plain : (s : List ℕ) (i j : ℕ) → j ≡ i + 1 → i < length s → get_or s i 0 < 0x80 → is_name (drop i s) ≡ is_name (drop j s)
pass_plain s i j e h k = pass s i (get_or s i 0) j h (plain s i h k ∙ ap (λ (n : ℕ). got (get_or s i 0) (drop n s)) (sym e))

-- several plain ones
pass_plains : (s : List ℕ) (i n : ℕ) → i + n ≤ length s → Plain s i (i + n) → is_name (drop i s) ≡ is_name (drop (i + n) s)
pass_plains s i zero h p = let e : i ≡ i + 0 = omega arith in ap (λ (k : ℕ). is_name (drop k s)) e
pass_plains s i (suc n) h p =
    let e : i + n + 1 ≡ i + suc n = omega arith in
    pass_plains s i n (omega arith) (λ k l m. p k l (omega arith)) ∙ pass_plain s (i + n) (i + suc n) (sym e) (omega arith) (p (i + n) (omega arith) (omega arith))

-- a wide one, by where it ends
module _ {s : List ℕ} {at : ℕ} (h : at < length s) (k : 0x7F < get_or s at 0) where
  at_char : {o : code.Option ℕ} → EndsAt wide s at o → (m : Parsed ℕ) → char.parse (drop at s) ≡ m → o ≡ end_of s m
  at_char e m p = e.is ∙ ap (end_of s) (sym (is_wide s at h (omega arith)) ∙ p)

  pub none_passed : EndsAt wide s at None → NamedTo s 0 at → false ≡ is_name s
  unfolding is_name
  none_passed e n = sym (n.same ∙ ap found (run_stop char char_some (drop at s) (omega (arith, length-drop at s)) (go (char.parse (drop at s)) refl)))
    where
      go : (m : Parsed ℕ) → char.parse (drop at s) ≡ m → m ≡ fail
      go fail p = refl
      go (got c r) p = absurd (none-some (place_of s r) (at_char e (got c r) p))

  module _ {end : ℕ} (e : EndsAt wide s at (Some end)) where
    char_passed : (at < end) × NamedTo s at end
    char_passed = go (char.parse (drop at s)) refl
      where
        go : (m : Parsed ℕ) → char.parse (drop at s) ≡ m → (at < end) × NamedTo s at end
        go fail p = absurd (none-some end (sym (at_char e fail p)))
        go (got c r) p =
            let q : end ≡ place_of s r = same_Some end (place_of s r) (at_char e (got c r) p) in
            let (d, w) = rest_at char s at c r p in
            let t = taken s at c r p in
            (omega arith, record { after = omega arith; within = omega arith; same = pass s at c end h (p ∙ ap (got c) (d ∙ ap (λ (i : ℕ). drop i s) (sym q))) })

    pub less_left : length s - end < length s - at
    less_left = omega (arith, char_passed.0)

    pub wide_passed : {from : ℕ} → NamedTo s from at → NamedTo s from end
    wide_passed n = passed_then n char_passed.1

module _ {s : List ℕ} {from at : ℕ} (n : NamedTo s from at) where
  pub eight_passed : 8 ≤ length s - at → {b : ℕ} → Bits s at (at + 8) b → b ≤ 0x7F → {j : ℕ} → j ≡ at + 8 → NamedTo s from j
  eight_passed h p k e = passed_then n (record { after = omega arith; within = omega arith; same = pass_plains s at 8 (omega arith) (p.told (omega arith)) ∙ ap (λ (i : ℕ). is_name (drop i s)) (sym e) })

  module _ (h : at < length s) (k : get_or s at 0 ≤ 0x7F) where
    pub plain_passed : NamedTo s from (at + 1)
    plain_passed = passed_then n (record { after = omega arith; within = omega arith; same = pass_plain s at (at + 1) refl h (omega arith) })

    pub plains_passed : {end : ℕ} → NamedTo s (at + 1) end → NamedTo s from end
    plains_passed m = passed_then plain_passed m

pub all_passed : {s : List ℕ} {at : ℕ} → NamedTo s 0 at → length s ≤ at → true ≡ is_name s
unfolding is_name
all_passed {s} {at} n h = sym (n.same ∙ ap (λ (r : List ℕ). found (run char r)) (drop_end s at h) ∙ ap found (run_none char char_some))

pub plain_is : (s : List ℕ) {r : Bool} → (r ≡ true) ↔ IsPlain s → r ≡ true → true ≡ is_name s
plain_is s e t = sym (plain_name s (e.0 t))
