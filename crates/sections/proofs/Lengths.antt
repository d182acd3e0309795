-- What a section is made of, and how long it is. Assumes nothing.
use mathlib.Core.Path.{◌≡◌, sym, ap, ◌∙◌}
use mathlib.Core.List.{List, ◌∷◌, ◌++◌, append_assoc}
use Prim.Native.Nat.{ℕ, ◌+◌}
use native.Mathlib.Omega.{arith}
use lib.ListN.{length, length-append}
use Rattle.leb128.specs.Leb.{uleb}
use Rattle.sections.specs.Section.{section, head_of}

pub section_long : (i : ℕ) (contents : List ℕ) (n : ℕ) → length contents ≡ n → length (section i contents) ≡ 1 + length (uleb n) + n
section_long i contents n e =
    let k : length (uleb (length contents)) ≡ length (uleb n) = ap (λ (m : ℕ). length (uleb m)) e in
    omega (arith, length-append (uleb (length contents)) contents)

-- a count and items
pub counted_long : (i count : ℕ) (items : List ℕ) (n : ℕ) → n ≡ length (uleb count) + length items → length (section i (uleb count ++ items)) ≡ 1 + length (uleb n) + n
counted_long i count items n e = section_long i (uleb count ++ items) n (omega (arith, length-append (uleb count) items))

-- its head, and its items
pub section_parts : (i count : ℕ) (items : List ℕ) (total : ℕ) → total ≡ length items → section i (uleb count ++ items) ≡ head_of i count total ++ items
section_parts i count items total e =
    let l : length (uleb count ++ items) ≡ length (uleb count) + total = omega (arith, length-append (uleb count) items) in
    ap (λ (m : ℕ). i ∷ (uleb m ++ (uleb count ++ items))) l ∙ ap (λ (l : List ℕ). i ∷ l) (sym (append_assoc (uleb (length (uleb count) + total)) (uleb count) items))
