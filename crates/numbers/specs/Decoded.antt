-- What `decode_u32` and `decode_index` tell, and walks by it: over one number, and over a list behind its count. Assumes nothing.
use Rattle.std.specs.Prelude.{◌≡◌, List, ℕ, ◌-◌, ◌<◌, ◌≤◌, pos, length, drop}
use Rattle.std.proofs.Common.{sym, ◌∙◌, ap}
use Rattle.format.specs.Parsed.{fail, got}
use Rattle.format.specs.Format.{Format}
use Rattle.format.specs.Lists.{many}
use Rattle.format.specs.Read.{reading, told_found, told_nothing}
use Rattle.format.specs.Count.{Appends, silent}
use Rattle.format.specs.Walk.{Walking, nothing_there, value_there}
use Rattle.format.specs.Loop.{MembersAt}
use Rattle.format.specs.Counted.{CountedList, count_missing, count_exceeds, members_follow}
use Rattle.format.specs.declared.Done.{Done}
use Rattle.format.specs.Walk.{Walk}
use Rattle.std.specs.Prelude.{Option, None, Some}
use Rattle.leb128.specs.Leb.{unsigned}
use Rattle.leb128.proofs.LebLaws.{leb_some}
use Rattle.leb128.proofs.Formats.{u32}
use Rattle.numbers.specs.Answers.{read_as}

-- what `decode_u32`, `decode_index` ensure, by the format that they read by
module _ (N : Format ℕ) (w : List ℕ) (at : ℕ) (r : Option (ℕ × ℕ)) (d : read_as 0 r ≡ reading 0 w (N.parse (drop at w))) where
  pub number_missing : r ≡ None → N.parse (drop at w) ≡ fail
  number_missing e = told_nothing 0 w (sym (ap (read_as 0) e) ∙ d)

  module _ {n p : ℕ} (e : r ≡ Some (n, p)) where
    pub number_found : N.parse (drop at w) ≡ got n (drop p w)
    number_found = (told_found 0 w N at (sym (ap (read_as 0) e) ∙ d)).0

    pub number_place : p ≤ length w
    number_place = (told_found 0 w N at (sym (ap (read_as 0) e) ∙ d)).1

-- a walk over one number
module _ (N : Format ℕ) {f : ℕ → List ℕ} {w : List ℕ} {at : ℕ} {old : List ℕ} {s : Done} {new : List ℕ} {r : Option (ℕ × ℕ)} where
  pub no_number : read_as 0 r ≡ reading 0 w (N.parse (drop at w)) → r ≡ None → Walking N.parse f silent w at old s new None
  no_number d e = nothing_there (number_missing N w at r d e)

  pub one_number : {n p : ℕ} {u : Done} → read_as 0 r ≡ reading 0 w (N.parse (drop at w)) → r ≡ Some (n, p) → Appends (f n) old s new u
      → Walking N.parse f silent w at old s new (Some (p, u))
  one_number d e a = value_there a (number_found N w at r d e) (number_place N w at r d e)

-- a count takes a byte at least
pub u32_long : (n : ℕ) → 0 < length (u32.print n)
u32_long n = leb_some unsigned (pos n)

-- a list behind its count
module _ (N : Format ℕ) {A : Type 0} {c : ℕ → List ℕ} {F : Format A} {f : ℕ → A → List ℕ} {g : A → ℕ} {f' : ℕ → List A → List ℕ} {g' : List A → ℕ} (K : CountedList N c F f g f' g') {w : List ℕ}
    {at : ℕ} {old : List ℕ} {s : Done} {new : List ℕ} {r : Option (ℕ × ℕ)} (d : read_as 0 r ≡ reading 0 w (N.parse (drop at w))) where
  pub no_count : r ≡ None → Walking (many N F).parse (f' at) g' w at old s new None
  no_count e = count_missing K (number_missing N w at r d e)

  module _ {n p : ℕ} (e : r ≡ Some (n, p)) where
    pub count_too_large : length w - p < n → Walking (many N F).parse (f' at) g' w at old s new None
    count_too_large h = count_exceeds K n p (number_found N w at r d e) h

    pub then_members : {cur : List ℕ} {t : Done} {r' : Walk} → Appends (c n) old s cur t → MembersAt F f g w p n cur t new r' → Walking (many N F).parse (f' at) g' w at old s new r'
    then_members a m = members_follow K n p (number_found N w at r d e) (number_place N w at r d e) a m
