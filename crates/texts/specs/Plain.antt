-- Of a text that is plain, no name is refused: each span within it holds a name. Assumes nothing.
use Rattle.std.specs.Prelude.{◌≡◌, ◌⊎◌, Bool, cond, ℕ, min, take, drop}
use Rattle.std.proofs.Math.Path.{refl}
use Rattle.std.proofs.Math.Logic.{inl, inr}
use Rattle.std.proofs.Math.Bool.{true, false}
use mathlib.Core.List.{List, [], ◌∷◌}
use Rattle.std.proofs.Common.{arith}
use Rattle.format.specs.Lists.{All}
use Rattle.format.specs.Count.{no_refusal}
use Rattle.plain.specs.Plain.{IsPlain}
use Rattle.names.specs.Name.{is_name}
use Rattle.names.specs.Plain.{plain_name, plain_part}
use Rattle.texts.specs.Text.{Kind, named, is_within, slice_of, past_of, refusal_of, lowest_of}
use Rattle.texts.specs.declared.Span.{Span}

-- texts that are all names
abbrev pub Names : List (Kind × Span) → Type 0
Names l = All (λ (x : Kind × Span). x.0 ≡ named) l

module _ (t : List ℕ) (p : IsPlain t) where
  held_name : (at : Span) → is_name (slice_of t at) ≡ true
  unfolding slice_of
  held_name at = go (is_within t at)
    where
      go : (c : Bool) → is_name (cond c (take at.len (drop at.start t)) []) ≡ true
      go true = plain_part t at.start at.len p
      go false = plain_name [] (λ k l m. absurd (omega arith))

  -- it draws 3 or nothing
  abbrev Only : ℕ → Type 0
  Only n = (n ≡ 3) ⊎ (n ≡ no_refusal)

  only_min : (a b : ℕ) → Only a → Only b → Only (min a b)
  only_min a b (inl e) k = inl (three k)
    where
      three : Only b → min a b ≡ 3
      three (inl f) = omega arith
      three (inr f) = omega arith
  only_min a b (inr e) (inl f) = inl (omega arith)
  only_min a b (inr e) (inr f) = inr (omega arith)

  name_only : (at : Span) → Only (refusal_of t named at)
  unfolding past_of
  name_only at = rw (held_name at) (go (is_within t at))
    where
      go : (c : Bool) → Only (min (cond c no_refusal 3) no_refusal)
      go true = inr refl
      go false = inl refl

  pub plain_only : (l : List (Kind × Span)) → Names l → Only (lowest_of t l)
  plain_only [] h = inr refl
  plain_only ((k, at) ∷ l) h = only_min (refusal_of t k at) (lowest_of t l) (rw h.0 (name_only at)) (plain_only l h.1)
