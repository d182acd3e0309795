-- The prefix of a subtype: whether it is final, and its supertypes (document 01, Records and Types to bytes; Core Specification 3.0, Binary Format, Types,
-- Recursive Types). Assumes nothing.
use Rattle.std.specs.Prelude.{◌≡◌, refl, ◌⊎◌, Bool, true, false, ◌||◌, List, [], ◌∷◌, ℕ}
use Rattle.std.proofs.Common.{sym, ap, subst, ◌∙◌, inl, inr, true≢false, eqb-true}
use Rattle.std.proofs.Math.Option.{some}
use Rattle.format.specs.Format.{Format}
use Rattle.format.specs.Basic.{flag}
use Rattle.format.specs.Combine.{pair, guard}
use Rattle.format.specs.Alternatives.{is}
use Rattle.format.specs.Leads.{Lead, no_lead, or_lead, part_lead, some_is}
use Rattle.lists.specs.Member.{list_words, list_bytes}
use Rattle.lists.specs.declared.Member.TheVariants.{Index}

-- ---- words: final, list of supertypes

abbrev pub supers_words : Format (Bool × List ℕ)
supers_words = pair flag (list_words Index)

-- ---- bytes: final without supertypes has no prefix; final with some 4F and list; not final 50 and list, empty or not

abbrev pub is_some : List ℕ → Bool
is_some [] = false
is_some (x ∷ xs) = true

abbrev pub some_supers : Format (List ℕ)
some_supers = guard (list_bytes Index) is_some

abbrev pub Prefix : Type 0
Prefix = List ℕ ⊎ (List ℕ ⊎ Unit {0})

abbrev pub prefixes : Lead Prefix
prefixes = or_lead 0x50 (list_bytes Index) (or_lead 0x4F some_supers no_lead refl) refl

abbrev pub prefix_to : Bool × List ℕ → Prefix
prefix_to (false, xs) = inl xs
prefix_to (true, x ∷ xs) = inr (inl (x ∷ xs))
prefix_to (true, []) = inr (inr tt)

abbrev pub prefix_of : Prefix → Bool × List ℕ
prefix_of (inl xs) = (false, xs)
prefix_of (inr (inl xs)) = (true, xs)
prefix_of (inr (inr u)) = (true, [])

pub prefix_of_to : (p : Bool × List ℕ) → prefix_of (prefix_to p) ≡ p
prefix_of_to (false, xs) = refl
prefix_of_to (true, x ∷ xs) = refl
prefix_of_to (true, []) = refl

pub prefix_to_of : (w : Prefix) → prefixes.Ok w → w ≡ prefix_to (prefix_of w)
prefix_to_of (inl xs) ok = refl
prefix_to_of (inr (inl [])) ok = absurd (true≢false (sym ok.1))
prefix_to_of (inr (inl (x ∷ xs))) ok = refl
prefix_to_of (inr (inr u)) ok = refl

pub prefix_part : (w : Prefix) (p : Bool × List ℕ) → prefixes.Ok w → some (prefix_of w) ≡ some p → prefixes.Ok (prefix_to p) × (w ≡ prefix_to p)
prefix_part w p ok e = let q : w ≡ prefix_to p = prefix_to_of w ok ∙ ap prefix_to (some_is e) in (subst prefixes.Ok q ok, q)

abbrev pub supers_lead : Lead (Bool × List ℕ)
supers_lead =
    part_lead prefixes
    (record {
      OkA = λ p. prefixes.Ok (prefix_to p);
      to = prefix_to;
      of = λ w. some (prefix_of w);
      fits = λ p h. h;
      of_to = λ p h. ap some (prefix_of_to p);
      to_of = prefix_part;
    })

-- which is nothing, 4F and the list, or 50 and the list
pub prints_none : supers_lead.print (true, []) ≡ []
prints_none = refl

pub prints_final : (x : ℕ) (xs : List ℕ) → supers_lead.print (true, x ∷ xs) ≡ 0x4F ∷ (list_bytes Index).print (x ∷ xs)
prints_final x xs = refl

pub prints_open : (xs : List ℕ) → supers_lead.print (false, xs) ≡ 0x50 ∷ (list_bytes Index).print xs
prints_open xs = refl

-- it begins with 50 or 4F
pub prefix_begins : (p : ℕ → Bool) (v : Bool) → p 0x50 ≡ v → p 0x4F ≡ v → (x : ℕ) → supers_lead.begins x ≡ true → p x ≡ v
prefix_begins p v h k x e = go (is 0x50 x) refl (is 0x4F x) refl e
  where
    go : (a : Bool) → is 0x50 x ≡ a → (b : Bool) → is 0x4F x ≡ b → (a || (b || false)) ≡ true → p x ≡ v
    go true i b j q = ap p (eqb-true x 0x50 i) ∙ h
    go false i true j q = ap p (eqb-true x 0x4F j) ∙ k
    go false i false j q = absurd (true≢false (sym q))
