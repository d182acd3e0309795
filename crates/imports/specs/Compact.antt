-- Imports as bytes (document 01, Items to bytes, Import; imports.rs for the compact forms): the module's name, and then a name and an entity, or 00 7F and a
-- list, or 00 7E, an entity and names. An empty name is 00 too; the byte after it tells the forms apart, since no entity has the sort 7F or 7E. Assumes
-- nothing.
use Rattle.std.specs.Prelude.{◌≡◌, refl, cond, List, [], ◌∷◌, ◌++◌, ℕ, ◌+◌, ◌<◌, ◌≤◌, eqb, pos, length}
use Rattle.std.proofs.Common.{ap, ◌∙◌, ⊎_elim, append_assoc, arith, ne_eqb}
use Rattle.std.specs.Int.Signed.{mag, shr_z}
use Rattle.format.specs.Format.{Format}
use Rattle.format.specs.Combine.{pair, iso}
use Rattle.format.specs.Told.{one}
use Rattle.format.specs.Write.{fits_or}
use Rattle.leb128.specs.Leb.{uleb, unsigned, limit, low, leb, leb_by}
use Rattle.leb128.proofs.LebLaws.{leb_last, leb_more}
use Rattle.parts.specs.Text.{name_bytes}
use Rattle.imports.specs.Entity.{Sort, sort_of, sort_small, entity_to, entity_bytes}
use Rattle.imports.specs.Forms.{Rest, rest, Imports}
use Rattle.imports.specs.declared.Form.{Form}
use Rattle.imports.specs.declared.Form.TheVariants.{Single, Compact1, Compact2}
use Rattle.imports.specs.declared.EntityType.{EntityType}

-- the form by the byte after 00
abbrev pub after_zero : ℕ → Form
after_zero x = cond (eqb x 0x7F) Compact1 (cond (eqb x 0x7E) Compact2 Single)

-- the form of what stands behind a module's name, by its first two bytes
abbrev pub form_in : ℕ → ℕ → Form
form_in x y = cond (eqb x 0x00) (after_zero y) Single

abbrev pub form_at : List ℕ → Form
form_at [] = Single
form_at (x ∷ []) = Single
form_at (x ∷ y ∷ s) = form_in x y

-- no entity has the sort 7F or 7E
pub sort_single : (k : Sort) → after_zero (sort_of k) ≡ Single
sort_single k = let h = sort_small k in rw (ne_eqb (sort_of k) 0x7F (λ e. omega arith), ne_eqb (sort_of k) 0x7E (λ e. omega arith))

-- what does not begin with 00 is a single import
pub not-zero : (y : ℕ) (s : List ℕ) → (y ≡ 0 → ⊥) → form_at (y ∷ s) ≡ Single
not-zero y [] n = refl
not-zero y (z ∷ s) n = rw (ne_eqb y 0 n)

-- nor does the length of a name that is not empty
long_name : (m : ℕ) (s : List ℕ) → 0 < m → form_at (uleb m ++ s) ≡ Single
long_name m s h = ⊎_elim more last (fits_or (limit unsigned) (mag (pos m)))
  where
    more : limit unsigned ≤ mag (pos m) → form_at (uleb m ++ s) ≡ Single
    more g = ap (λ (l : List ℕ). form_at (l ++ s)) (leb_more unsigned (pos m) g) ∙ not-zero (low (pos m) + 128) (leb unsigned (shr_z (pos m) 128) ++ s) (λ e. omega (arith, e))

    last : mag (pos m) < limit unsigned → form_at (uleb m ++ s) ≡ Single
    last g = ap (λ (l : List ℕ). form_at (l ++ s)) (leb_last unsigned (pos m) g) ∙ not-zero (low (pos m)) s (λ e. omega (arith, e))

-- a name and an entity: an empty name's 00 is followed by the entity's sort
single_told : (n : List ℕ) (e : EntityType) (r : List ℕ) → form_at ((name_bytes.print n ++ entity_bytes.print e) ++ r) ≡ Single
unfolding leb leb_by
single_told [] e r = sort_single (entity_to e).0
single_told (x ∷ n) e r =
    ap form_at (append_assoc (name_bytes.print (x ∷ n)) (entity_bytes.print e) r ∙ append_assoc (uleb (length (x ∷ n))) (x ∷ n) (entity_bytes.print e ++ r))
    ∙ long_name (length (x ∷ n)) ((x ∷ n) ++ (entity_bytes.print e ++ r)) (omega arith)

-- each form is told by its first two bytes, whatever follows
pub form_told : (f : Form) (x : Rest f (List ℕ)) (r : List ℕ) → (rest f).bytes.Ok x → form_at ((rest f).bytes.print x ++ r) ≡ f
form_told Single x r ok = single_told x.0 x.1 r
form_told Compact1 x r ok = refl
form_told Compact2 x r ok = refl

-- ---- bytes

abbrev pub rest_bytes : Format ((f : Form) × Rest f (List ℕ))
rest_bytes = one form_at (λ f. (rest f).bytes) form_told

abbrev pub bytes : Format (Imports (List ℕ))
bytes = iso (pair name_bytes rest_bytes) (λ i. (i.1.0, (i.0, i.1.1))) (λ p. (p.1.0, (p.0, p.1.1))) (λ i. refl) (λ p. refl)
