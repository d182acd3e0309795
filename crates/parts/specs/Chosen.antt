-- One of several parts: in the words a number in front says which, in the bytes what stands there. Assumes nothing.
use Rattle.std.specs.Prelude.{◌≡◌, refl, ◌↔◌, List, ◌++◌, ℕ, length, drop}
use Rattle.std.proofs.Common.{sym, length-append}
use Rattle.format.specs.Parsed.{got, map}
use Rattle.format.specs.Format.{Format}
use Rattle.format.specs.Combine.{dep}
use Rattle.format.specs.Count.{Appends, adds_nil}
use Rattle.format.specs.Sequence.{dep_known}
use Rattle.format.specs.Walk.{walks_as}
use Rattle.format.specs.declared.Done.{Done}
use Rattle.format.specs.Walk.{Walk}
use Rattle.texts.specs.Section.{Section}
use Rattle.parts.specs.Writing.{lowest_behind, Writing}
use Rattle.parts.specs.Reading.{Reading}

-- W: the number, which any choice has; F: the bytes, which are those of the part that is chosen
module _ {K : Type 0} {A B : K → Type 0} (W : Format K) (any : (k : K) → W.Ok k) (S : (k : K) → Section (A k) (B k)) (F : Format ((k : K) × B k))
    (ok : (x : (k : K) × B k) → F.Ok x ↔ (S x.0).bytes.Ok x.1) (print : (x : (k : K) × B k) → F.print x ≡ (S x.0).bytes.print x.1) where
  abbrev pub chosen : Section ((k : K) × A k) ((k : K) × B k)
  chosen =
      record {
        words = dep W (λ k. (S k).words);
        texts = λ a. (S a.0).texts a.1;
        bytes = F;
        resolve = λ t a. (a.0, (S a.0).resolve t a.1);
        locate = λ n x. (x.0, (S x.0).locate n x.1);
        located =
            λ q r x o. (
            let e : (S x.0).resolve (q ++ (F.print x ++ r)) ((S x.0).locate (length q) x.1) ≡ x.1 = rw (print x) ((S x.0).located q r x.1 ((ok x).0 o)) in
            λ i. (x.0, e i)
            );
        locate_ok = λ q r x o h. (any x.0, (S x.0).locate_ok q r x.1 ((ok x).0 o) (rw (print x) at h));
        locate_texts = λ q r x o. rw (print x) ((S x.0).locate_texts q r x.1 ((ok x).0 o));
        resolve_ok = λ t a o h. (ok (a.0, (S a.0).resolve t a.1)).1 ((S a.0).resolve_ok t a.1 o.1 h);
        same_words = λ t a n. simp (length-append, (S a.0).same_words);
      }

  -- it is written as the part that the number chooses, which stands behind it
  pub chosen_writing : (k : K) {t w : List ℕ} {at p : ℕ} {old : List ℕ} {s : Done} {new : List ℕ} {r : Walk} → W.parse (drop at w) ≡ got k (drop p w) → Writing (S k) t w p old s new r
      → Writing chosen t w at old s new r
  chosen_writing k {t} {w} {at} {p} {old} {s} e x =
      record {
        writes = walks_as (λ v. (k, v)) (dep_known W (λ k. (S k).words) k (drop at w) (drop p w) e) (λ v. sym (print (k, (S k).resolve t v))) (λ v. lowest_behind t ((S k).texts v)) (adds_nil old s)
            x.writes;
      }

  -- it is read as the part that the bytes tell, behind the number, which was appended
  pub chosen_reading : (k : K) {b : List ℕ} {at : ℕ} {old : List ℕ} {s : Done} {cur : List ℕ} {u : Done} {new : List ℕ} {r : Walk}
      → F.parse (drop at b) ≡ map {B = (k : K) × B k} (λ y. (k, y)) ((S k).bytes.parse (drop at b)) → Appends (W.print k) old s cur u → Reading (S k) b at cur u new r
      → Reading chosen b at old s new r
  chosen_reading k e a x = record { reads = λ h. walks_as (λ y. (k, y)) e (λ y. refl) (λ y. refl) a (x.reads h) }
