-- A walk: it reads a value at a place and appends what is to be written of it. Its laws leave out all that `search` finds, so that an answer names the law and no
-- place. Assumes nothing.
use Rattle.std.specs.Prelude.{◌≡◌, refl, List, [], ◌++◌, ℕ, ◌≤◌, min, length, drop}
use Rattle.std.proofs.Common.{sym, ◌∙◌, ap, subst, arith}
use Rattle.std.proofs.lemmas.Option.{some_pair_parts}
use Rattle.format.specs.Parsed.{Parsed, fail, got, map}
use Rattle.format.specs.Format.{Format}
use Rattle.format.specs.Read.{place_of, place_at, rest_at, drop_end}
use Rattle.format.specs.Count.{Adds, adds_seq, adds_eq}
use Rattle.format.specs.declared.Done.{Done}
use Rattle.std.specs.Prelude.{Option, None, Some}

-- what a walk finds: the place behind what it read, and what is done; or nothing
abbrev pub Walk : Type 0
Walk = Option (ℕ × Done)

-- f: what is written of a value; g: the lowest refusal that it draws
abbrev pub Walked : {A : Type 0} → (A → List ℕ) → (A → ℕ) → List ℕ → Parsed A → List ℕ → Done → List ℕ → Walk → Type 0
Walked f g w fail old s new r = r ≡ None
Walked f g w (got a t) old s new r = (u : Done) × (r ≡ Some (place_of w t, u)) × Adds (f a) (g a) old s new u

-- a walk of what P reads at a place: a record, so that `search` finds it among what is known. P is a reader, since not all that is walked is a format
pub record Walking {A : Type 0} (P : List ℕ → Parsed A) (f : A → List ℕ) (g : A → ℕ) (w : List ℕ) (at : ℕ) (old : List ℕ) (s : Done) (new : List ℕ) (r : Walk) : Type 0 where
  pub walked : Walked f g w (P (drop at w)) old s new r

abbrev pub Walks : {A : Type 0} → Format A → (A → List ℕ) → (A → ℕ) → List ℕ → ℕ → List ℕ → Done → List ℕ → Walk → Type 0
Walks W = Walking W.parse

-- ---- a walk with no other in it: nothing of the kind is there, nothing at all is left, or a value is there

module _ {A : Type 0} {P : List ℕ → Parsed A} {f : A → List ℕ} {g : A → ℕ} {w : List ℕ} {at : ℕ} {old : List ℕ} {s : Done} {new : List ℕ} where
  pub nothing_there : P (drop at w) ≡ fail → Walking P f g w at old s new None
  nothing_there e = record { walked = rw e refl }

  pub nothing_left : length w ≤ at → P [] ≡ fail → Walking P f g w at old s new None
  nothing_left h e = nothing_there (ap P (drop_end w at h) ∙ e)

  pub value_there : {a : A} {p : ℕ} {u : Done} → Adds (f a) (g a) old s new u → P (drop at w) ≡ got a (drop p w) → p ≤ length w → Walking P f g w at old s new (Some (p, u))
  value_there {a} {p} {u} d e h = record { walked = rw e (u, rw (place_at w p h), d) }

-- ---- what its answer tells

-- a value was found, and what is left stands at p
pub record Found {A : Type 0} (P : List ℕ → Parsed A) (f : A → List ℕ) (g : A → ℕ) (w : List ℕ) (at : ℕ) (old : List ℕ) (s : Done) (new : List ℕ) (p : ℕ) (u : Done) : Type 0 where
  pub value : A
  pub rest : List ℕ
  pub is : P (drop at w) ≡ got value rest
  pub place : place_of w rest ≡ p
  pub adds : Adds (f value) (g value) old s new u

module _ {A : Type 0} {P : List ℕ → Parsed A} {f : A → List ℕ} {g : A → ℕ} {w : List ℕ} {at : ℕ} {old : List ℕ} {s : Done} {new : List ℕ} {r : Walk} (h : Walking P f g w at old s new r) where
  pub not_found : r ≡ None → P (drop at w) ≡ fail
  not_found e = go (P (drop at w)) h.walked
    where
      go : (m : Parsed A) → Walked f g w m old s new r → m ≡ fail
      go fail k = refl
      go (got a t) k = let z : ◌≡◌ {A = ℕ} 0 1 = cc k.1 in absurd (omega arith)

  pub was_found : {p : ℕ} {u : Done} → r ≡ Some (p, u) → Found P f g w at old s new p u
  was_found {p} {u} e = go (P (drop at w)) refl h.walked
    where
      go : (m : Parsed A) → P (drop at w) ≡ m → Walked f g w m old s new r → Found P f g w at old s new p u
      go fail q k = let z : ◌≡◌ {A = ℕ} 0 1 = cc in absurd (omega arith)
      go (got a t) q k =
          let x : Some (place_of w t, k.0) ≡ Some (p, u) = sym k.1 ∙ e in
          let (pe, ue) = some_pair_parts (place_of w t) p k.0 u x in
          record { value = a; rest = t; is = q; place = pe; adds = subst (λ (v : Done). Adds (f a) (g a) old s new v) ue k.2 }

-- by a format: what is left is what stands from p on
pub record Gone {A : Type 0} (W : Format A) (f : A → List ℕ) (g : A → ℕ) (w : List ℕ) (at : ℕ) (old : List ℕ) (s : Done) (new : List ℕ) (p : ℕ) (u : Done) : Type 0 where
  pub value : A
  pub read : W.parse (drop at w) ≡ got value (drop p w)
  pub place : p ≤ length w
  pub adds : Adds (f value) (g value) old s new u

pub gone : {A : Type 0} (W : Format A) {f : A → List ℕ} {g : A → ℕ} {w : List ℕ} {at : ℕ} {old : List ℕ} {s : Done} {new : List ℕ} {r : Walk} {p : ℕ} {u : Done} → Walks W f g w at old s new r
    → r ≡ Some (p, u) → Gone W f g w at old s new p u
gone W {w = w} {at} h e =
    let q = was_found h e in
    let ra = rest_at W w at q.value q.rest q.is in
    record {
      value = q.value;
      read = q.is ∙ ap (λ (l : List ℕ). got q.value l) ra.0 ∙ ap (λ (k : ℕ). got q.value (drop k w)) q.place;
      place = subst (λ (k : ℕ). k ≤ length w) q.place ra.1;
      adds = q.adds;
    }

-- ---- a walk that is one of something else: pre was appended, and what Q reads from p on is, by another name, what X reads from `at` on

module _ {A B : Type 0} (name : B → A) {Q : List ℕ → Parsed B} {f' : B → List ℕ} {g' : B → ℕ} {X : List ℕ → Parsed A} {f : A → List ℕ} {g : A → ℕ} {pre : List ℕ} {l : ℕ} {w : List ℕ} {p at : ℕ}
    {old : List ℕ} {s : Done} {cur : List ℕ} {t : Done} {new : List ℕ} {r : Walk} (e : X (drop at w) ≡ map name (Q (drop p w))) where
  -- what is written may depend on what was read
  pub walks_read : ((b : B) (q : List ℕ) → Q (drop p w) ≡ got b q → pre ++ f' b ≡ f (name b)) → ((b : B) → min l (g' b) ≡ g (name b)) → Adds pre l old s cur t → Walking Q f' g' w p cur t new r
      → Walking X f g w at old s new r
  walks_read writes draws a x = record { walked = rw e (go (Q (drop p w)) refl x.walked) }
    where
      go : (m : Parsed B) → Q (drop p w) ≡ m → Walked f' g' w m cur t new r → Walked f g w (map name m) old s new r
      go fail i k = k
      go (got b q) i k = (k.0, k.1, adds_eq (writes b q i) (draws b) (adds_seq a k.2))

  pub walks_as : ((b : B) → pre ++ f' b ≡ f (name b)) → ((b : B) → min l (g' b) ≡ g (name b)) → Adds pre l old s cur t → Walking Q f' g' w p cur t new r → Walking X f g w at old s new r
  walks_as writes draws a x = walks_read (λ b q i. writes b) draws a x
