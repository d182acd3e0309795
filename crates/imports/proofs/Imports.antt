-- Imports at a place: the form by the first word, and by the two bytes behind the module's name. Assumes nothing.
use mathlib.Core.Path.{◌≡◌, refl, sym, ap, ◌∙◌}
use mathlib.Core.Logic.{⊎_elim}
use mathlib.Core.Bool.{Bool, true, false, cond}
use mathlib.Core.List.{List, [], ◌∷◌, ◌++◌}
use Prim.Native.Nat.{ℕ, ◌+◌, ◌<◌, ◌≤◌}
use native.Mathlib.Omega.{arith}
use lib.Dec.{eqb}
use lib.ListN.{length, get_or, drop, length-append, length-drop}
use borrow.Author.Tests.{eqb-true}
use Rattle.format.specs.Parsed.{Parsed, fail, got, bind, map}
use Rattle.format.specs.Count.{Appends, silent, adds_seq}
use Rattle.format.specs.Read.{drop_two, one_read}
use Rattle.format.specs.Told.{one_at}
use Rattle.format.specs.Walk.{Walks, walks_as}
use Rattle.format.specs.Write.{fits_or}
use Rattle.format.specs.declared.Done.{Done}
use Rattle.format.specs.Walk.{Walk}
use Rattle.std.specs.Prelude.{Option, Some}
use Rattle.leb128.specs.Leb.{uleb}
use Rattle.texts.specs.Section.{Section}
use Rattle.texts.specs.Spans.{span}
use Rattle.texts.specs.Place.{sized_at, text_at, stands}
use Rattle.texts.specs.declared.Span.{Span}
use Rattle.std.specs.Prelude.{Option}
use Rattle.parts.specs.Text.{name, name_bytes}
use Rattle.parts.specs.Both.{both, behind}
use Rattle.parts.specs.Listed.{listed}
use Rattle.parts.specs.Writing.{Writing, part_follows}
use Rattle.parts.specs.Chosen.{chosen_writing}
use Rattle.parts.specs.Reading.{Reading, record_at, two_reads}
use Rattle.imports.specs.Entity.{entity}
use Rattle.imports.specs.Forms.{Import, Name, member, Rest, rest, form, Imports, form_of, form_word}
use Rattle.imports.specs.Compact.{form_in, form_at, bytes}
use Rattle.imports.specs.Section.{import_section}
use Rattle.imports.specs.declared.Form.{Form}
use Rattle.imports.specs.declared.Form.TheVariants.{Single, Compact1, Compact2}

-- ---- writing: the form by the first word

-- x is the first word; the module's name was walked, and then what the form has behind it
pub form_writes : (f : Form) {t w : List ℕ} {at x : ℕ} {old : List ℕ} {s : Done} {cur : List ℕ} {p : ℕ} {u : Done} {new : List ℕ} {r r' : Walk} → at < length w → x ≡ get_or w at 0 → x ≡ form_of f
    → Writing name t w (at + 1) old s cur r → r ≡ Some (p, u) → Writing (rest f) t w p cur u new r' → Writing import_section t w at old s new r'
form_writes f {w = w} {at} h i e x g y =
    chosen_writing form_word (λ f. tt) form bytes (λ x. (λ h. h, λ h. h)) (λ x. refl) f (one_read form_word f (form_of f) tt refl w at h (sym i ∙ e))
    (part_follows name (rest f) x g y)

-- ---- reading: two bytes tell a compact form

abbrev pub second_of : Form → ℕ
second_of Single = 0x00
second_of Compact1 = 0x7F
second_of Compact2 = 0x7E

two_told : (x y : ℕ) (f : Form) → (f ≡ Single → ⊥) → form_in x y ≡ f → (x ≡ 0) × (y ≡ second_of f)
two_told x y f n e = go (eqb x 0) refl (eqb y 0x7F) refl (eqb y 0x7E) refl e
  where
    go : (a : Bool) → eqb x 0 ≡ a → (c : Bool) → eqb y 0x7F ≡ c → (d : Bool) → eqb y 0x7E ≡ d
        → cond a (cond c Compact1 (cond d Compact2 Single)) Single ≡ f → (x ≡ 0) × (y ≡ second_of f)
    go false p c q d r e = absurd (n (sym e))
    go true p true q d r e = (eqb-true x 0 p, eqb-true y 0x7F q ∙ ap second_of e)
    go true p false q true r e = (eqb-true x 0 p, eqb-true y 0x7E r ∙ ap second_of e)
    go true p false q false r e = absurd (n (sym e))

short_single : (s : List ℕ) → length s < 2 → form_at s ≡ Single
short_single [] h = refl
short_single (x ∷ []) h = refl
short_single (x ∷ y ∷ s) h = absurd (omega arith)

module _ (b : List ℕ) (p : ℕ) (f : Form) (n : f ≡ Single → ⊥) (e : f ≡ form_at (drop p b)) where
  compact_long : p + 2 ≤ length b
  compact_long = ⊎_elim (λ h. h) (λ h. absurd (n (e ∙ short_single (drop p b) (omega (arith, length-drop p b))))) (fits_or (p + 2) (length b))

  compact_reads : {A B : Type 0} (S : Section A B) (old : List ℕ) (s : Done) (new : List ℕ) (r : Walk) → Reading S b (p + 2) old s new r
      → Reading (behind 0x00 (behind (second_of f) S)) b p old s new r
  compact_reads S old s new r x =
      let h = compact_long in
      let (a, c) = two_told (get_or b p 0) (get_or b (p + 1) 0) f n (sym (e ∙ ap form_at (drop_two b p h))) in
      two_reads 0x00 (second_of f) S b p old s new r h a c x

-- ---- reading: the module's name, and what stands behind it

module _ (b : List ℕ) (at : ℕ) (old : List ℕ) (s : Done) (new : List ℕ) where
  module _ (v : Span) (e : text_at (sized_at at) (name_bytes.parse (drop at b)) ≡ Some v) where
    name_end : (h : at ≤ length b) → let n = (stands name_bytes (sized_at at) b at v h e).text in v.start + v.len ≡ at + length (name_bytes.print n)
    name_end h =
        let g = stands name_bytes (sized_at at) b at v h e in
        let n = g.text in
        ap (λ (u : Span). u.start + u.len) g.is ∙ omega (arith, length-append (uleb (length n)) n)

    form_reads : (f : Form) → f ≡ form_at (drop (v.start + v.len) b) → (cur : List ℕ) (u : Done) (r : Walk) → Appends (form_of f ∷ span.print v) old s cur u
        → Reading (rest f) b (v.start + v.len) cur u new r → Reading import_section b at old s new r
    form_reads f fe cur u r a x = record { reads = go }
      where
        behind_name : (n : List ℕ) (m : Parsed (Rest f (List ℕ)))
            → map {B = Imports (List ℕ)} (λ (q : List ℕ × ((f : Form) × Rest f (List ℕ))). (q.1.0, (q.0, q.1.1))) (bind {B = List ℕ × ((f : Form) × Rest f (List ℕ))} (map {B = (f : Form) × Rest f (List ℕ)} (λ y. (f, y)) m) (λ y t. got (n, y) t))
            ≡ map {B = Imports (List ℕ)} (λ y. (f, (n, y))) m
        behind_name n fail = refl
        behind_name n (got y t) = refl

        prints : (n : List ℕ) → v ≡ sized_at at n → v.start + v.len ≡ at + length (name_bytes.print n) → (y : Rest f (List ℕ))
            → (form_of f ∷ span.print v) ++ record_at (rest f) (v.start + v.len) y ≡ record_at import_section at (f, (n, y))
        prints n is pe y =
            ap (λ (k : ℕ). form_of f ∷ (span.print v ++ record_at (rest f) k y)) pe
            ∙ ap (λ (u : Span). form_of f ∷ (span.print u ++ record_at (rest f) (at + length (name_bytes.print n)) y)) is

        go : at ≤ length b → Walks bytes (record_at import_section at) silent b at old s new r
        go h =
            let g = stands name_bytes (sized_at at) b at v h e in
            let n = g.text in
            let p = v.start + v.len in
            let pe : p ≡ at + length (name_bytes.print n) = name_end h in
            let named : name_bytes.parse (drop at b) ≡ got n (drop p b) = g.parsed ∙ ap (λ (k : ℕ). got n (drop k b)) (sym pe) in
            let within : p ≤ length b = omega (arith, g.within) in
            walks_as (λ y. (f, (n, y)))
            (rw (named, one_at form_at (λ f. (rest f).bytes) f (drop p b) (sym fe)) (behind_name n ((rest f).bytes.parse (drop p b))))
            (prints n g.is pe) (λ y. refl) a (x.reads within)

-- ---- reading: what the code has found

one_not : Compact1 ≡ Single → ⊥
one_not e = let z : ◌≡◌ {A = ℕ} 0 1 = cc in omega arith

two_not : Compact2 ≡ Single → ⊥
two_not e = let z : ◌≡◌ {A = ℕ} 0 1 = cc in omega arith

module _ {b : List ℕ} {at : ℕ} {found : Option Span} (d : found ≡ text_at (sized_at at) (name_bytes.parse (drop at b))) {old : List ℕ} {s : Done} {new : List ℕ} where
  module _ {v : Span} (e : found ≡ Some v) {f : Form} (g : f ≡ form_at (drop (v.start + v.len) b)) {cur : List ℕ} {u : Done} {r : Walk} where
    pub single_reads : f ≡ Single → Appends (0 ∷ span.print v) old s cur u → Reading (member Import) b (v.start + v.len) cur u new r → Reading import_section b at old s new r
    single_reads k a x = form_reads b at old s new v (sym d ∙ e) Single (sym k ∙ g) cur u r a x

    pub compact1_reads : f ≡ Compact1 → Appends (1 ∷ span.print v) old s cur u → Reading (listed (member Import)) b (v.start + v.len + 2) cur u new r → Reading import_section b at old s new r
    compact1_reads k a x =
        form_reads b at old s new v (sym d ∙ e) Compact1 (sym k ∙ g) cur u r a
        (compact_reads b (v.start + v.len) Compact1 one_not (sym k ∙ g) (listed (member Import)) cur u new r x)

    pub compact2_reads : f ≡ Compact2 → Appends (2 ∷ span.print v) old s cur u → Reading (both entity (listed (member Name))) b (v.start + v.len + 2) cur u new r
        → Reading import_section b at old s new r
    compact2_reads k a x =
        form_reads b at old s new v (sym d ∙ e) Compact2 (sym k ∙ g) cur u r a
        (compact_reads b (v.start + v.len) Compact2 two_not (sym k ∙ g) (both entity (listed (member Name))) cur u new r x)

-- a form, and a span behind it
pub head_added : {f : ℕ} {v : Span} {old : List ℕ} {s : Done} {cur : List ℕ} {t : Done} {new : List ℕ} {u : Done} → Appends (f ∷ []) old s cur t → Appends (span.print v) cur t new u
    → Appends (f ∷ span.print v) old s new u
head_added a b = adds_seq a b
