-- So many numbers, and numbers behind their count. Assumes nothing.
use Rattle.std.specs.Prelude.{◌≡◌, refl, cond, List, ◌++◌, ℕ, ◌≤◌, leb, length, take, drop}
use Rattle.std.proofs.Common.{sym, ap, subst, ◌∙◌, append_assoc, arith, length-append, take-append-drop, take_at, drop_at, length-take-le, le-leb, leb-true}
use Rattle.format.specs.Parsed.{Parsed, fail, got, got_value, got_rest, bind, bind_inv, cond_inv}
use Rattle.format.specs.Format.{Format}

-- n numbers, whatever they are
abbrev pub exactly_parse : ℕ → List ℕ → Parsed (List ℕ)
exactly_parse n s = cond (leb n (length s)) (got (take n s) (drop n s)) fail

pub exactly_back : (n : ℕ) (a r : List ℕ) → length a ≡ n → exactly_parse n (a ++ r) ≡ got a r
exactly_back n a r h =
    let l : n ≤ length (a ++ r) = rw (length-append a r) (omega arith) in
    rw (le-leb n (length (a ++ r)) l, take_at a r n h, drop_at a r n h)

pub exactly_only : (n : ℕ) (s a r : List ℕ) → exactly_parse n s ≡ got a r → (length a ≡ n) × (s ≡ a ++ r)
exactly_only n s a r e =
    let i = cond_inv (leb n (length s)) (got (take n s) (drop n s)) a r e in
    let ta : take n s ≡ a = got_value i.1 in
    let dr : drop n s ≡ r = got_rest i.1 in (
      ap length (sym ta) ∙ length-take-le n s (leb-true n (length s) i.0),
      sym (take-append-drop n s) ∙ ap (λ (x : List ℕ). x ++ drop n s) ta ∙ ap (λ (x : List ℕ). a ++ x) dr,
    )

abbrev pub exactly : ℕ → Format (List ℕ)
exactly n = record { Ok = λ a. length a ≡ n; print = λ a. a; parse = exactly_parse n; back = exactly_back n; only = exactly_only n }

-- as many numbers as the count in front of them says, which is printed by N
module _ (N : Format ℕ) where
  abbrev pub sized_parse : List ℕ → Parsed (List ℕ)
  sized_parse s = bind (N.parse s) exactly_parse

  pub sized_back : (a r : List ℕ) → N.Ok (length a) → sized_parse ((N.print (length a) ++ a) ++ r) ≡ got a r
  sized_back a r h = rw (append_assoc (N.print (length a)) a r, N.back (length a) (a ++ r) h) (exactly_back (length a) a r refl)

  pub sized_only : (s a r : List ℕ) → sized_parse s ≡ got a r → N.Ok (length a) × (s ≡ (N.print (length a) ++ a) ++ r)
  sized_only s a r e =
      let i = bind_inv (N.parse s) exactly_parse a r e in
      let f = N.only s i.0 i.1 i.2 in
      let g = exactly_only i.0 i.1 a r i.3 in (
        subst N.Ok (sym g.0) f.0,
        f.1 ∙ ap (λ (x : List ℕ). N.print i.0 ++ x) g.1 ∙ ap (λ (k : ℕ). N.print k ++ (a ++ r)) (sym g.0) ∙ sym (append_assoc (N.print (length a)) a r),
      )

  abbrev pub sized : Format (List ℕ)
  sized = record { Ok = λ a. N.Ok (length a); print = λ a. N.print (length a) ++ a; parse = sized_parse; back = sized_back; only = sized_only }
