-- Plain bytes are a name: below 80 a character is encoded as one byte, itself (WebAssembly Core Specification 3.0, Binary Format, Names). Assumes nothing.
use Rattle.std.specs.Prelude.{◌≡◌, refl, true, List, [], ◌∷◌, ℕ, suc, ◌+◌, ◌<◌, length, take, drop}
use Rattle.std.proofs.Common.{ap, arith, length-take, length-drop, get_or-take, get_or-drop, lt-ltb}
use Rattle.std.proofs.lemmas.Bool.{lt-leb}
use Rattle.format.specs.Lists.{All, prints}
use Rattle.plain.specs.Plain.{IsPlain}
use Rattle.names.specs.Utf8.{utf8, scalar}
use Rattle.names.specs.Name.{is_name, name_exactly}

plain_next : (x : ℕ) (s : List ℕ) → IsPlain (x ∷ s) → IsPlain s
plain_next x s h k l m = h (suc k) (omega arith) (omega arith)

scalars : (s : List ℕ) → IsPlain s → All (λ c. scalar c ≡ true) s
scalars [] h = tt
scalars (x ∷ s) h =
    let l = h 0 (omega arith) (omega arith) in
    (rw (lt-ltb x 0x110000 (omega arith), lt-leb 0xD800 x (omega arith)), scalars s (plain_next x s h))

encoded : (s : List ℕ) → IsPlain s → s ≡ prints utf8 s
unfolding utf8
encoded [] h = refl
encoded (x ∷ s) h = let l : x < 0x80 = h 0 (omega arith) (omega arith) in rw (lt-ltb x 0x80 l) (ap (λ (r : List ℕ). x ∷ r) (encoded s (plain_next x s h)))

pub plain_name : (s : List ℕ) → IsPlain s → is_name s ≡ true
plain_name s h = (name_exactly s).1 (record { chars = s; scalars = scalars s h; encoded = encoded s h })

-- and so is any part of them
pub plain_part : (s : List ℕ) (from n : ℕ) → IsPlain s → is_name (take n (drop from s)) ≡ true
plain_part s from n h = plain_name (take n (drop from s)) (λ k l m. rw (get_or-take n (drop from s) k 0 (within k m).0, get_or-drop from s k 0) (h (from + k) (omega arith) (within k m).1))
  where
    within : (k : ℕ) → k < length (take n (drop from s)) → (k < n) × (from + k < length s)
    within k m = (omega (arith, m, length-take n (drop from s)), omega (arith, m, length-take n (drop from s), length-drop from s))
