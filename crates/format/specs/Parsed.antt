-- What reading finds, and how one reading follows another. Assumes nothing.
use Rattle.std.specs.Prelude.{◌≡◌, refl, Bool, true, false, cond, List, ℕ}
use Rattle.std.proofs.Common.{ap, arith}
use Rattle.std.proofs.Math.Option
use Rattle.std.proofs.Math.Option.{Option, none, some}

-- nothing; or a value, and what is left behind it
pub data Parsed (A : Type 0) : Type 0 where
  fail : Parsed A
  got : A → List ℕ → Parsed A

pub got_value : {A : Type 0} {a b : A} {r t : List ℕ} → got a r ≡ got b t → a ≡ b
got_value e = cc

pub got_rest : {A : Type 0} {a b : A} {r t : List ℕ} → got a r ≡ got b t → r ≡ t
got_rest e = cc

pub fail_got : {A : Type 0} (m : Parsed A) (a : A) (r : List ℕ) → m ≡ fail → m ≡ got a r → ⊥
fail_got m a r p q = let z : ◌≡◌ {A = ℕ} 0 1 = cc in omega arith

-- a second reading, of what the first one left
abbrev pub bind : {A B : Type 0} → Parsed A → (A → List ℕ → Parsed B) → Parsed B
bind fail k = fail
bind (got a r) k = k a r

pub bind_inv : {A B : Type 0} (m : Parsed A) (k : A → List ℕ → Parsed B) (b : B) (t : List ℕ)
    → bind m k ≡ got b t → (a : A) × (r : List ℕ) × (m ≡ got a r) × (k a r ≡ got b t)
bind_inv fail k b t e = absurd (fail_got _ b t refl e)
bind_inv (got a r) k b t e = (a, r, refl, e)

-- the value as something else
abbrev pub map : {A B : Type 0} → (A → B) → Parsed A → Parsed B
map f fail = fail
map f (got a r) = got (f a) r

pub map_inv : {A B : Type 0} (f : A → B) (m : Parsed A) (b : B) (t : List ℕ) → map f m ≡ got b t → (a : A) × (m ≡ got a t) × (f a ≡ b)
map_inv f fail b t e = absurd (fail_got _ b t refl e)
map_inv f (got a r) b t e = (a, ap (λ (l : List ℕ). got a l) (got_rest e), got_value e)

pub map_same : {A : Type 0} (m : Parsed A) → m ≡ map (λ a. a) m
map_same fail = refl
map_same (got a r) = refl

pub map-map : {A B C : Type 0} (g : B → C) (f : A → B) (m : Parsed A) → map g (map f m) ≡ map (λ a. g (f a)) m
map-map g f fail = refl
map-map g f (got a r) = refl

-- what passes a test
pub cond_inv : {A : Type 0} (c : Bool) (m : Parsed A) (a : A) (r : List ℕ) → cond c m fail ≡ got a r → (c ≡ true) × (m ≡ got a r)
cond_inv true m a r e = (refl, e)
cond_inv false m a r e = absurd (fail_got _ a r refl e)

-- what there may be none of
abbrev pub from_option : {A : Type 0} → Option A → List ℕ → Parsed A
from_option none r = fail
from_option (some a) r = got a r

pub from_option_inv : {A : Type 0} (o : Option A) (t : List ℕ) (a : A) (r : List ℕ) → from_option o t ≡ got a r → (o ≡ some a) × (t ≡ r)
from_option_inv none t a r e = absurd (fail_got _ a r refl e)
from_option_inv (some b) t a r e = (ap some (got_value e), got_rest e)

pub map_from_option : {A B : Type 0} (f : A → B) (o : Option A) (r : List ℕ) → map f (from_option o r) ≡ from_option (Option.map f o) r
map_from_option f none r = refl
map_from_option f (some a) r = refl
