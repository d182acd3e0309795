-- What a loop over lent buffers keeps: how long each is. Assumes nothing.
use Rattle.std.specs.Prelude.{◌≡◌, refl, List, ℕ, length}
use Rattle.std.proofs.Common.{◌∙◌}

pub record Keeps (line₀ store₀ buffer₀ out₀ line₁ store₁ buffer₁ out₁ : List ℕ) : Type 0 where
  pub line : length line₁ ≡ length line₀
  pub store : length store₁ ≡ length store₀
  pub buffer : length buffer₁ ≡ length buffer₀
  pub out : length out₁ ≡ length out₀

pub all_kept : {line store buffer out : List ℕ} → Keeps line store buffer out line store buffer out
all_kept = record { line = refl; store = refl; buffer = refl; out = refl }

-- and what a call in its body leaves of them
module _ {line₀ store₀ buffer₀ out₀ line₁ store₁ buffer₁ out₁ : List ℕ} (k : Keeps line₀ store₀ buffer₀ out₀ line₁ store₁ buffer₁ out₁) where
  pub line_kept : (l : List ℕ) → length l ≡ length line₁ → length l ≡ length line₀
  line_kept l e = e ∙ k.line

  pub store_kept : (l : List ℕ) → length l ≡ length store₁ → length l ≡ length store₀
  store_kept l e = e ∙ k.store

  pub buffer_kept : (l : List ℕ) → length l ≡ length buffer₁ → length l ≡ length buffer₀
  buffer_kept l e = e ∙ k.buffer

  pub out_kept : (l : List ℕ) → length l ≡ length out₁ → length l ≡ length out₀
  out_kept l e = e ∙ k.out

  pub still_kept : (line store buffer out : List ℕ) → length line ≡ length line₁ → length store ≡ length store₁ → length buffer ≡ length buffer₁ → length out ≡ length out₁
      → Keeps line₀ store₀ buffer₀ out₀ line store buffer out
  still_kept line store buffer out l s b o = record { line = line_kept line l; store = store_kept store s; buffer = buffer_kept buffer b; out = out_kept out o }
