-- One section, as the code measures and writes it: a number, the head, and the items behind it. Assumes nothing.
use mathlib.Core.Path.{◌≡◌, sym, ap, ◌∙◌}
use mathlib.Core.Bool.{false}
use mathlib.Core.List.{List, [], ◌∷◌, ◌++◌}
use Prim.Native.Nat.{ℕ, ◌+◌, ◌-◌, ◌≤◌, ◌<◌, ◌^◌}
use native.Mathlib.Omega.{arith}
use mir.Syntax.{w64}
use mir.Val.{Fits}
use lib.ListN.{length, set}
use borrow.Rule.Slice.PartMut.{put_mid, mid_of}
use Rattle.format.specs.Write.{Writes, Room, write_one, writes_as, writes_then, room_then, within}
use Rattle.std.specs.Prelude.{Ok}
use Rattle.leb128.specs.Leb.{uleb}
use Rattle.leb128.proofs.Writing.{ten}
use Rattle.frames.specs.Builder.{store_most}
use Rattle.frames.specs.Tally.{item_bytes}
use Rattle.sections.specs.Section.{section, head_of}
use Rattle.sections.proofs.Lengths.{counted_long, section_parts}

-- ---- its length: k bytes say the count

module _ {k : ℕ} (count : ℕ) (e : k ≡ length (uleb count)) (f : Fits w64 count) {total : ℕ} (h : total ≤ store_most) where
  short : k ≤ 10
  short = omega (arith, ten false count f.fits)

  pub contents_fit : Fits w64 (k + total)
  contents_fit = let s = short in record { fits = omega arith }

  -- and l bytes the size
  module _ {l : ℕ} (d : l ≡ length (uleb (k + total))) where
    short_size : l ≤ 10
    short_size = let s = short in omega (arith, ten false (k + total) (omega arith))

    pub id_size_fit : Fits w64 (1 + l)
    id_size_fit = let s = short_size in record { fits = omega arith }

    pub section_fits : Fits w64 (1 + l + (k + total))
    section_fits = let s = short in let t = short_size in record { fits = omega arith }

    pub section_few : 1 + l + (k + total) ≤ total + 21
    section_few = let s = short in let t = short_size in omega arith

pub section_measured : {k : ℕ} (count : ℕ) → k ≡ length (uleb count) → (total : ℕ) {l : ℕ} → l ≡ length (uleb (k + total))
    → (i : ℕ) (items : List ℕ) → length items ≡ total → 1 + l + (k + total) ≡ length (section i (uleb count ++ items))
section_measured {k} count e total d i items q = ap (λ (n : ℕ). 1 + n + (k + total)) d ∙ sym (counted_long i count items (k + total) (omega arith))

-- ---- its head

module _ (id count total : ℕ) (out : List ℕ) (h : length (head_of id count total) ≤ length out) where
  -- the id is written
  first : Writes (id ∷ []) out (set out 0 id) (Ok 1)
  first = write_one id out (omega arith)

  module _ (k : ℕ) (e : k ≡ length (uleb count)) where
    abbrev size : List ℕ
    size = uleb (k + total)

    parts : (id ∷ size) ++ uleb count ≡ head_of id count total
    parts = ap (λ (n : ℕ). id ∷ (uleb (n + total) ++ uleb count)) e

    room : length ((id ∷ size) ++ uleb count) ≤ length out
    room = omega (arith, ap length parts)

    -- and the size
    module _ {zs : List ℕ} {m : ℕ} (w : Writes size (mid_of 1 (length (set out 0 id) - 1) (set out 0 id)) zs (Ok m)) where
      abbrev sized : List ℕ
      sized = put_mid 1 (length (set out 0 id) - 1) (set out 0 id) zs

      second : Writes (id ∷ size) out sized (Ok (1 + m))
      second = writes_then first w

      pub size_fits : length out < 2 ^ 64 → Fits w64 (1 + m)
      size_fits l = record { fits = omega (arith, within second) }

      left : Room (uleb count) sized (1 + m)
      left = room_then (uleb count) second room

      pub count_starts : 1 + m ≤ length sized
      count_starts = left.start

      pub count_room : length (uleb count) ≤ length (mid_of (1 + m) (length sized - (1 + m)) sized)
      count_room = left.room

      -- and the count
      module _ {ws : List ℕ} {n : ℕ} (v : Writes (uleb count) (mid_of (1 + m) (length sized - (1 + m)) sized) ws (Ok n)) where
        pub head_written : Writes (head_of id count total) out (put_mid (1 + m) (length sized - (1 + m)) sized ws) (Ok (1 + m + n))
        head_written = writes_as parts (writes_then second v)

        pub head_fits : length out < 2 ^ 64 → Fits w64 (1 + m + n)
        head_fits l = record { fits = omega (arith, within head_written) }

-- ---- and its items

module _ (id count total : ℕ) (s out : List ℕ) (e : total ≡ length (item_bytes id s)) where
  whole : section id (uleb count ++ item_bytes id s) ≡ head_of id count total ++ item_bytes id s
  whole = section_parts id count (item_bytes id s) total e

  module _ (h : length (section id (uleb count ++ item_bytes id s)) ≤ length out) where
    fits : length (head_of id count total ++ item_bytes id s) ≤ length out
    fits = omega (arith, ap length whole)

    pub items_room : {ys : List ℕ} {n : ℕ} → Writes (head_of id count total) out ys (Ok n) → total ≤ length (mid_of n (length ys - n) ys)
    items_room w = omega (arith, (room_then (item_bytes id s) w fits).room)

  pub section_written : {ys : List ℕ} {n : ℕ} → Writes (head_of id count total) out ys (Ok n) → {zs : List ℕ} {m : ℕ} → Writes (item_bytes id s) (mid_of n (length ys - n) ys) zs (Ok m)
      → Writes (section id (uleb count ++ item_bytes id s)) out (put_mid n (length ys - n) ys zs) (Ok (n + m))
  section_written w v = writes_as (sym whole) (writes_then w v)
