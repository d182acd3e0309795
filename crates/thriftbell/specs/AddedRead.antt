-- Adding and then reading: what an accepted add has written is read with answer 0, as the bytes that it has and as the record that was added but for where spans
-- lie, the one exception in it (document 01, Answers by number, Reading). Assumes nothing.
use Rattle.std.specs.Prelude.{◌≡◌, List, ◌++◌, ℕ, ◌≤◌, length}
use Rattle.std.proofs.Common.{sym, ap, subst, ◌∙◌, arith}
use Rattle.std.proofs.Math.Option.{some}
use Rattle.format.specs.Write.{over}
use Rattle.frames.specs.Ids.{id_of}
use Rattle.frames.specs.Builder.{behind_head, item_behind}
use Rattle.frames.specs.Append.{Outcome}
use Rattle.frames.specs.declared.State.{State}
use Rattle.texts.specs.Judge.{record_in, item_in, why, fine}
use Rattle.texts.specs.declared.Span.{Span}
use Rattle.items.specs.Record.{Record, records, resolved, record_of}
use Rattle.items.specs.Reading.{Back, as_many}
use Rattle.thriftbell.specs.Add.{adding}
use Rattle.thriftbell.specs.Accepted.{frame_in, add_appends}
use Rattle.thriftbell.specs.Read.{reading, front_of, was_read}
use Rattle.thriftbell.specs.ReadBack.{read_back, read_same}

-- reading the bytes b gives the record a back, which was added as the words w with the text t
pub record Gives (w t : List ℕ) (a : Record Span) (b : List ℕ) : Type 0 where
  pub words : List ℕ
  -- as many as were added
  pub many : length words ≡ length w
  -- where there is room for them, they are written, and the item's bytes are taken
  pub read : (out : List ℕ) → length w ≤ length out
      → reading (id_of a.0) b out ≡ record { number = 0; words = length words; taken = length (item_in records w t); memory = over words out }
  -- they are its record but for where spans lie, and but for the exception
  pub same : Back t a (front_of b) words

-- whatever follows its item, and from the store that the add left
pub record AddedRead (state : State) (xs w t : List ℕ) : Type 0 where
  pub value : Record Span
  pub is : record_in records w ≡ some value
  pub anywhere : (r : List ℕ) → Gives w t value (item_in records w t ++ r)
  pub stored : Gives w t value (behind_head state (adding state xs w t).store)

gives : (w t : List ℕ) (a : Record Span) → record_in records w ≡ some a → why records w t ≡ 0 → (r : List ℕ) → Gives w t a (item_in records w t ++ r)
gives w t a p y r =
    let b = item_in records w t ++ r in
    let many : length (record_of (resolved t a)) ≡ length w = as_many w t a p in
    record {
      words = record_of (resolved t a);
      many = many;
      read = λ out h. sym (was_read (id_of a.0) b out (record_of (resolved t a)) (length (item_in records w t)) (read_back w t r out a p y) (omega arith));
      same = read_same w t r a p y;
    }

pub added_read : (state : State) (xs w t : List ℕ) → (adding state xs w t).number ≡ 0 → AddedRead state xs w t
added_read state xs w t z =
    let a = add_appends state xs w t z in
    let f = fine records w t a.sound in
    let g = gives w t f.value f.is a.sound in
    let (r, e) = item_behind state xs (frame_in w t) a.room in
    let at : behind_head state (adding state xs w t).store ≡ item_in records w t ++ r = ap (λ (o : Outcome). behind_head state o.store) a.is ∙ e in
    record { value = f.value; is = f.is; anywhere = g; stored = subst (Gives w t f.value) (sym at) (g r) }
