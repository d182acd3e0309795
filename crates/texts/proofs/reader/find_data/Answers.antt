-- `texts::find_data` meets its contract. Assumes nothing.
-- the length
use mathlib.Core.Path.{◌≡◌, sym, ap, ◌∙◌}
use Prim.Native.Nat.{◌+◌, ◌≤◌, ◌<◌}
use native.Mathlib.Omega.{arith}
use lib.IntN.{pos}
use lib.ListN.{length, take, drop, length-take, length-drop}
use borrow.Author.Tests.{le-leb, lt-leb}
use Rattle.format.specs.Parsed.{got, got_rest}
use Rattle.format.specs.Read.{told_found, read_on, begins, same_place}
use Rattle.leb128.specs.Leb.{uleb, unsigned}
use Rattle.leb128.proofs.LebLaws.{leb_some}
use Rattle.leb128.proofs.Formats.{u32}
use Rattle.numbers.specs.Answers.{read_as}
use Rattle.texts.proofs.reader.find_data.Goals as goal

pub returns-then-bytes-p : goal.returns-then-bytes-p
returns-then-bytes-p c = let read : (let b = c.args.bytes.now in (u32.parse (drop c.args.at b) ≡ got c.in-Some.n (drop c.in-Some.p b)) × (c.in-Some.p ≤ length b)) = told_found 0 c.args.bytes.now u32 c.args.at (sym (ap (read_as 0) c.in-Some.is) ∙ c.decode_u32.ensures) in
    let b = c.args.bytes.now in
    let r = read in
    let short : length (drop c.in-Some.p b) < c.in-Some.n = rw (length-drop c.in-Some.p b) (omega (arith, c.if-bytes-p.true)) in
    rw (r.0, lt-leb c.in-Some.n (length (drop c.in-Some.p b)) short)

pub returns : goal.returns
returns c = let read : (let b = c.args.bytes.now in (u32.parse (drop c.args.at b) ≡ got c.in-Some.n (drop c.in-Some.p b)) × (c.in-Some.p ≤ length b)) = told_found 0 c.args.bytes.now u32 c.args.at (sym (ap (read_as 0) c.in-Some.is) ∙ c.decode_u32.ensures) in
    let b = c.args.bytes.now in
    let i = c.args.at in
    let n = c.in-Some.n in
    let p = c.in-Some.p in
    let r = read in
    let room : n ≤ length (drop p b) = rw (length-drop p b) (omega (arith, c.if-bytes-p.false, r.1)) in
    let long : length (take n (drop p b)) ≡ n = simp length-take (omega arith) in
    let on = read_on u32 b i n (drop p b) (begins u32 b i n (drop p b) (leb_some unsigned (pos n)) r.0) r.0 in
    let start : p ≡ i + length (uleb n) = same_place b r.1 on.1 (got_rest (sym r.0 ∙ on.0)) in
    rw (r.0, le-leb n (length (drop p b)) room, long, ← start)
