-- `enter` meets its contract. The record goes to the head of both its arguments' lists, and waits.
-- Assumes nothing.
use mathlib.Core.Path.{◌≡◌, ap, ◌∙◌}
use mathlib.Core.Bool.{true, false}
use Prim.Native.Nat.{suc, ◌<◌}
use native.Mathlib.Omega.{arith}
use Rattle.meaning.specs.Limits.{most_records, most_tags}
use Rattle.table.specs.Map.{left_of, right_of, use_of}
use Rattle.table.specs.Places.{Large}
use Rattle.all_close.proofs.Entering.{counted-entered, next_low, next-left, next-right, Stored, stored-as, entered}
use Rattle.all_close.proofs.enter.Goals as goal

-- A list begins at a place that is in.
pub put_use-requires : goal.put_use-requires
put_use-requires c =
    let low : c.args.i < most_records = next_low c.requires.0.between c.requires.0.low in
    let left_is : c.left-a.result.0 ≡ left_of c.args.work.now (suc c.args.i) = c.left-a.ensures ∙ ap (left_of c.args.work.now) c.number-r.ensures in
    let left-low : left_of c.args.work.now (suc c.args.i) < most_tags = next-left c.requires.0.between c.requires.0.low in
    (c.requires.0.between.standing.loaded.long, omega (arith, left_is, left-low), low, rw c.last_use-p.ensures (omega (arith, (c.requires.0.between.indexed.uses false).heads c.left-a.result.0, low)))

pub put_use-requires-2 : goal.put_use-requires-2
put_use-requires-2 c =
    let low : c.args.i < most_records = next_low c.requires.0.between c.requires.0.low in
    let left_is : c.left-a.result.0 ≡ left_of c.args.work.now (suc c.args.i) = c.left-a.ensures ∙ ap (left_of c.args.work.now) c.number-r.ensures in
    let right_is : c.right-b.result.0 ≡ right_of c.args.work.now (suc c.args.i) = c.right-b.ensures ∙ ap (right_of c.args.work.now) c.number-r.ensures in
    let left-low : left_of c.args.work.now (suc c.args.i) < most_tags = next-left c.requires.0.between c.requires.0.low in
    let right-low : right_of c.args.work.now (suc c.args.i) < most_tags = next-right c.requires.0.between c.requires.0.low in
    let first : Stored false (left_of c.args.work.now (suc c.args.i)) c.args.i (use_of false c.args.work.now (left_of c.args.work.now (suc c.args.i))) c.args.work.now c.put_use.new.work = stored-as c.args.work.now c.requires.0.between.standing.loaded.long _ c.args.i _ left-low low false _ _ _ left_is (c.last_use-p.ensures ∙ ap (use_of false c.args.work.now) left_is) c.put_use.ensures in
    let long : Large c.put_use.new.work = omega (arith, c.requires.0.between.standing.loaded.long, first.frame.size) in
    (long, omega (arith, right_is, right-low), low, rw (c.last_use-q.ensures, first.other-use) (omega (arith, (c.requires.0.between.indexed.uses true).heads c.right-b.result.0, low)))

pub returns : goal.returns
returns c =
    let low : c.args.i < most_records = next_low c.requires.0.between c.requires.0.low in
    let left_is : c.left-a.result.0 ≡ left_of c.args.work.now (suc c.args.i) = c.left-a.ensures ∙ ap (left_of c.args.work.now) c.number-r.ensures in
    let right_is : c.right-b.result.0 ≡ right_of c.args.work.now (suc c.args.i) = c.right-b.ensures ∙ ap (right_of c.args.work.now) c.number-r.ensures in
    let left-low : left_of c.args.work.now (suc c.args.i) < most_tags = next-left c.requires.0.between c.requires.0.low in
    let right-low : right_of c.args.work.now (suc c.args.i) < most_tags = next-right c.requires.0.between c.requires.0.low in
    let first : Stored false (left_of c.args.work.now (suc c.args.i)) c.args.i (use_of false c.args.work.now (left_of c.args.work.now (suc c.args.i))) c.args.work.now c.put_use.new.work = stored-as c.args.work.now c.requires.0.between.standing.loaded.long _ c.args.i _ left-low low false _ _ _ left_is (c.last_use-p.ensures ∙ ap (use_of false c.args.work.now) left_is) c.put_use.ensures in
    let long : Large c.put_use.new.work = omega (arith, c.requires.0.between.standing.loaded.long, first.frame.size) in
    let second : Stored true (right_of c.args.work.now (suc c.args.i)) c.args.i (use_of true c.put_use.new.work (right_of c.args.work.now (suc c.args.i))) c.put_use.new.work c.put_use-2.new.work = stored-as c.put_use.new.work long _ c.args.i _ right-low low true _ _ _ right_is (c.last_use-q.ensures ∙ ap (use_of true c.put_use.new.work) right_is) c.put_use-2.ensures in
    counted-entered c.requires.0.counted (entered c.requires.0.between c.requires.0.low c.requires.1 first second c.put_wait.ensures)
