-- `answer_why::write_leaders` meets its contract: the front says two bytes for each number, and a turn lays the next leader
-- behind those that are laid. Assumes nothing.
use native.Mathlib.Omega.{arith}
use Prim.Native.Nat.{ℕ, ◌+◌, ◌≤◌}
use mathlib.Core.Path.{◌≡◌, refl, sym, ap, ◌∙◌}
use lib.ListN.{length}
use Rattle.table.specs.Map.{gather}
use Rattle.leading.specs.Leading.{leader_in}
use Rattle.report.specs.Report.{numbers, laid}
use Rattle.report.proofs.Laid.{laid_none}
use Rattle.report_numbers.proofs.Written.{list-laid, field-laid}
use Rattle.answer_why.proofs.write_leaders.Goals as goal

pub loop-i-init : goal.loop-i-init
unfolding numbers
loop-i-init c = (omega arith, refl, sym (laid_none (c.args.at + 3) c.put_front.new.room))

pub put_leader-requires : goal.put_leader-requires
put_leader-requires c =
    let f : length c.loop-i.room ≡ length c.args.room.now = c.loop-i.invariant.1 ∙ c.put_front.auto.room in
    (c.requires.0.long, omega (arith, c.requires.0.few, c.loop-i-test), c.requires.0.low c.loop-i.i c.loop-i-test.true, omega (arith, c.requires.1, c.loop-i-test))

pub loop-i-preserved : goal.loop-i-preserved
loop-i-preserved c =
    let a = c.args in
    let l = c.loop-i in
    let room = c.put_front.new.room in
    let f : length room ≡ length a.room.now = c.put_front.auto.room in
    let i : l.i ≤ a.size = l.invariant.0 in
    (omega arith, c.put_leader.auto.room ∙ l.invariant.1, list-laid (leader_in a.work.now) (a.at + 3) l.i room l.room c.put_leader.new.room (omega (arith, c.requires)) l.invariant.2 c.put_leader.ensures)

pub returns : goal.returns
returns c =
    let a = c.args in
    let l = c.loop-i in
    let room = c.put_front.new.room in
    let e : l.i ≡ a.size = omega (arith, l.invariant.0) in
    field-laid 136 (leader_in a.work.now) a.at a.size a.room.now room l.room (omega (arith, c.requires)) c.put_front.ensures (l.invariant.2 ∙ ap (λ (n : ℕ). laid (a.at + 3) (numbers (gather (leader_in a.work.now) n)) room) e)
