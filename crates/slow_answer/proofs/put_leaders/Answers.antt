-- `put_leaders` meets its contract: a turn lays the next leader behind those that are laid. Assumes nothing.
use native.Mathlib.Omega.{arith}
use Prim.Native.Nat.{ℕ}
use mathlib.Core.Path.{◌≡◌, refl, sym, ap, ◌∙◌}
use Rattle.table.specs.Map.{gather}
use Rattle.leading.specs.Leading.{leader_in}
use Rattle.report.specs.Report.{numbers, laid}
use Rattle.report.proofs.Laid.{laid_none}
use Rattle.report_numbers.proofs.Written.{list-laid}
use Rattle.slow_answer.proofs.put_leaders.Goals as goal

pub loop-i-init : goal.loop-i-init
unfolding numbers
loop-i-init c = (refl, sym (laid_none 0 c.args.room.now))

pub put_leader-requires : goal.put_leader-requires
put_leader-requires c =
    let l = c.loop-i in
    (c.requires.0.long, omega (arith, c.requires.0.few), c.requires.0.low l.i (omega arith), omega (arith, c.requires.1, l.invariant.0))

pub loop-i-preserved : goal.loop-i-preserved
loop-i-preserved c =
    let l = c.loop-i in
    (c.put_leader.auto.room ∙ l.invariant.0, list-laid (leader_in c.args.work.now) 0 l.i c.args.room.now l.room c.put_leader.new.room (omega (arith, c.requires.1)) l.invariant.1 c.put_leader.ensures)
