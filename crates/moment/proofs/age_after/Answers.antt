-- `moment::age_after` meets its contract: the loop counts the joins below a, as the definition does.
-- Assumes nothing.
use borrow.Author.Rules.{rules}
use mathlib.Core.Path.{◌≡◌, ◌∙◌}
use native.Mathlib.Omega.{arith}
use Rattle.table.specs.Map.{when_of}
use Rattle.moment.proofs.Moments.{count-in, count-out}
use Rattle.moment.proofs.age_after.Goals as goal
use Rattle.moment.proofs.age_after.Goals.{then-made-before, else-made-before}

pub loop-a-init : goal.loop-a-init
loop-a-init c = (search rules, omega arith)

pub loop-a-preserved : goal.loop-a-preserved
loop-a-preserved c =
    let at = c.loop-a in
    let h = when_of c.args.work.now in
    let k = c.args.before in
    elim c.if-made-before.branch [
      | then-made-before w ↦ (omega arith, w.n-is ∙ count-in h k at.a at.n c.made.result c.made.ensures w.if-made-before.true at.invariant.1)
      | else-made-before w ↦ (omega arith, w.n-is ∙ count-out h k at.a at.n c.made.result c.made.ensures w.if-made-before.false at.invariant.1)
    ]

pub returns : goal.returns
returns c = let q : c.loop-a.a ≡ c.args.joins = omega arith in rw (← q) c.loop-a.invariant.1
