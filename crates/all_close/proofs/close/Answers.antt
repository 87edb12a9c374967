-- `close` meets its contract. Between records every moment so far is settled, and the idle records so far are counted.
-- Assumes nothing.
use mathlib.Core.Path.{◌≡◌}
use native.Mathlib.Omega.{arith}
use mathlib.Core.Logic.{inl, inr}
use native.Mathlib.Numerals.{add-one}
use Rattle.meaning.specs.Totals.{none}
use Rattle.meaning.proofs.Count.{count_most}
use Rattle.table.proofs.Frame.{within-refl, within-trans}
use Rattle.all_close.proofs.Moments.{between_start, idle-turn, close-done}
use Rattle.all_close.proofs.close.Goals as goal
use Rattle.all_close.proofs.close.Goals.{then-r, else-r}

pub loop-i-init : goal.loop-i-init
loop-i-init c = (within-refl _, between_start c.requires c.begin.ensures, none)

pub overflow_add-idle : goal.overflow_add-idle
overflow_add-idle c = let l = c.loop-i.invariant in record { fits = omega (arith, count_most l.2, l.1.standing.loaded.most) }

pub loop-i-preserved : goal.loop-i-preserved
loop-i-preserved c =
    let a = c.admit-r.ensures in (
      within-trans c.loop-i.invariant.0 a.frame,
      rw add-one a.between,
      idle-turn a c.loop-i.invariant.2 c.if-r.idle (elim c.if-r.branch [ then-r z ↦ inl (z.if-r.true, z.idle-is) | else-r z ↦ inr (z.if-r.false, z.idle-is) ]),
    )

pub returns : goal.returns
returns c =
    let e : c.loop-i.i ≡ c.args.len = omega arith in
    close-done (within-trans c.begin.ensures.frame c.loop-i.invariant.0) (rw e at c.loop-i.invariant.1) (rw e at c.loop-i.invariant.2)
