-- `judge::judge_by` meets its contract. The loop's invariant: the fields before the place are right, so that what is left decides the
-- whole. The measure is what is left of the job. Assumes nothing.
use native.Mathlib.Omega.{arith}
use mathlib.Core.Path.{◌∙◌, refl, ap}
use Rattle.std.specs.Prelude.{Ok}
use Rattle.std.proofs.lemmas.Result.{err_from_is_err_and}
use Rattle.table.proofs.Frame.{within-refl, within-trans}
use Rattle.judge.proofs.Going.{judgeable-kept, head_read, going_start, going-within, turned_on, turned-sound, turned-fault}
use Rattle.judge.proofs.judge_by.Goals as goal

pub loop-t-init : goal.loop-t-init
loop-t-init g c = record { kept = within-refl c.args.work.now; judgeable = c.requires.0; top = head_read c.requires.0 _ _ (c.from-unit.ensures ∙ c.units.ensures) c.sheeted-edition.ensures; going = going_start c.args.report.now c.requires.0 _ c.behind.ensures; asks = c.requires.1 }

pub advance-requires : goal.advance-requires
advance-requires g c = let at = c.loop-t in (at.invariant.judgeable, at.invariant.going, at.invariant.top, at.invariant.asks)

pub loop-t-smaller : goal.loop-t-smaller
loop-t-smaller g c =
    let at = c.loop-t in
    let t = turned_on c.in_ok-t.ensures.turned (ap Ok c.in-Some.is) in
    omega (arith, t.0, going-within at.invariant.going, going-within t.1)

pub loop-t-preserved : goal.loop-t-preserved
loop-t-preserved g c =
    let at = c.loop-t in
    let a = c.in_ok-t.ensures in
    record { kept = within-trans at.invariant.kept a.kept; judgeable = judgeable-kept a.kept at.invariant.judgeable; top = at.invariant.top; going = (turned_on a.turned (ap Ok c.in-Some.is)).1; asks = at.invariant.asks }

pub returns : goal.returns
returns g c =
    let at = c.loop-t in
    let a = c.in_ok-t.ensures in
    record { kept = within-trans at.invariant.kept a.kept; verdict = turned-sound a.turned (ap Ok c.in_default.is) }

pub returns-in_err-t : goal.returns-in_err-t
returns-in_err-t g c =
    let at = c.loop-t in
    let a = c.in_err-t.ensures in
    let p = err_from_is_err_and c.from_residual.result c.from_residual.ensures.1 in
    rw (p.1, p.2) (record { kept = within-trans at.invariant.kept a.kept; verdict = turned-fault a.turned refl })
