-- `sheets_walk::file_listed` meets its contract: each turn passes one field, and files its sheet if the record is the next of the list.
-- Assumes nothing.
use native.Mathlib.Omega.{arith}
use mathlib.Core.Path.{◌≡◌, sym, ap, ◌∙◌, subst}
use lib.ListN.{length}
use Rattle.job_field.specs.Reading.{Field, field_standing}
use Rattle.sheets_walk.specs.Walk.{sheets_at, Meeting, Turn}
use Rattle.sheets_walk.proofs.Walk.{walking-begin, walking-within, walking-closer, walking-few, walking-met, walking_on, walking-end}
use Rattle.sheets_walk.proofs.file_listed.Goals as goal

pub loop-i-init : goal.loop-i-init
loop-i-init c = walking-begin c.requires.0 c.requires.1 c.behind-at.ensures

pub take_one-i-requires : goal.take_one-i-requires
take_one-i-requires c = subst (λ (f : Field). Meeting f c.loop-i.work c.loop-i.passed c.loop-i.i) (sym c.read-field.ensures) (walking-met c.loop-i.invariant c.requires.0 c.loop-i-test.true)

pub overflow_add-passed : goal.overflow_add-passed
overflow_add-passed c = omega (arith, walking-few c.loop-i.invariant c.requires.0, c.from-passed.ensures)

pub behind-at-requires-in-loop-i : goal.behind-at-requires-in-loop-i
behind-at-requires-in-loop-i c = omega (arith, walking-within c.loop-i.invariant)

pub loop-i-smaller : goal.loop-i-smaller
loop-i-smaller c = let d = walking-closer c.loop-i.invariant in omega (arith, c.behind-at-in-loop-i.ensures, d.0, d.1)

pub loop-i-preserved : goal.loop-i-preserved
loop-i-preserved c =
    let e : _ ≡ length (sheets_at (field_standing c.args.job.now c.loop-i.at)) = c.from-passed.ensures ∙ c.records_here.ensures ∙ ap (λ (f : Field). length (sheets_at f)) c.read-field.ensures in
    rw (c.behind-at-in-loop-i.ensures, e) (walking_on c.requires.0 c.loop-i-test.true c.loop-i.invariant _ _ (subst (λ (f : Field). Turn f c.loop-i.work c.loop-i.passed c.loop-i.i c.take_one-i.new.work c.take_one-i.result) c.read-field.ensures c.take_one-i.ensures))

pub returns : goal.returns
returns c = walking-end c.loop-i.invariant (omega (arith, c.loop-i.invariant.most, c.loop-i-test.false))
