-- `trimming::close_up` meets its contract, place by place. Assumes nothing.
use native.Mathlib.Omega.{arith}
use native.Mathlib.Numerals.{add-one}
use mathlib.Core.Path.{◌≡◌}
use Rattle.reason_trim.proofs.Closing.{closing-start, closing-more, closing_end}
use Rattle.reason_trim.proofs.close_up.Goals as goal

pub loop-i-init : goal.loop-i-init
loop-i-init c = closing-start c.requires.0

pub keep-kept-requires : goal.keep-kept-requires
keep-kept-requires c = let v = c.loop-i.invariant in (omega (arith, v.long, v.kept_in.size), omega (arith, c.loop-i-test.true, c.requires.1), v.few)

pub loop-i-preserved : goal.loop-i-preserved
loop-i-preserved c = rw add-one (closing-more (omega (arith, c.loop-i-test.true, c.requires.1)) c.loop-i.invariant c.keep-kept.ensures)

pub returns : goal.returns
returns c = let e : c.loop-i.i ≡ c.args.n = omega (arith, c.loop-i-test.false) in closing_end c.requires.1 (rw e at c.loop-i.invariant)
