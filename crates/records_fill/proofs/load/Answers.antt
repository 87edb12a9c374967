-- Assumes nothing.
use Rattle.std.proofs.Common.{◌≡◌, arith}
use Rattle.records_fill.proofs.Loading.{loads-carried}
use Rattle.records_fill.proofs.load.Goals as goal

pub returns : goal.returns
returns c =
    let e : c.loop-i.i ≡ c.args.n = omega arith in
    rw (c.loop-i.invariant, e) (loads-carried c.args.n c.args.records.now c.args.work.now c.requires)
