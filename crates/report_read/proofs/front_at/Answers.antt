-- `report_read::front_at` meets its contract: a field stands at the place exactly where its three bytes and as many as they say are there.
-- Assumes nothing.
use mathlib.Core.Path.{◌≡◌}
use native.Mathlib.Omega.{arith}
use Rattle.report_read.proofs.Read.{front-missing, front_cut, front-whole}
use Rattle.report_read.proofs.front_at.Goals as goal

pub returns-then-report-at-lt3 : goal.returns-then-report-at-lt3
returns-then-report-at-lt3 c = let a = c.args in front-missing a.report.now a.at (omega (arith, c.requires)) (omega (arith, c.requires))

pub returns-then-report-at : goal.returns-then-report-at
returns-then-report-at c = let a = c.args in let m = c.number_in.result in let e : c.from-size.result ≡ m = c.from-size.ensures in front_cut a.report.now a.at m (omega (arith, c.requires)) c.number_in.ensures (omega (arith, c.requires))

pub returns : goal.returns
returns c =
    let a = c.args in
    let e : c.from-size.result ≡ c.number_in.result = c.from-size.ensures in
    front-whole a.report.now a.at c.from-size.result (omega (arith, c.requires)) (rw e c.number_in.ensures)
