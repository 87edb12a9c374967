-- `harness_test::explained` meets its contract: what explain leaves in the list is the reason, whose field is compared, and its sheets are looked for behind it; or the equality
-- does not follow.
-- Assumes nothing.
use native.Mathlib.Omega.{arith}
use mathlib.Core.Path.{ap}
use Rattle.job_field.specs.Items.{Head}
use Rattle.harness_test.proofs.Stands.{list-few, explain-grounded, behind-there, because-explained, apart-explained}
use Rattle.harness_test.proofs.explained.Goals as goal

pub explain-requires : goal.explain-requires
explain-requires c = record { question = record { past = c.requires.0.posed.past; stands = c.requires.0.posed.early; s-tag = c.requires.0.posed.from; t-tag = c.requires.0.posed.to }; plain = c.requires.1 }

pub reason_stands-found-requires : goal.reason_stands-found-requires
reason_stands-found-requires c =
    let few = list-few c.in-Some.count c.explain.new.work c.requires.0.posed.past.loaded.few c.in-Some.ensures.says in
    (c.explain.ensures.past.loaded.long, omega (arith, few), c.requires.2)

pub sheets_behind-requires : goal.sheets_behind-requires
sheets_behind-requires c =
    let g = explain-grounded c.requires.0 c.requires.2 c.in-Some.count c.explain.new.work c.explain.ensures.past.loaded.long c.in-Some.ensures.says in
    (ap (λ (h : Head). h.sheeted) c.requires.0.head, behind-there g c.reason_stands-found.ensures)

pub bare-requires : goal.bare-requires
bare-requires c = c.requires.2

pub returns-in-Some : goal.returns-in-Some
returns-in-Some c = because-explained c.requires.0 c.requires.2 c.in-Some.count c.explain.new.work c.explain.ensures.past.loaded.long c.in-Some.ensures.says c.explain.ensures.kept c.reason_stands-found.ensures c.sheets_behind.ensures

pub returns-in-None : goal.returns-in-None
returns-in-None c = apart-explained c.requires.0 c.requires.2 c.in-None.ensures.says c.explain.ensures.kept c.bare.ensures
