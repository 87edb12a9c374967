-- `harness_test::breach` meets its contract: the tags are equal, so that explain leaves the reason in the list, whose field is compared, and its sheets are looked for behind it.
-- Assumes nothing.
use native.Mathlib.Omega.{arith}
use mathlib.Core.Path.{ap}
use Rattle.job_field.specs.Items.{Head}
use Rattle.harness_test.proofs.Stands.{list-few, breach-grounded, behind-there, breach-found}
use Rattle.harness_test.proofs.breach.Goals as goal

pub explain-requires : goal.explain-requires
explain-requires c = record { question = record { past = c.requires.0.past; stands = c.requires.0.passed; s-tag = c.requires.0.from; t-tag = c.requires.0.to }; plain = c.requires.1 }

pub breach_stands-found-requires : goal.breach_stands-found-requires
breach_stands-found-requires c =
    let few = list-few c.in-Some.count c.explain.new.work c.requires.0.past.loaded.few c.in-Some.ensures.says in
    (c.explain.ensures.past.loaded.long, omega (arith, few), c.requires.2)

pub sheets_behind-requires : goal.sheets_behind-requires
sheets_behind-requires c =
    let g = breach-grounded c.requires.0 c.requires.2 c.args.number c.in-Some.count c.explain.new.work c.explain.ensures.past.loaded.long c.in-Some.ensures.says in
    (ap (λ (h : Head). h.sheeted) c.requires.0.head, behind-there g c.breach_stands-found.ensures)

pub returns-in-Some : goal.returns-in-Some
returns-in-Some c = breach-found c.requires.0 c.requires.2 c.args.number c.in-Some.count c.explain.new.work c.explain.ensures.past.loaded.long c.in-Some.ensures.says c.explain.ensures.kept c.breach_stands-found.ensures c.sheets_behind.ensures

pub returns-in-None : goal.returns-in-None
returns-in-None c = absurd (c.in-None.ensures.says c.requires.0.equal)
