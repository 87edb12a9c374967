-- The rest of a recheck: where it may go on, the closure has the columns and the judge what the closure leaves, and its judgement makes the
-- promise; else the refusal is as it was seen. In both the work table is given back last.
-- Assumes nothing.
use Rattle.std.proofs.Common.{refl}
use Rattle.harness_rest.proofs.Profile.{begun-viewed, begun-profile}
use Rattle.harness_rest.proofs.Weighing.{weigh-long, weigh-asks, weigh-done, weigh-refused, weighed-seen}
use Rattle.harness_rest.proofs.weigh.Goals as goal

pub in_profile-requires : goal.in_profile-requires
in_profile-requires c = begun-viewed c.requires

pub close-t-requires : goal.close-t-requires
close-t-requires c = (begun-profile c.requires _ c.in-Ok.ensures).loaded refl

pub judge-j-requires : goal.judge-j-requires
judge-j-requires c = weigh-asks c.args.job.now c.args.report.now c.args.work.now _ (begun-profile c.requires _ c.in-Ok.ensures) refl _ _ _ c.close-t.ensures

pub give_back-requires-in-Err : goal.give_back-requires-in-Err
give_back-requires-in-Err c = λ q. weigh-long c.args.job.now c.args.report.now c.args.work.now _ (begun-profile c.requires _ c.in-Err.ensures) (rw c.is_lent.ensures at q)

pub returns-in-Ok : goal.returns-in-Ok
returns-in-Ok c =
    rw c.found.ensures
    (weighed-seen c.in-Ok.ensures (weigh-done c.args.job.now c.args.report.now c.args.work.now _ (begun-profile c.requires _ c.in-Ok.ensures) refl _ _ _ c.close-t.ensures _ _ c.judge-j.result c.judge-j.ensures c.give_back.ensures))

pub returns-in-Err : goal.returns-in-Err
returns-in-Err c = weighed-seen c.in-Err.ensures (weigh-refused c.args.job.now c.args.report.now c.args.work.now _ (begun-profile c.requires _ c.in-Err.ensures) _ refl (rw c.is_lent.ensures at c.give_back-in-Err.ensures))
