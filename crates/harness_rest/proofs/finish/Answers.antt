-- The rest of a run: where it may go on, the report's writer has what it asks for, and what it leaves makes the promise; else the refusal is as it
-- was seen. In both the work table is given back last.
-- Assumes nothing.
use Rattle.std.proofs.Common.{refl}
use native.Mathlib.Omega.{arith}
use mathlib.Core.Logic.{inl, inr}
use Rattle.call_rest.proofs.Finishing.{fitted-roomy}
use Rattle.harness_rest.proofs.Profile.{begun-viewed, begun-profile}
use Rattle.harness_rest.proofs.Finishing.{begun-fitted, finished-fitted, fitted-long, finish-asks, finish-done, finish-refused, finished-seen}
use Rattle.harness_rest.proofs.finish.Goals as goal

pub in_profile-viewed-requires : goal.in_profile-viewed-requires
in_profile-viewed-requires c = begun-viewed c.requires

pub respond-length-requires : goal.respond-length-requires
respond-length-requires c =
    finish-asks c.args.job.now c.args.room.now c.args.work.now _ (begun-fitted (begun-profile c.requires _ c.in_profile-viewed.ensures) c.in-Ok.ensures refl) (fitted-roomy c.in-Ok.ensures refl)

pub give_back-requires : goal.give_back-requires
give_back-requires c =
    λ _.
    omega (arith, c.respond-length.ensures.kept.size, fitted-long (begun-profile c.requires _ c.in_profile-viewed.ensures) _ c.in-Ok.ensures (inr refl))

pub give_back-requires-in-Err : goal.give_back-requires-in-Err
give_back-requires-in-Err c = λ q. fitted-long (begun-profile c.requires _ c.in_profile-viewed.ensures) _ c.in-Err.ensures (inl (rw c.is_lent.ensures at q))

pub returns-in-Ok : goal.returns-in-Ok
returns-in-Ok c =
    finished-seen c.in_profile-viewed.ensures
    (finished-fitted c.in-Ok.ensures refl (finish-done c.args.job.now c.args.room.now c.args.work.now _ (begun-fitted (begun-profile c.requires _ c.in_profile-viewed.ensures) c.in-Ok.ensures refl) (fitted-roomy c.in-Ok.ensures refl) _ _ _ _ c.respond-length.ensures c.give_back.ensures))

pub returns-in-Err : goal.returns-in-Err
returns-in-Err c = finished-seen c.in_profile-viewed.ensures (finish-refused c.args.job.now c.args.room.now c.args.work.now _ (begun-profile c.requires _ c.in_profile-viewed.ensures) _ _ c.in-Err.ensures refl (rw c.is_lent.ensures at c.give_back-in-Err.ensures))
