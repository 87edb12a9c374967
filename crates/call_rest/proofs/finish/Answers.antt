-- The rest of a run: where it may go on, the report's writer has what it asks for, and what it leaves makes the promise; else the refusal is as it
-- was seen. In both the work table is given back last.
-- Assumes nothing.
use Rattle.std.proofs.Common.{refl}
use mathlib.Core.Logic.{inl}
use Rattle.call_rest.proofs.Finishing.{begun-fitted, fitted-roomy, finished-fitted, fitted-long, finish-asks, finish-done, finish-refused}
use Rattle.call_rest.proofs.finish.Goals as goal

pub respond-length-requires : goal.respond-length-requires
respond-length-requires c = finish-asks c.args.job.now c.args.room.now c.args.work.now _ (begun-fitted c.requires c.in-Ok.ensures refl) (fitted-roomy c.in-Ok.ensures refl)

pub give_back-requires-in-Err : goal.give_back-requires-in-Err
give_back-requires-in-Err c = λ q. fitted-long c.requires _ c.in-Err.ensures (inl (rw c.is_lent.ensures at q))

pub returns-in-Ok : goal.returns-in-Ok
returns-in-Ok c =
    finished-fitted c.in-Ok.ensures refl (finish-done c.args.job.now c.args.room.now c.args.work.now _ (begun-fitted c.requires c.in-Ok.ensures refl) (fitted-roomy c.in-Ok.ensures refl) _ _ _ _ c.respond-length.ensures c.give_back.ensures)

pub returns-in-Err : goal.returns-in-Err
returns-in-Err c = finish-refused c.args.job.now c.args.room.now c.args.work.now _ c.requires _ _ c.in-Err.ensures refl (rw c.is_lent.ensures at c.give_back-in-Err.ensures)
