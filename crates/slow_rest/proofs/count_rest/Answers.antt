-- `count_rest` meets its contract. Where it may go on the closure has what it asks for, and what it leaves makes the promise; else the refusal is as it was seen. In both the work table is given back last.
-- Assumes nothing.
use Rattle.std.proofs.Common.{refl}
use mathlib.Core.Path.{◌∙◌}
use mathlib.Core.Logic.{inl}
use Rattle.slow_rest.proofs.Resting.{begun-fitted, fitted-roomy, rested-fitted, fitted-long, rest-asks, rest-done, rest-refused}
use Rattle.slow_rest.proofs.count_rest.Goals as goal

pub answer_passes-passes-requires : goal.answer_passes-passes-requires
answer_passes-passes-requires c = rest-asks c.args.job.now c.args.room.now c.args.work.now _ c.args.limit c.args.watch (begun-fitted c.requires c.in-Ok.ensures refl) (fitted-roomy c.in-Ok.ensures refl) _ (c.from-unit.ensures ∙ c.units.ensures)

pub give_back-requires-in-Err : goal.give_back-requires-in-Err
give_back-requires-in-Err c = λ q. fitted-long c.requires _ c.in-Err.ensures (inl (rw c.is_lent.ensures at q))

pub returns-in-Ok : goal.returns-in-Ok
returns-in-Ok c =
    rested-fitted c.in-Ok.ensures refl (rest-done c.args.job.now c.args.room.now c.args.work.now _ c.args.limit c.args.watch (begun-fitted c.requires c.in-Ok.ensures refl) (fitted-roomy c.in-Ok.ensures refl) _ (c.from-unit.ensures ∙ c.units.ensures) _ _ _ _ _ _ c.answer_passes-passes.ensures c.give_back.ensures)

pub returns-in-Err : goal.returns-in-Err
returns-in-Err c = rest-refused c.args.job.now c.args.room.now c.args.work.now _ c.args.limit c.args.watch c.requires _ _ c.in-Err.ensures refl (rw c.is_lent.ensures at c.give_back-in-Err.ensures)
