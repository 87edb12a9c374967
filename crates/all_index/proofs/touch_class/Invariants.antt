-- `touch_class` meets its contract. Every tag that is labelled so stands between the first and the top, so all were gone by.
-- Assumes nothing.
use Rattle.all_index.proofs.Sweeping.{Swept}
use Rattle.all_index.proofs.touch_class.Given as goal

abbrev pub invariant-loop-x : goal.invariant-loop-x
invariant-loop-x l = Swept l.front l.gone.0 l.initial.work l.work l.x l.to
