-- `harness_find::improve` meets its contract: a better last record is stored, another is not.
-- Assumes nothing.
use mathlib.Core.Path.{sym, ◌∙◌}
use Rattle.harness_find.proofs.Trying.{improve-v, improve-last, improve-down, offered-better, offered-kept}
use Rattle.harness_find.proofs.improve.Goals as goal

pub last_record-j-requires : goal.last_record-j-requires
last_record-j-requires c = (c.requires.0.long, improve-v c.requires.0 0 _ _ c.requires.1 c.requires.2)

pub far-y-requires : goal.far-y-requires
far-y-requires c = (c.requires.0.long, rw c.last_record-j.ensures (improve-last c.requires.0 0 _ _ c.requires.1 c.requires.2))

pub is_sooner-requires : goal.is_sooner-requires
is_sooner-requires c = (c.requires.0, c.requires.1, improve-down c.requires.0 0 _ _ c.requires.1 c.requires.2 c.last_record-j.ensures c.far-y.ensures)

pub put_last_record-requires : goal.put_last_record-requires
put_last_record-requires c = (c.requires.0.long, improve-v c.requires.0 0 _ _ c.requires.1 c.requires.2)

pub returns-then-is_sooner : goal.returns-then-is_sooner
returns-then-is_sooner c = offered-better c.requires.0 _ _ _ c.requires.1 c.requires.2 c.last_record-j.ensures c.far-y.ensures c.record_place-p.ensures c.record_place-q.ensures (sym c.if-is_sooner.true ∙ c.is_sooner.ensures) c.put_last_record.ensures

pub returns : goal.returns
returns c = offered-kept c.requires.0 _ _ _ c.requires.1 c.requires.2 c.last_record-j.ensures c.far-y.ensures c.record_place-p.ensures c.record_place-q.ensures (sym c.if-is_sooner.false ∙ c.is_sooner.ensures)
