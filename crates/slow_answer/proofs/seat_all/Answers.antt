-- `seat_all` meets its contract. The part that is lent is the region of the seats, and comes back with each tag on its own; then the units take theirs.
-- Assumes nothing.
use mathlib.Core.Path.{refl}
use Rattle.slow_answer.proofs.Telling.{own-seatable, seated-from}
use Rattle.slow_answer.proofs.seat_all.Goals as goal

pub seat_units-requires : goal.seat_units-requires
seat_units-requires c = own-seatable c.count_up.new.part c.requires c.count_up.auto.part refl c.count_up.ensures

pub returns : goal.returns
returns c = seated-from c.count_up.new.part c.requires c.count_up.auto.part refl c.count_up.ensures c.seat_units.ensures
