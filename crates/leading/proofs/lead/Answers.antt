-- `leading::lead` meets its contract: labels by the links of the moment, then the seats of the units.
-- Assumes nothing.
use Rattle.leading.proofs.Seating.{age-few, scanned-seatable, seated-led}
use Rattle.leading.proofs.lead.Goals as goal

pub age_after-age-requires : goal.age_after-age-requires
age_after-age-requires c = let h = c.requires in (h.forest.long, h.low)

pub label_all-requires : goal.label_all-requires
label_all-requires c = let h = c.requires in (h.forest, h.few, age-few c.args.before h c.age_after-age.ensures)

pub seat_units-requires : goal.seat_units-requires
seat_units-requires c = let h = c.requires in scanned-seatable h (age-few c.args.before h c.age_after-age.ensures) c.label_all.ensures

pub returns : goal.returns
returns c = let h = c.requires in seated-led c.args.before h (age-few c.args.before h c.age_after-age.ensures) c.age_after-age.ensures c.label_all.ensures c.seat_units.ensures
