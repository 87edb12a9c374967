-- `leading::leaders` meets its contract: by labels and seats where there are units, and by the links where there are none.
-- Assumes nothing.
use native.Mathlib.Omega.{arith}
use mathlib.Core.Path.{◌≡◌}
use Rattle.table.proofs.Frame.{within-refl}
use Rattle.leading.proofs.Seating.{age-few, link-leads}
use Rattle.leading.proofs.leaders.Goals as goal

pub lead-requires : goal.lead-requires
lead-requires c = c.requires.0

pub leader_of-requires : goal.leader_of-requires
leader_of-requires c =
    let h = c.requires in
    let d = c.lead.ensures in
    (omega (arith, d.frame.size, h.0.forest.long), omega (arith, h.0.few, h.1), omega (arith, h.0.few, d.low c.args.s.0 h.1))

pub leader_of-requires-then-unit-size : goal.leader_of-requires-then-unit-size
leader_of-requires-then-unit-size c =
    let h = c.requires in
    let d = c.lead.ensures in
    (omega (arith, d.frame.size, h.0.forest.long), omega (arith, h.0.few, h.2), omega (arith, h.0.few, d.low c.args.t.0 h.2))

pub returns-then-unit-size : goal.returns-then-unit-size
returns-then-unit-size c =
    let h = c.requires in
    let d = c.lead.ensures in
    record {
      frame = d.frame;
      leads = λ len P k. (rw c.leader_of.ensures (d.leads len P k c.args.s.0 h.1), rw c.leader_of-then-unit-size.ensures (d.leads len P k c.args.t.0 h.2));
    }

pub age_after-age-requires : goal.age_after-age-requires
age_after-age-requires c = let h = c.requires in (h.0.forest.long, h.0.low)

pub leader-requires : goal.leader-requires
leader-requires c = let h = c.requires in record { forested = h.0.forest; age_le_most_tags = (age-few c.args.before h.0 c.age_after-age.ensures, omega (arith, h.0.few, h.1)) }

pub leader-requires-2 : goal.leader-requires-2
leader-requires-2 c = let h = c.requires in record { forested = h.0.forest; age_le_most_tags = (age-few c.args.before h.0 c.age_after-age.ensures, omega (arith, h.0.few, h.2)) }

pub returns : goal.returns
returns c =
    let h = c.requires in
    let u : c.args.unit ≡ c.args.size = omega (arith, h.0.units, c.if-unit-size.false) in
    record {
      frame = within-refl c.args.work.now;
      leads = λ len P k. (link-leads P k h.1 u c.age_after-age.ensures c.leader.ensures, link-leads P k h.2 u c.age_after-age.ensures c.leader-2.ensures);
    }
