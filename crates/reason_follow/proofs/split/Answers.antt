-- `reason_follow::split` meets its contract: the newest join is older than all between the two tags, so what waits grows older. Assumes nothing.
use native.Mathlib.Omega.{arith}
use native.Mathlib.Numerals.{add-one}
use Rattle.moment.proofs.Kept.{past-forest}
use Rattle.reason_follow.proofs.Ways.{way-low, way-limit, way-together, way-crossed, split-room, split-turned, split-kept, split-way, split-falls}
use Rattle.reason_follow.proofs.split.Goals as goal

pub met_before-b-requires : goal.met_before-b-requires
met_before-b-requires c =
    let o = c.requires.0.way in
    let h = way-together o in
    record { forested = past-forest h.holds.past; top_le_most_tags = (omega (arith, way-low o, way-limit o), h.from, h.to, c.requires.1) }

pub sides-e-requires : goal.sides-e-requires
sides-e-requires c = (way-crossed c.requires.0.way c.met_before-b.ensures).1

pub put_waiting-requires : goal.put_waiting-requires
put_waiting-requires c = split-turned c.requires.0.way c.met_before-b.ensures c.sides-e.ensures

pub overflow_add-result : goal.overflow_add-result
overflow_add-result c = omega (arith, split-room c.requires.0.way c.met_before-b.ensures c.sides-e.ensures)

pub returns : goal.returns
returns c =
    record {
      kept = split-kept c.requires.0.way c.met_before-b.ensures c.sides-e.ensures c.put_waiting.ensures;
      way = λ w₀ limit s o. rw add-one (split-way o c.met_before-b.ensures c.sides-e.ensures c.put_waiting.ensures);
      falls = rw add-one (split-falls c.requires.0.way c.met_before-b.ensures c.sides-e.ensures c.put_waiting.ensures);
    }
