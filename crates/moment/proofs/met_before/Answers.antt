-- `moment::met_before` meets its contract: the deeper of the two is lifted, and both climb from one depth. Assumes nothing.
use native.Mathlib.Omega.{arith}
use Rattle.moment.specs.Deep.{Beside}
use Rattle.moment.proofs.Steps.{beside-compared}
use Rattle.moment.proofs.met_before.Goals as goal

pub climb_abreast-requires : goal.climb_abreast-requires
climb_abreast-requires c = record { forested = c.requires.forested; top_le_most_tags = (c.requires.top_le_most_tags.0, c.requires.top_le_most_tags.1, c.requires.top_le_most_tags.2) }

pub lift-a-requires : goal.lift-a-requires
lift-a-requires c =
    let r = c.climb_abreast.ensures in
    record { forested = c.requires.forested; top_le_most_tags = (c.requires.top_le_most_tags.0, c.requires.top_le_most_tags.1, omega (arith, r.x-tag, r.y-tag), record { more = r.links; rest = r.near; deep = r.one; left = r.x-left }) }

pub lift-b-requires : goal.lift-b-requires
lift-b-requires c =
    let r = c.climb_abreast.ensures in
    record { forested = c.requires.forested; top_le_most_tags = (c.requires.top_le_most_tags.0, c.requires.top_le_most_tags.2, omega (arith, r.x-tag, r.y-tag), record { more = r.links; rest = r.far; deep = r.other; left = r.y-left }) }

pub together-requires : goal.together-requires
together-requires c =
    let level : Beside c.args.work.now c.args.top c.args.s.0 c.args.t.0 c.lift-a.result.at.0 c.lift-b.result.at.0 c.max-last.result = beside-compared c.requires.forested c.requires.top_le_most_tags.0 c.requires.top_le_most_tags.3 c.climb_abreast.ensures c.lift-a.ensures c.lift-b.ensures c.max-last.ensures in
    record { forested = c.requires.forested; top_le_most_tags = (c.requires.top_le_most_tags.0, record { s = c.args.s.0; t = c.args.t.0; beside = level }) }

pub returns : goal.returns
returns c =
    let level : Beside c.args.work.now c.args.top c.args.s.0 c.args.t.0 c.lift-a.result.at.0 c.lift-b.result.at.0 c.max-last.result = beside-compared c.requires.forested c.requires.top_le_most_tags.0 c.requires.top_le_most_tags.3 c.climb_abreast.ensures c.lift-a.ensures c.lift-b.ensures c.max-last.ensures in
    c.together.ensures.met _ _ level
