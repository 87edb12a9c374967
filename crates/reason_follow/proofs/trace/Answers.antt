-- `reason_follow::trace` meets its contract: first the way between the two tags, then what its joins rest on. Assumes nothing.
use Rattle.reason_follow.proofs.Crossing.{kept-still}
use Rattle.reason_follow.proofs.Sweep.{forgot-together, forgot-remembers, forgot-passed, traced}
use Rattle.reason_follow.proofs.trace.Goals as goal

pub forget-requires : goal.forget-requires
forget-requires c = c.requires.together.holds.past.loaded.long

pub pass-requires : goal.pass-requires
pass-requires c = (forgot-together c.forget.ensures c.requires.together, forgot-remembers c.forget.ensures c.requires)

pub rest_all-requires : goal.rest_all-requires
rest_all-requires c = (kept-still c.pass.ensures.kept (forgot-together c.forget.ensures c.requires.together).holds, c.pass.ensures.remembers)

pub returns : goal.returns
returns c = traced c.requires (forgot-passed c.forget.ensures c.pass.ensures) c.rest_all.ensures
