-- `wake_tag` meets its contract. Assumes nothing.
use Rattle.list_add.proofs.Wakes.{falling-same, awake-both}
use Rattle.list_add.proofs.wake_tag.Goals as goal

pub wake_uses-made-requires : goal.wake_uses-made-requires
wake_uses-made-requires c = let p = c.requires in (p.0, p.1, p.2)

pub wake_uses-requires : goal.wake_uses-requires
wake_uses-requires c = let p = c.requires in (falling-same c.wake_uses-made.ensures.0.kept p.0, p.1, c.wake_uses-made.ensures.0.low)

pub returns : goal.returns
returns c = awake-both c.args.z.0 c.wake_uses-made.ensures c.wake_uses.ensures
