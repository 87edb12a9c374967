-- `touch_tag` meets its contract: the two lists of the tag tell all applications that have it for an argument.
-- Assumes nothing.
use Rattle.all_index.proofs.Sweeping.{touched-indexed, tagged}
use Rattle.all_index.proofs.touch_tag.Goals as goal

pub touch_uses-to-requires : goal.touch_uses-to-requires
touch_uses-to-requires c = c.requires

pub touch_uses-requires : goal.touch_uses-requires
touch_uses-requires c = (touched-indexed c.requires.0 c.touch_uses-to.ensures.0, c.requires.1)

pub returns : goal.returns
returns c =
    let a = c.touch_uses-to.ensures in
    let b = c.touch_uses.ensures in
    tagged c.args.x.0 c.requires.0 a.0 a.1 b.0 b.1
