-- Assumes nothing.
use Rattle.records.proofs.Cleared.{front-blanked}
use Rattle.records.proofs.clear.Goals as goal

pub returns : goal.returns
returns c = front-blanked c.args.records.now c.fill.new.self c.requires c.fill.ensures.len (c.fill.ensures.after (λ y e. e))
