-- `haltzurme_watch` meets its contract: what is written is what the call answers.
-- Assumes nothing.
use Rattle.haltzurme_c.proofs.haltzurme_watch.Goals as goal

pub returns : goal.returns
returns c = rw (c.write_out.ensures.number, c.write_out.ensures.place, c.write_out.ensures.size) c.watch_passes.ensures
