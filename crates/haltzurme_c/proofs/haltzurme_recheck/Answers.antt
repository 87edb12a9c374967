-- `haltzurme_recheck` meets its contract: what is written is what the call answers.
-- Assumes nothing.
use Rattle.haltzurme_c.proofs.haltzurme_recheck.Goals as goal

pub returns : goal.returns
returns c = rw (c.write_place.ensures.number, c.write_place.ensures.place) c.recheck_report.ensures
