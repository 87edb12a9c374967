-- `receive_over` meets its contract: what the call says of the table that it lends is what is promised.
-- Assumes nothing.
use Rattle.haltzurme_own.proofs.receive_over.Goals as goal

pub returns : goal.returns
returns c = record { records = c.receive.new.records; received = c.receive.ensures }
