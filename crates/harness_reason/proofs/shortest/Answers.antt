-- `harness_reason::shortest` meets its contract: search, way back and order.
-- Assumes nothing.
use Rattle.harness_reason.proofs.Answering.{equal-sought, found-trace, traced-numbers, shortest-whole}
use Rattle.harness_reason.proofs.shortest.Goals as goal

pub search-n-requires : goal.search-n-requires
search-n-requires c = equal-sought c.requires.equal

pub trace-requires : goal.trace-requires
trace-requires c = found-trace c.search-n.ensures

pub put_rising-requires : goal.put_rising-requires
put_rising-requires c = traced-numbers c.search-n.ensures c.trace.ensures

pub returns : goal.returns
returns c = shortest-whole c.search-n.ensures c.trace.ensures c.put_rising.ensures
