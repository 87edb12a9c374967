-- `sift` meets its contract. Assumes nothing.
use Rattle.list_halve.proofs.Steps.{sift-ready, sifted}
use Rattle.list_halve.proofs.sift.Goals as goal

pub begin-requires : goal.begin-requires
begin-requires c = c.requires.listing

pub halve-requires : goal.halve-requires
halve-requires c = sift-ready c.requires c.begin.ensures

pub returns : goal.returns
returns c = sifted c.requires c.begin.ensures c.halve.ensures
