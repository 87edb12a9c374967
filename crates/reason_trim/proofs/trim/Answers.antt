-- `trimming::trim` meets its contract. Assumes nothing.
use native.Mathlib.Omega.{arith}
use Rattle.reason_trim.proofs.Closing.{followed-sifting, pruned}
use Rattle.reason_trim.proofs.trim.Goals as goal

pub copy-requires : goal.copy-requires
copy-requires c = (c.requires.loaded.long, omega (arith, c.requires.short), omega (arith, c.requires.short))

pub sift-requires : goal.sift-requires
sift-requires c = followed-sifting c.requires c.copy.ensures

pub close_up-requires : goal.close_up-requires
close_up-requires c = (omega (arith, c.requires.loaded.long, c.copy.ensures.kept.size, c.sift.ensures.kept.size), omega (arith, c.requires.short))

pub returns : goal.returns
returns c = pruned c.requires c.copy.ensures c.sift.ensures c.close_up.ensures
