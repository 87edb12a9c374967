-- `reason_test::tight` meets its contract: trimming takes a number out exactly if one can be spared, and rising order counts each once.
-- Assumes nothing.
use native.Mathlib.Omega.{arith}
use Rattle.reason_test.proofs.Lists.{moved, tight-followed, tight-numbered, tight-decided}
use Rattle.reason_test.proofs.tight.Goals as goal

pub copy-requires : goal.copy-requires
copy-requires c = (c.requires.0.posed.past.loaded.long, omega (arith, c.requires.0.few), omega (arith, c.requires.0.few))

pub trim-kept-requires : goal.trim-kept-requires
trim-kept-requires c = tight-followed c.requires.0 (moved c.copy.ensures) c.requires.1

pub put_rising-requires : goal.put_rising-requires
put_rising-requires c = tight-numbered c.requires.0 (moved c.copy.ensures) c.trim-kept.ensures

pub returns : goal.returns
returns c = tight-decided c.requires.0 (moved c.copy.ensures) c.trim-kept.ensures c.put_rising.ensures
