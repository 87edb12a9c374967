use mathlib.Core.Path.{◌≡◌}
use native.Mathlib.Omega.{arith}
use lib.Seq.{slice}
use Rattle.script_meaning.specs.Tokens.{same_bytes}
use Rattle.script_meaning.proofs.Matching.{parts-same}
use Rattle.script_names.specs.Names.{fitting}
use Rattle.script_names.proofs.holds.Goals as goal

pub returns : goal.returns
unfolding fitting
returns c = let e : c.eq.result ≡ same_bytes (slice c.from-a.result c.from-b.result c.args.script.now) (slice c.args.from c.args.to c.args.script.now) = parts-same c.args.script.now (omega arith) (omega arith) c.eq.ensures in cc
