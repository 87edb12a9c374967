use borrow.Author.Rules.{rules}
use Prim.Native.Nat.{◌<◌}
use native.Mathlib.Omega.{arith}
use Rattle.script_shelf.proofs.Searching.{linked}
use Rattle.script_parts.specs.Pairs.{fitting, pair_in}
use Rattle.script_parts.proofs.Pairs.{key-same}
use Rattle.script_parts.proofs.find.Goals as goal

pub seek-requires : goal.seek-requires
seek-requires c = linked c.requires.chain c.requires.long (omega (arith, c.requires.few)) (λ k h. let l = c.requires.long in let m : k < 1001 = omega (arith, c.requires.few) in search rules)

pub returns : goal.returns
unfolding pair_in
returns c = c.seek.ensures.found {f = fitting c.args.work.now c.args.a c.args.b} (record { says = λ k h r p. search rules; same = key-same c.args.work.now c.args.a c.args.b; chain = c.requires.chain })
