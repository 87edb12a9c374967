use borrow.Author.Rules.{rules}
use Prim.Native.Nat.{◌<◌}
use native.Mathlib.Omega.{arith}
use Rattle.script_shelf.proofs.Searching.{linked}
use Rattle.script_names.specs.Names.{fitting, name_in}
use Rattle.script_names.proofs.Names.{key-same}
use Rattle.script_names.proofs.find.Goals as goal

pub seek-requires : goal.seek-requires
seek-requires c = linked c.requires.chain c.requires.long (omega (arith, c.requires.few)) (λ k h. let l = c.requires.long in let m : k < 1001 = omega (arith, c.requires.few) in let i = c.requires.inside k h in let o = c.requires.order in let w = c.requires.within in search rules)

pub returns : goal.returns
unfolding name_in
returns c = c.seek.ensures.found {f = fitting c.args.script.now c.args.work.now c.args.from c.args.to} (record { says = λ k h r p. search rules; same = key-same c.args.script.now c.args.work.now c.args.from c.args.to; chain = c.requires.chain })
