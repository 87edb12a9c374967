-- `join` meets its contract. A due join names two classes, and either of them may be the one that goes.
-- Assumes nothing.
use mathlib.Core.Logic.{inl, inr}
use native.Mathlib.Omega.{arith}
use Rattle.all_join.proofs.Joining.{leaders}
use Rattle.all_join.proofs.Uniting.{label-a, label-b, Either, joining-either}
use Rattle.all_join.proofs.join.Goals as goal
use Rattle.all_join.proofs.join.Goals.{then-is_fewer, else-is_fewer}

pub is_fewer-requires : goal.is_fewer-requires
is_fewer-requires c =
    let f = leaders c.requires.standing.log in (
      c.requires.standing.loaded.long,
      omega (arith, c.class_of-x.ensures.1, f.low c.args.a.0, (label-a c.requires).1, c.requires.standing.loaded.few),
      omega (arith, c.class_of-y.ensures.1, f.low c.args.b.0, (label-b c.requires).1, c.requires.standing.loaded.few),
    )

pub unite-requires : goal.unite-requires
unite-requires c =
    let either : Either c.class_of-x.result c.class_of-y.result c.if-is_fewer.kept c.if-is_fewer.gone = elim c.if-is_fewer.branch [ then-is_fewer z ↦ inl (z.kept-is, z.gone-is) | else-is_fewer z ↦ inr (z.kept-is, z.gone-is) ] in
    joining-either c.requires c.class_of-x.ensures c.class_of-y.ensures either
