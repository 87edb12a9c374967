-- `rename` meets its contract. The part that is lent holds all labels that change, and comes back mapped.
-- Assumes nothing.
use mathlib.Core.Path.{refl}
use Prim.Native.Nat.{◌+◌, ◌-◌}
use native.Mathlib.Omega.{arith}
use Rattle.table.specs.Places.{LABEL}
use Rattle.all_join.proofs.Tops.{renamed-part}
use Rattle.all_join.proofs.rename.Goals as goal

pub returns : goal.returns
returns c =
    let a = c.tag_place-start in
    let z = c.tag_place-end in
    let at = LABEL.at + a.result in
    renamed-part c.args.work.now _ c.rename.new.part c.args.kept.0 c.args.gone.0 c.args.from.0 c.args.top.0 at (LABEL.at + z.result + 1 - at) c.requires.0 c.requires.1 c.requires.2
    (omega (arith, a.ensures)) (omega (arith, c.requires.1, a.ensures, z.ensures)) c.requires.3 refl c.rename.ensures
