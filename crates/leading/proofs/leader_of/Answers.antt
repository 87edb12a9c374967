-- `leading::leader_of` meets its contract: the seat of the label that was read.
-- Assumes nothing.
use Prim.Native.Nat.{ℕ}
use native.Mathlib.Omega.{arith}
use mathlib.Core.Path.{◌∙◌, ap}
use Rattle.table.specs.Map.{saved_of}
use Rattle.leading.proofs.leader_of.Goals as goal

pub seat-requires : goal.seat-requires
seat-requires c = (c.requires.0, omega (arith, c.requires.2, c.label.ensures))

pub returns : goal.returns
returns c = c.seat.ensures ∙ ap (λ (x : ℕ). saved_of c.args.work.now x) c.label.ensures
