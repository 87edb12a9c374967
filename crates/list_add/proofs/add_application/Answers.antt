-- `add_application` meets its contract: it waits alone, and all is settled then. Assumes nothing.
use native.Mathlib.Omega.{arith}
use mathlib.Core.Path.{refl}
use Rattle.list_add.proofs.Adds.{come-application, application-added}
use Rattle.list_add.proofs.add_application.Goals as goal

pub put_queued-requires : goal.put_queued-requires
put_queued-requires c = let a = c.requires.0 in (a.rested.standing.long, omega (arith, a.top, a.rested.short), omega arith)

pub overflow_add-s : goal.overflow_add-s
overflow_add-s c = omega (arith, c.requires.0.top, c.requires.0.rested.short)

pub settle-requires : goal.settle-requires
settle-requires c = let a = c.requires.0 in come-application a.rested (omega (arith, a.top)) c.requires.1 (a.outs _ (omega arith) (omega arith)) c.put_queued.ensures (λ e. omega arith) refl c.requires.2

pub returns : goal.returns
returns c = let a = c.requires.0 in let e = c.settle.ensures in application-added a.rested (omega (arith, a.top)) c.requires.1 (a.outs _ (omega arith) (omega arith)) c.put_queued.ensures (λ e. omega arith) e.1 e.0 c.requires.2
