-- `wake` meets its contract. Assumes nothing.
use native.Mathlib.Omega.{arith}
use mathlib.Core.Path.{sym, ◌∙◌}
use Rattle.list_add.proofs.Wakes.{woken-none, woken-one}
use Rattle.list_add.proofs.wake.Goals as goal

pub queued-requires : goal.queued-requires
queued-requires c = (c.requires.0.long, c.requires.1)

pub overflow_add-last : goal.overflow_add-last
overflow_add-last c = omega (arith, c.requires.2)

pub put_queued-requires : goal.put_queued-requires
put_queued-requires c = (c.requires.0.long, c.requires.1, omega (arith, c.requires.2))

pub overflow_add-result : goal.overflow_add-result
overflow_add-result c = omega (arith, c.requires.1)

pub returns-then-queued-eq1 : goal.returns-then-queued-eq1
returns-then-queued-eq1 c = let p = c.requires in woken-one p.0 p.1 p.2 p.3 (sym c.queued.ensures ∙ c.if-queued-eq1.true) c.put_queued.ensures

pub returns : goal.returns
returns c = (woken-none c.requires.2, λ e. c.if-queued-eq1.false (c.queued.ensures ∙ e))
