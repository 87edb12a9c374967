-- `call_look::look` meets its contract: the three lengths are compared in their order, and then the job is viewed.
-- Assumes nothing.
use native.Mathlib.Omega.{arith}
use mathlib.Core.Logic.{inl, inr}
use Rattle.call_look.specs.Look.{long, narrow, viewed}
use Rattle.call_look.proofs.look.Goals as goal

pub returns-then-longest_of-job : goal.returns-then-longest_of-job
returns-then-longest_of-job c = rw c.of.ensures (long (omega (arith, c.if-longest_of-job.true, c.longest_of.ensures)))

pub returns-then-places-lt-PLACES : goal.returns-then-places-lt-PLACES
returns-then-places-lt-PLACES c = rw c.of-then-places-lt-PLACES.ensures (narrow (omega (arith, c.if-longest_of-job.false, c.longest_of.ensures)) (inl (omega (arith, c.if-places-lt-PLACES.true))))

pub returns-then-numbers-lt-NAMED : goal.returns-then-numbers-lt-NAMED
returns-then-numbers-lt-NAMED c = rw c.of-then-numbers-lt-NAMED.ensures (narrow (omega (arith, c.if-longest_of-job.false, c.longest_of.ensures)) (inr (omega (arith, c.if-numbers-lt-NAMED.true))))

pub returns : goal.returns
returns c = viewed (record { short = omega (arith, c.if-longest_of-job.false, c.longest_of.ensures); places = omega (arith, c.if-places-lt-PLACES.false); numbers = omega (arith, c.if-numbers-lt-NAMED.false) }) c.view.ensures
