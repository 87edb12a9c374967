-- `touch` meets its contract: a place that does not wait is taken out of the chain of its bucket.
-- Assumes nothing.
use Prim.Native.Nat.{ℕ, ◌%◌}
use native.Mathlib.Omega.{arith}
use native.Mathlib.Numerals.{add-one}
use mathlib.Core.Path.{sym, ap, ◌∙◌}
use mathlib.Core.Logic.{◌≢◌}
use borrow.Author.Tests.{eqb-true, eqb-false}
use Rattle.table.specs.Map.{chain_of}
use Rattle.table.specs.Places.{bucket_count}
use Rattle.all_index.proofs.Views.{row-readable}
use Rattle.all_index.proofs.Sweeping.{touched-refl}
use Rattle.all_index.proofs.touch.Goals as goal

pub waits-requires : goal.waits-requires
waits-requires c = (c.requires.0.loaded.long, omega (arith, c.requires.2, c.requires.0.reach, c.requires.0.loaded.most))

pub returns-then-waits : goal.returns-then-waits
returns-then-waits c = (touched-refl c.requires.0 c.requires.1, eqb-true _ 0 (sym c.waits.ensures ∙ c.if-waits.true))

pub number-requires : goal.number-requires
number-requires c = omega (arith, c.requires.2, c.requires.0.reach, c.requires.0.loaded.most)

pub key-x-requires : goal.key-x-requires
key-x-requires c = row-readable c.requires.0.loaded c.args.j (omega (arith, c.requires.2, c.requires.0.reach)) c.number.result.0 c.number.ensures

pub above-q-requires : goal.above-q-requires
above-q-requires c = (c.requires.0, omega arith, c.requires.2)

pub take_out-requires : goal.take_out-requires
take_out-requires c =
    let n : chain_of c.args.work.now c.args.j ≢ 0 = eqb-false _ 0 (sym c.waits.ensures ∙ c.if-waits.false) in
    let e = ap (λ (x : ℕ). x % bucket_count) (rw c.number.ensures at c.key-x.ensures) in
    (c.requires.0, c.requires.1, c.requires.2, c.requires.3, omega arith, e, c.above-q.ensures)

pub overflow_add-result : goal.overflow_add-result
overflow_add-result c = record { fits = omega (arith, c.requires.2, c.requires.0.reach, c.requires.0.loaded.most) }

pub returns : goal.returns
returns c = rw add-one c.take_out.ensures
