-- `harness_find::try_record` meets its contract: one direction after the other.
-- Assumes nothing.
use native.Mathlib.Omega.{arith}
use Rattle.harness_find.proofs.Scanning.{scanned-trial, tags-small, second-trial, record-tried}
use Rattle.harness_find.proofs.try_record.Goals as goal

pub overflow_add-k : goal.overflow_add-k
overflow_add-k c = omega (arith, c.requires.next, c.requires.scanned.few)

pub record_at-r-requires : goal.record_at-r-requires
record_at-r-requires c = omega (arith, c.requires.next, c.requires.scanned.few)

pub left-a-requires : goal.left-a-requires
left-a-requires c = (c.requires.scanned.long, omega (arith, c.record_at-r.ensures, c.requires.next, c.requires.scanned.few))

pub right-b-requires : goal.right-b-requires
right-b-requires c = (c.requires.scanned.long, omega (arith, c.record_at-r.ensures, c.requires.next, c.requires.scanned.few))

pub offer-requires : goal.offer-requires
offer-requires c = let h = tags-small c.record_at-r.ensures c.left-a.ensures c.right-b.ensures c.requires.next c.requires.scanned in (scanned-trial c.requires.scanned, h.0, h.1)

pub offer-requires-2 : goal.offer-requires-2
offer-requires-2 c = let h = tags-small c.record_at-r.ensures c.left-a.ensures c.right-b.ensures c.requires.next c.requires.scanned in (second-trial c.record_at-r.ensures c.left-a.ensures c.right-b.ensures c.offer.ensures c.requires.next c.requires.scanned, h.1, h.0)

pub returns : goal.returns
returns c = record-tried c.record_at-r.ensures c.left-a.ensures c.right-b.ensures c.offer.ensures c.offer-2.ensures
