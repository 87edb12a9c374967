-- `reason_follow::causes_of` meets its contract: a join that is there has record numbers within the columns.
-- Assumes nothing.
use native.Mathlib.Omega.{arith}
use Rattle.reason_follow.proofs.Crossing.{holds-ranged}
use Rattle.reason_follow.proofs.causes_of.Goals as goal

pub first-p-requires : goal.first-p-requires
first-p-requires c = (c.requires.past.loaded.long, (holds-ranged c.requires).age)

pub second-q-requires : goal.second-q-requires
second-q-requires c = (c.requires.past.loaded.long, (holds-ranged c.requires).age)

pub left-a-requires : goal.left-a-requires
left-a-requires c = (c.requires.past.loaded.long, omega (arith, (holds-ranged c.requires).first, c.first-p.ensures))

pub left-a2-requires : goal.left-a2-requires
left-a2-requires c = (c.requires.past.loaded.long, omega (arith, (holds-ranged c.requires).second, c.second-q.ensures))

pub right-c-requires : goal.right-c-requires
right-c-requires c = (c.requires.past.loaded.long, omega (arith, (holds-ranged c.requires).first, c.first-p.ensures))

pub right-c2-requires : goal.right-c2-requires
right-c2-requires c = (c.requires.past.loaded.long, omega (arith, (holds-ranged c.requires).second, c.second-q.ensures))

pub returns : goal.returns
returns c =
    let p = c.first-p.ensures in
    let q = c.second-q.ensures in
    record {
      second_is = q;
      a-is = rw p at c.left-a.ensures;
      a'-is = rw q at c.left-a2.ensures;
      c-is = rw p at c.right-c.ensures;
      c'-is = rw q at c.right-c2.ensures;
    }
