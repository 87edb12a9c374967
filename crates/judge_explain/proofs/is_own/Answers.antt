-- `judge_explain::is_own` meets its contract: what explain leaves in the list is a reason, and the bytes are compared with it.
-- Assumes nothing.
use native.Mathlib.Omega.{arith}
use Rattle.judge_explain.proofs.Right.{own-few, own-not, own-found}
use Rattle.judge_explain.proofs.is_own.Goals as goal

pub overflow_mul-count : goal.overflow_mul-count
overflow_mul-count c =
    let e = c.explain in
    let few = own-few c.in-Some.count e.new.work c.requires.0.past.loaded.few (c.in-Some.ensures.says) in
    omega (arith, few)

pub returns-then-count-bytes : goal.returns-then-count-bytes
returns-then-count-bytes c = own-not c.explain.ensures.kept

pub is_list-requires : goal.is_list-requires
is_list-requires c =
    let e = c.explain in
    let few = own-few c.in-Some.count e.new.work c.requires.0.past.loaded.few (c.in-Some.ensures.says) in
    (e.ensures.past.loaded.long, omega (arith, few), omega (arith, c.requires.1, c.if-count-bytes.false))

pub returns-in-None : goal.returns-in-None
returns-in-None c = own-not c.explain.ensures.kept

pub returns-else-count-bytes : goal.returns-else-count-bytes
returns-else-count-bytes c =
    let e = c.explain in
    own-found e.ensures.kept c.in-Some.count c.if-count-bytes.false (c.in-Some.ensures.says) c.is_list.ensures
