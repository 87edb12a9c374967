-- `reason_trim::copy` meets its contract: the library's copy, seen by place of the list. Assumes nothing.
use Rattle.reason_trim.proofs.Copying.{copied}
use Rattle.reason_trim.proofs.copy.Goals as goal

pub returns : goal.returns
returns c =
    let a = c.args in
    let e = c.copy_within.ensures in
    copied a.work.now c.copy_within.new.self a.from a.to a.count c.requires.0 c.requires.1 c.requires.2 e.len e.by_index.0 e.by_index.1 e.by_index.2
