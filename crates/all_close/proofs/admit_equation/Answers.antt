-- `admit_equation` meets its contract: the equation made no join exactly if its tags had one label.
-- Assumes nothing.
use borrow.Author.Tests.{eq-eqb, eqb-true}
use Rattle.all_close.proofs.Entering.{admitted}
use Rattle.all_close.proofs.Moments.{idle-level}
use Rattle.all_close.proofs.admit_equation.Goals as goal

pub returns : goal.returns
returns c =
    let e = c.equate-q.ensures in
    let f = c.settle-after.ensures in
    let h = idle-level c.requires.0.between c.requires.0.low c.requires.1 in
    admitted c.requires.0.counted e.frame e.more f.0 f.1 f.2 (λ q. h.1 (e.level.0 (eqb-true _ _ q)), λ d. eq-eqb _ _ (e.level.1 (h.0 d)))
