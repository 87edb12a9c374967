-- `admit_application` meets its contract: what was found before the record came in is what the chains have for it then.
-- Assumes nothing.
use mathlib.Core.Path.{◌≡◌, sym, ap, ◌∙◌}
use Rattle.table.proofs.Frame.{within-trans}
use Rattle.table_labels.specs.Chain.{as_link}
use Rattle.table_labels.specs.Parts.{key_in}
use Rattle.all_index.specs.State.{key_at, found_in}
use Rattle.all_index.proofs.Views.{row-readable}
use Rattle.all_close.specs.State.{Looked}
use Rattle.all_close.proofs.Entering.{next_low, admitted}
use Rattle.all_close.proofs.Moments.{idle-found}
use Rattle.all_close.proofs.admit_application.Goals as goal

pub returns : goal.returns
returns c =
    let e = c.enter.ensures in
    let r = c.resolve-q.ensures in
    let f = c.settle-after.ensures in
    let h = idle-found c.requires.0.between c.requires.0.low c.requires.1 in
    admitted c.requires.0.counted (within-trans e.frame r.frame) r.more f.0 f.1 f.2 (λ q. h.0 (c.again-idle.ensures.0 q), λ d. c.again-idle.ensures.1 (h.1 d))
