-- `class_of` meets its contract: a tag without a link leads its class, and otherwise the first with the label does.
-- Assumes nothing.
use native.Mathlib.Omega.{arith}
use mathlib.Core.Path.{refl, sym}
use Rattle.all_join.proofs.Joining.{leaders, unlinked-leads}
use Rattle.all_join.proofs.Marking.{first-leads}
use Rattle.all_join.proofs.class_of.Goals as goal

pub returns-then-age-ge-MOST_TAGS : goal.returns-then-age-ge-MOST_TAGS
returns-then-age-ge-MOST_TAGS c = (refl, sym (unlinked-leads c.requires.0.log c.args.r.0 (omega (arith, c.if-age-ge-MOST_TAGS.true, c.age.ensures))))

pub returns : goal.returns
returns c = (refl, first-leads c.requires.0.marks (leaders c.requires.0.log) c.args.r.0 c.first_with.result.0 c.requires.2 c.first_with.ensures.0 c.first_with.ensures.1)
