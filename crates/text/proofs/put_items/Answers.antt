-- `text::put_items` meets its contract. The invariant: items stand at the place of the job and their lines are still to come, or the job has
-- ended and the text is whole. The measure is what is left of the job.
-- Assumes nothing.
use mathlib.Core.Path.{◌≡◌, refl, ◌∙◌}
use mathlib.Core.List.{List}
use Prim.Native.Nat.{ℕ, ◌-◌, zero-le, min}
use native.Mathlib.Omega.{arith}
use lib.ListN.{length, take, drop, length-drop}
use borrow.Author.Rules.{part_to_end}
use Rattle.job_field.specs.Reading.{behind_at, field_standing, head_in, items_in}
use Rattle.job_field.specs.Answer.{said}
use Rattle.job_field.proofs.Standing.{accepted-stands}
use Rattle.text_line.proofs.Puts.{put-place, put-length, half-none, half-as}
use Rattle.text_line.specs.Put.{Put}
use Rattle.text_field.specs.Fields.{text_at, width_at}
use mathlib.Core.Bool.{Bool}
use Rattle.text.proofs.Walking.{edition-read, underway, walk-on}
use Rattle.text.proofs.put_items.Goals as goal

pub loop-at-init : goal.loop-at-init
loop-at-init c =
    let is : items_in c.args.job.now ≡ c.requires.items = rw c.requires.reads in
    (zero-le, zero-le, refl, underway {N = c.requires.head.size} {items = c.requires.items} (rw c.behind-at.ensures (accepted-stands _ _ _ c.requires.reads).stands) (half-as (rw is) (half-none _ _ 0 zero-le)))

pub loop-at-preserved : goal.loop-at-preserved
loop-at-preserved c =
    let head = c.loop-at in
    let job : List ℕ = c.args.job.now in
    let report : List ℕ = c.args.report.now in
    let at : ℕ = head.at in
    let v : Bool = (head_in job).sheeted in
    let ve : c.sheeted-edition.result ≡ v = edition-read job c.requires.reads c.sheeted-edition.ensures in
    let from : ℕ = head.from in
    let f : said c.read-field.result ≡ field_standing job at = c.read-field.ensures in
    let r : take (length report - from) (drop from report) ≡ drop from report = part_to_end report from in
    let p : Put (text_at v (field_standing job at) (drop from report)) head.out head.next _ c.put_field-next.result = rw (f, r, ve) at c.put_field-next.ensures in
    let es : c.behind-at-in-loop-at.result ≡ behind_at job at = c.behind-at-in-loop-at.ensures in
    let ep : c.passed-from.result ≡ min (width_at v (field_standing job at) (drop from report)) (length (drop from report)) = rw (f, r, ve) at c.passed-from.ensures in (
      omega (arith, length-drop from report),
      put-place p,
      put-length p ∙ head.invariant.2,
      rw (es, ep) (walk-on v job report _ _ at from _ _ _ _ head.invariant.3 c.loop-at-test.true p),
    )
