-- `leading::next_label` meets its contract: what a link leads to is in the same class, and labelled before. Assumes nothing.
use Prim.Native.Nat.{ℕ, ◌≤◌, ◌<◌}
use native.Mathlib.Omega.{arith}
use mathlib.Core.Path.{◌≡◌, sym, ◌∙◌}
use mathlib.Core.List.{List}
use Rattle.meaning.specs.Limits.{most_tags}
use Rattle.table.specs.Map.{parent_of, age_of}
use Rattle.meaning.proofs.Forest.{root-stop, root-up}
use Rattle.moment.specs.Meeting.{leader_at, Forested}
use Rattle.leading.proofs.next_label.Goals as goal

step : (w : List ℕ) (a x : ℕ) → Forested w → a ≤ most_tags → age_of w x < a → (parent_of w x < x) × (leader_at w a (parent_of w x) ≡ leader_at w a x)
step w a x f l k = (f.links.down x (omega arith), sym (root-up (parent_of w) (age_of w) most_tags most_tags f.links a l (omega arith) x k))

pub label-requires : goal.label-requires
label-requires c =
    let older : age_of c.args.work.now c.args.x.0 < c.args.age = omega (arith, c.age.ensures) in
    (c.requires.0.long, omega (arith, c.requires.2, c.parent.ensures, (step c.args.work.now c.args.age c.args.x.0 c.requires.0 c.requires.1 older).0))

pub returns-then-age : goal.returns-then-age
returns-then-age c =
    let older : age_of c.args.work.now c.args.x.0 < c.args.age = omega (arith, c.age.ensures) in
    let t = step c.args.work.now c.args.age c.args.x.0 c.requires.0 c.requires.1 older in
    c.label.ensures ∙ c.requires.3 _ (omega (arith, c.parent.ensures, t.0)) ∙ rw c.parent.ensures t.1

pub returns : goal.returns
returns c =
    let stop : c.args.age ≤ age_of c.args.work.now c.args.x.0 = omega (arith, c.age.ensures) in
    sym (root-stop (parent_of c.args.work.now) (age_of c.args.work.now) most_tags most_tags c.requires.0.links c.args.age c.requires.1 (omega arith) c.args.x.0 stop)
