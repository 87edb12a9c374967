-- `moment::leader` meets its contract: climbing a link older than the age keeps the leader, and where there is none the tag leads.
-- Assumes nothing.
use borrow.Author.Rules.{rules}
use mathlib.Core.Path.{◌≡◌, refl, sym, ◌∙◌}
use Prim.Native.Nat.{ℕ, ◌≤◌, ◌<◌}
use mathlib.Core.List.{List}
use native.Mathlib.Omega.{arith}
use Rattle.table.specs.Map.{parent_of, age_of}
use Rattle.meaning.proofs.Forest.{root-stop, root-up}
use Rattle.meaning.specs.Limits.{most_tags}
use Rattle.moment.specs.Meeting.{leader_at, Forested}
use Rattle.moment.proofs.leader.Goals as goal

-- The links of the table, as the climb uses them.
step : (w : List ℕ) (a x : ℕ) → Forested w → a ≤ most_tags → x < most_tags → age_of w x < a → (parent_of w x < x) × (leader_at w a (parent_of w x) ≡ leader_at w a x)
step w a x f l h k = (f.links.down x (omega arith), sym (root-up (parent_of w) (age_of w) most_tags most_tags f.links a l (omega arith) x k))

pub loop-y-init : goal.loop-y-init
loop-y-init c = (search rules, refl)

pub loop-y-smaller : goal.loop-y-smaller
loop-y-smaller c =
    let x = c.loop-y.y.0 in
    let older : age_of c.args.work.now x < c.args.age = omega (arith, c.age.ensures) in
    omega (arith, (step c.args.work.now c.args.age x c.requires.forested c.requires.age_le_most_tags.0 c.loop-y.invariant.0 older).0, c.parent-y.ensures)

pub loop-y-preserved : goal.loop-y-preserved
loop-y-preserved c =
    let x = c.loop-y.y.0 in
    let older : age_of c.args.work.now x < c.args.age = omega (arith, c.age.ensures) in
    let s = step c.args.work.now c.args.age x c.requires.forested c.requires.age_le_most_tags.0 c.loop-y.invariant.0 older in
    (omega (arith, s.0, c.parent-y.ensures), rw c.parent-y.ensures (s.1 ∙ c.loop-y.invariant.1))

pub returns : goal.returns
returns c =
    let x = c.loop-y.y.0 in
    let stop : c.args.age ≤ age_of c.args.work.now x = omega (arith, c.age.ensures) in
    sym (root-stop (parent_of c.args.work.now) (age_of c.args.work.now) most_tags most_tags c.requires.forested.links c.args.age c.requires.age_le_most_tags.0 (omega arith) x stop) ∙ c.loop-y.invariant.1
