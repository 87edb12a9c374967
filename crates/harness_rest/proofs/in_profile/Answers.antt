-- `harness_rest::in_profile` meets its contract: the place of the first field of kind 02 and the other reading together are the reading of the profile.
-- Assumes nothing.
use Rattle.std.proofs.Common.{refl}
use native.Mathlib.Omega.{arith}
use mathlib.Core.Path.{sym, ◌∙◌, ◌≡◌}
use mathlib.Core.Bool.{true}
use Rattle.std.specs.Prelude.{Err}
use Rattle.call_look.specs.Seen.{seen}
use Rattle.harness_rest.specs.Look.{declined}
use Rattle.harness_rest.proofs.Profile.{profile-none, profile-ready, profile-sooner, profile-later}
use Rattle.harness_rest.proofs.in_profile.Goals as goal

pub returns-then-p-job : goal.returns-then-p-job
returns-then-p-job c =
    let q : (seen c.args.looked).lent ≡ true = rw c.in-Ok.is refl in
    profile-none c.args.job.now _ c.first_application-p.ensures (seen c.args.looked) (omega (arith, c.if-p-job.true)) q (c.requires q)

pub returns-else-p-job : goal.returns-else-p-job
returns-else-p-job c =
    let q : (seen c.args.looked).lent ≡ true = rw c.in-Ok.is refl in
    profile-ready c.args.job.now _ c.first_application-p.ensures (seen c.args.looked) _ (omega (arith, c.if-p-job.false)) q (rw c.in-Ok.is refl) (c.requires q) (rw c.refuse.ensures refl)

pub returns-then-p-job-2 : goal.returns-then-p-job-2
returns-then-p-job-2 c =
    let q = sym c.is_lent.ensures ∙ c.if-is_lent.true in
    rw c.in-Err.is (profile-none c.args.job.now _ c.first_application-p-then-is_lent.ensures (seen (Err c.in-Err.refusal)) (omega (arith, c.if-p-job-2.true)) q ((rw c.in-Err.is at c.requires) q))

pub returns-then-refusal-p : goal.returns-then-refusal-p
returns-then-refusal-p c =
    let q = sym c.is_lent.ensures ∙ c.if-is_lent.true in
    rw c.in-Err.is (profile-sooner c.args.job.now _ c.first_application-p-then-is_lent.ensures (seen (Err c.in-Err.refusal)) (omega (arith, c.if-p-job-2.false)) q refl c.if-refusal-p.true ((rw c.in-Err.is at c.requires) q))

pub returns-then-is_lent : goal.returns-then-is_lent
returns-then-is_lent c =
    let q : (seen c.args.looked).lent ≡ true = rw c.in-Err.is (sym c.is_lent.ensures ∙ c.if-is_lent.true) in
    profile-later c.args.job.now _ c.first_application-p-then-is_lent.ensures (seen c.args.looked) _ (omega (arith, c.if-p-job-2.false)) q (rw c.in-Err.is refl) (rw c.in-Err.is (omega (arith, c.if-refusal-p.false))) (c.requires q) (rw c.refuse-then-is_lent.ensures refl)

pub returns-else-is_lent : goal.returns-else-is_lent
returns-else-is_lent c = rw c.in-Err.is (declined (sym c.is_lent.ensures ∙ c.if-is_lent.false))
