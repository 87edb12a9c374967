-- `unify` meets its contract. Where the two results have one label nothing more is known than before; otherwise the join is due.
-- Assumes nothing.
use borrow.Author.Tests.{eqb-true, eqb-false}
use mathlib.Core.Path.{◌≡◌, sym, ap, ◌∙◌}
use Prim.Native.Nat.{ℕ, suc, ◌+◌, ◌-◌, ◌<◌, ◌≤◌}
use native.Mathlib.Omega.{arith}
use Rattle.meaning.specs.Limits.{most_records}
use Rattle.table.specs.Map.{result_of, label_of}
use Rattle.table.specs.Places.{Large}
use Rattle.all_index.specs.State.{res_at}
use Rattle.all_index.proofs.Views.{store-frame, store-buckets, link-chains, link-waits}
use Rattle.all_settle.proofs.Views.{result_fits}
use Rattle.all_settle.proofs.Differing.{unify-low, unify-app, unify-due}
use Rattle.all_settle.proofs.Meeting.{first-place, first-most, unify-stay, unify-join}
use Rattle.all_settle.proofs.unify.Goals as goal

-- The place that a link leads to.
back : (p : ℕ) → suc p - 1 ≡ p
back p = omega arith

-- No link.
none : 0 ≤ most_records
none = omega arith

pub number-q-requires : goal.number-q-requires
number-q-requires c =
    let low-found : c.args.p < most_records = omega (arith, unify-low c.requires, c.requires.state.standing.reach, c.requires.state.standing.loaded.most) in
    low-found

pub number-r-requires : goal.number-r-requires
number-r-requires c =
    let low : c.args.j < most_records = first-most c.requires.state in
    low

pub outcome-c-requires : goal.outcome-c-requires
outcome-c-requires c =
    let o = c.requires.state.standing in
    result_fits o.loaded (c.args.p) (omega (arith, unify-low c.requires, o.reach)) (rw (back c.args.p) at (unify-app c.requires)) _ c.number-q.ensures

pub outcome-d-requires : goal.outcome-d-requires
outcome-d-requires c =
    let o = c.requires.state.standing in
    let f = first-place c.requires.state in
    result_fits o.loaded c.args.j (omega (arith, f.0, o.reach)) f.1 _ c.number-r.ensures

pub wait_after-first-requires : goal.wait_after-first-requires
wait_after-first-requires c =
    let long : Large c.args.work.now = c.requires.state.standing.loaded.long in
    let low : c.args.j < most_records = first-most c.requires.state in
    (long, low)

pub put_chain-requires : goal.put_chain-requires
put_chain-requires c =
    let long : Large c.args.work.now = c.requires.state.standing.loaded.long in
    let low : c.args.j < most_records = first-most c.requires.state in
    (long, low, none)

pub returns-then-eq : goal.returns-then-eq
returns-then-eq c =
    let long : Large c.args.work.now = c.requires.state.standing.loaded.long in
    let low : c.args.j < most_records = first-most c.requires.state in
    let one : c.outcome-c.result.0 ≡ res_at c.args.work.now (c.args.p) = let w = c.args.work.now in c.outcome-c.ensures ∙ ap (λ (k : ℕ). label_of w (result_of w k)) c.number-q.ensures in
    let two : c.outcome-d.result.0 ≡ res_at c.args.work.now c.args.j = let w = c.args.work.now in c.outcome-d.ensures ∙ ap (λ (k : ℕ). label_of w (result_of w k)) c.number-r.ensures in
    let x = c.args.work.now in
    unify-stay c.requires _ _ (rw (back c.args.p) (sym one ∙ eqb-true _ _ (sym c.eq.ensures ∙ c.if-eq.true) ∙ two)) c.wait_after-first.ensures
    (store-frame x _ c.args.j (0 + 1) long low c.put_chain.ensures)
    (link-chains x _ c.args.j 0 long low none c.put_chain.ensures)
    (link-waits x _ c.args.j 0 long low none c.put_chain.ensures)
    (store-buckets x _ c.args.j (0 + 1) long low c.put_chain.ensures)

pub join-first-requires : goal.join-first-requires
join-first-requires c =
    let one : c.outcome-c.result.0 ≡ res_at c.args.work.now (c.args.p) = let w = c.args.work.now in c.outcome-c.ensures ∙ ap (λ (k : ℕ). label_of w (result_of w k)) c.number-q.ensures in
    let two : c.outcome-d.result.0 ≡ res_at c.args.work.now c.args.j = let w = c.args.work.now in c.outcome-d.ensures ∙ ap (λ (k : ℕ). label_of w (result_of w k)) c.number-r.ensures in
    unify-due c.requires _ _ _ _ _ (omega arith) (rw (back c.args.p) c.number-q.ensures) c.number-r.ensures (rw (back c.args.p) one) two (eqb-false _ _ (sym c.eq.ensures ∙ c.if-eq.false))

pub returns : goal.returns
returns c = unify-join c.requires c.join-first.ensures
