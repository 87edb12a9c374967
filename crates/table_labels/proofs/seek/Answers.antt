-- `seek` meets its contract. What the rest of the chain has for the key is what the whole has; links fall, so p is the measure.
-- Assumes nothing.
use Rattle.std.proofs.Common.{◌≡◌, ℕ, ◌+◌, ◌-◌, ◌<◌, refl, sym, ap, ◌∙◌, arith}
use Prim.Native.Nat.{suc}
use borrow.Author.Tests.{eq-eqb, ne_eqb}
use Rattle.table_labels.specs.Chain.{hits, as_link}
use Rattle.table_labels.specs.Parts.{place_key, key_in}
use Rattle.table_labels.proofs.Chain.{seek_found, seek-next, seek-none}
use Rattle.table_labels.proofs.seek.Goals as goal

pub loop-p-init : goal.loop-p-init
loop-p-init g c = (omega arith, refl)

pub number-requires : goal.number-requires
number-requires g c = omega (arith, (c.requires.readable (c.loop-p.p - 1) (omega (arith, c.loop-p.invariant.0))).most)

pub key-requires : goal.key-requires
key-requires g c = rw c.number.ensures (c.requires.readable (c.loop-p.p - 1) (omega (arith, c.loop-p.invariant.0)))

pub returns-then-key-x : goal.returns-then-key-x
returns-then-key-x g c =
    let w = c.args.work.now in
    let e : place_key w (c.loop-p.p - 1) ≡ c.args.x = ap (key_in w) (sym c.number.ensures) ∙ sym c.key.ensures ∙ c.if-key-x.true in
    let back : suc (c.loop-p.p - 1) ≡ c.loop-p.p = omega arith in
    back ∙ sym (seek_found _ (hits (place_key w) c.args.x) c.requires.falls c.loop-p.p (omega arith) (eq-eqb _ _ e)) ∙ c.loop-p.invariant.1

pub next-p-requires : goal.next-p-requires
next-p-requires g c =
    let r = c.requires.readable (c.loop-p.p - 1) (omega (arith, c.loop-p.invariant.0)) in
    (r.long, omega (arith, r.most))

pub loop-p-smaller : goal.loop-p-smaller
loop-p-smaller g c = rw c.next-p.ensures (omega (arith, c.requires.falls (c.loop-p.p - 1)))

pub loop-p-preserved : goal.loop-p-preserved
loop-p-preserved g c =
    let w = c.args.work.now in
    let n : place_key w (c.loop-p.p - 1) ≡ c.args.x → ⊥ = λ e. c.if-key-x.false (c.key.ensures ∙ ap (key_in w) c.number.ensures ∙ e) in
    rw c.next-p.ensures (
      omega (arith, c.requires.falls (c.loop-p.p - 1), c.loop-p.invariant.0),
      seek-next _ (hits (place_key w) c.args.x) c.requires.falls c.loop-p.p (omega arith) (ne_eqb _ _ n) ∙ c.loop-p.invariant.1,
    )

pub returns : goal.returns
returns g c =
    let w = c.args.work.now in
    let z : c.loop-p.p ≡ 0 = omega arith in
    sym (seek-none (g.C.Chains.leads w) (hits (place_key w) c.args.x) c.requires.falls) ∙ (rw z at c.loop-p.invariant.1)
