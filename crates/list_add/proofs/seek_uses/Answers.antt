-- `seek_uses` meets its contract: links fall. Assumes nothing.
use Prim.Native.Nat.{◌<◌}
use native.Mathlib.Omega.{arith}
use mathlib.Core.Path.{◌≡◌, sym, ◌∙◌}
use mathlib.Core.Bool.{true≢false}
use Rattle.list_add.proofs.Seeks.{seeking-start, seeking-more, seeking-found, seeking-none}
use Rattle.list_add.proofs.seek_uses.Goals as goal

pub last_place-p-requires : goal.last_place-p-requires
last_place-p-requires c = (c.requires.0.falling.long, c.requires.1)

pub loop-p-init : goal.loop-p-init
loop-p-init c = seeking-start c.args.z.0 c.requires.0.falling c.last_place-p.ensures

pub overflow_sub-p : goal.overflow_sub-p
overflow_sub-p c = omega arith

pub matches-requires : goal.matches-requires
matches-requires c = (c.requires.0, omega (arith, c.loop-p.invariant.low))

pub returns-then-matches : goal.returns-then-matches
returns-then-matches c = let l : 0 < c.loop-p.p = omega arith in seeking-found c.args.z.0 c.last_place-p.ensures l c.loop-p.invariant (c.matches.ensures.0 c.if-matches.true)

pub overflow_sub-p-in-loop-p : goal.overflow_sub-p-in-loop-p
overflow_sub-p-in-loop-p c = omega arith

pub place_before-p-requires : goal.place_before-p-requires
place_before-p-requires c = (c.requires.0.falling.long, omega (arith, c.loop-p.invariant.low))

pub loop-p-smaller : goal.loop-p-smaller
loop-p-smaller c =
    let l : 0 < c.loop-p.p = omega arith in
    (seeking-more c.requires.0.falling l c.loop-p.invariant (λ m. true≢false (sym (c.matches.ensures.1 m) ∙ c.if-matches.false)) c.place_before-p.ensures).1

pub loop-p-preserved : goal.loop-p-preserved
loop-p-preserved c =
    let l : 0 < c.loop-p.p = omega arith in
    (seeking-more c.requires.0.falling l c.loop-p.invariant (λ m. true≢false (sym (c.matches.ensures.1 m) ∙ c.if-matches.false)) c.place_before-p.ensures).0

pub returns : goal.returns
returns c = let e : c.loop-p.p ≡ 0 = omega arith in seeking-none c.args.z.0 c.last_place-p.ensures e c.loop-p.invariant
