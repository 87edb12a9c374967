use native.Mathlib.Omega.{arith}
use mathlib.Core.Path.{refl, ap}
use Rattle.script_tokens.specs.Kinds.{number}
use Rattle.script_tokens.proofs.Apart.{number-apart}
use Rattle.script_shelf.proofs.Faults.{fault-some}
use Rattle.script_term_read.proofs.Turning.{handed, closed-told, on-told, behind-on, fall-term, fall-arguments, way-behind, loop-start, one, turn-ask, turn-none, turn-few, turn-ended, turn-refused, turn-ready, turn-joined, turn-over, way_deep, way-readable, way-head, way-ask}
use Rattle.script_term_read.proofs.+arguments_term.Goals as goal

pub arguments-loop-have-init : goal.arguments-loop-have-init
arguments-loop-have-init t c = loop-start c.requires.0 _ _

pub arguments-read_at-x-requires : goal.arguments-read_at-x-requires
arguments-read_at-x-requires t c = (one c.requires.0 c.loop-have.invariant).inside

pub arguments-returns-in-End : goal.arguments-returns-in-End
arguments-returns-in-End t c = record { told = λ c' x y z. turn-ended c.requires.0 c.loop-have.invariant c.loop-have-test.true c.read_at-x.ensures (ap number c.in-End.is) }

pub arguments-returns-then-have-eq0 : goal.arguments-returns-then-have-eq0
arguments-returns-then-have-eq0 t c = record { told = λ c' x y z. turn-none c.requires.0 c.loop-have.invariant c.loop-have-test.true c.read_at-x.ensures (ap number c.in-Closing.is) c.if-have-eq0.true }

pub arguments-returns-else-have-eq0 : goal.arguments-returns-else-have-eq0
arguments-returns-else-have-eq0 t c = record { told = λ c' x y z. turn-few c.requires.0 c.loop-have.invariant c.loop-have-test.true c.read_at-x.ensures (ap number c.in-Closing.is) c.if-have-eq0.false }

pub arguments-term-requires : goal.arguments-term-requires
arguments-term-requires t c = (
  fall-term _ _ _ _ _ c.decreases (one c.requires.0 c.loop-have.invariant).on (behind-on c.read_at-x.ensures (number-apart c.in_default.not-End)),
  (turn-ask c.requires.0 c.loop-have.invariant c.loop-have-test.true c.read_at-x.ensures, omega (arith, c.requires.1)),
)

pub arguments-returns-in_err-argument : goal.arguments-returns-in_err-argument
arguments-returns-in_err-argument t c =
    let q = handed c.from_residual.ensures in
    rw q
    (record { told = λ c' x y z. turn-refused c.requires.0 c.loop-have.invariant c.loop-have-test.true c.read_at-x.ensures (number-apart c.in_default.not-End) (number-apart c.in_default.not-Closing) (c.in_err-argument.ensures.told c' x y z) (fault-some _) })

pub arguments-join-requires : goal.arguments-join-requires
arguments-join-requires t c = turn-ready c.requires.0 c.loop-have.invariant c.loop-have-test.true c.read_at-x.ensures (number-apart c.in_default.not-End) (number-apart c.in_default.not-Closing) c.in_ok-argument.ensures.told refl

pub arguments-loop-have-preserved : goal.arguments-loop-have-preserved
arguments-loop-have-preserved t c = turn-joined c.requires.0 c.loop-have.invariant c.loop-have-test.true c.read_at-x.ensures (number-apart c.in_default.not-End) (number-apart c.in_default.not-Closing) c.in_ok-argument.ensures.told refl refl c.in-Ok.ensures refl

pub arguments-returns-in-Err : goal.arguments-returns-in-Err
arguments-returns-in-Err t c = record {
  told = λ c' x y z. turn-over c.requires.0 c.loop-have.invariant c.loop-have-test.true c.read_at-x.ensures (number-apart c.in_default.not-End) (number-apart c.in_default.not-Closing) c.in_ok-argument.ensures.told refl refl c.in-Err.ensures refl;
}

pub arguments-close-requires : goal.arguments-close-requires
arguments-close-requires t c = (one c.requires.0 c.loop-have.invariant).inside

pub arguments-returns : goal.arguments-returns
arguments-returns t c = closed-told c.requires.0 c.loop-have.invariant (let h = c.loop-have.auto.have-end in omega arith) _ c.close.ensures

pub term-returns-then-depth-gt-DEEPEST : goal.term-returns-then-depth-gt-DEEPEST
term-returns-then-depth-gt-DEEPEST t c = record { told = λ c' x y z. way_deep c.requires.0 (ap number c.in-Opening.is) _ c.if-depth-gt-DEEPEST.true }

pub term-head_of-requires : goal.term-head_of-requires
term-head_of-requires t c = way-readable c.requires.0 (ap number c.in-Opening.is) 0

pub term-arguments-requires : goal.term-arguments-requires
term-arguments-requires t c = (fall-arguments _ _ _ _ c.decreases (way-behind c.requires.0 c.in_ok-h.ensures refl), (way-ask c.requires.0 (ap number c.in-Opening.is) 0 c.in_ok-h.ensures refl, omega arith))

pub term-returns : goal.term-returns
term-returns t c = on-told c.requires.0 (ap number c.in-Opening.is) (omega arith) c.in_ok-h.ensures refl _ c.arguments.ensures

pub term-returns-in_err-h : goal.term-returns-in_err-h
term-returns-in_err-h t c = let q = handed c.from_residual.ensures in rw q (record { told = λ c' x y z. way-head c.requires.0 (ap number c.in-Opening.is) c.args.depth (omega arith) c.in_err-h.ensures (fault-some _) })
