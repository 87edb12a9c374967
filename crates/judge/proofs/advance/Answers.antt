-- `judge::advance` meets its contract: each arm has what the field said, and the laws of Going say what that leads to.
-- Assumes nothing.
use mathlib.Core.Path.{sym, ◌∙◌}
use native.Mathlib.Omega.{arith}
use Rattle.std.proofs.lemmas.Result.{err_from_is_err_and}
use Rattle.job_field.specs.Answer.{note_said}
use Rattle.job_field.proofs.Items.{stands-few}
use Rattle.table.proofs.Frame.{within-refl, within_wider}
use Rattle.table.specs.Places.{behind_joins}
use Rattle.judge.proofs.Going.{before-most, going-within, going-bad, going-header, going-note, marking-there, testing-there, turn-passed, turn-failed, totals-fit, going_end, going-unended}
use Rattle.judge.proofs.advance.Goals as goal

pub behind-next-requires : goal.behind-next-requires
behind-next-requires g c = omega (arith, going-within c.requires.1)

pub mark_note-requires : goal.mark_note-requires
mark_note-requires g c =
    let e = sym (rw c.in-Ok-Noted.field-0-is at c.in-Ok-Noted.ensures) in
    marking-there g.met.P.Profile.laws c.requires.1 _ c.requires.0.accepted c.requires.2 c.requires.0.past e

pub overflow_add-result : goal.overflow_add-result
overflow_add-result g c = omega (arith, before-most g.met.P.Profile.laws c.requires.1, c.requires.0.accepted.records, c.from.ensures, c.stands_for.ensures, stands-few (note_said c.in-Ok-Noted.l))

pub overflow_add-result-in-Ok-Noted : goal.overflow_add-result-in-Ok-Noted
overflow_add-result-in-Ok-Noted g c =
    let e = sym (rw c.in-Ok-Noted.field-0-is at c.in-Ok-Noted.ensures) in
    omega (arith, (marking-there g.met.P.Profile.laws c.requires.1 _ c.requires.0.accepted c.requires.2 c.requires.0.past e).room, c.from-in-Ok-Noted.ensures, c.pairs_in.ensures)

pub tested-requires : goal.tested-requires
tested-requires g c =
    let e = sym (rw c.in-Ok-Posed.field-0-is at c.in-Ok-Posed.ensures) in
    (testing-there g.met.P.Profile.laws c.args.c c.args.s c.requires.0 c.requires.1 c.requires.2 _ e, c.requires.3)

pub ended-requires : goal.ended-requires
ended-requires g c = totals-fit g.met.P.Profile.laws c.args.c c.args.s c.requires.0 c.requires.1 c.requires.2

pub returns-in-Err : goal.returns-in-Err
returns-in-Err g c = absurd (going-bad g.met.P.Profile.laws c.requires.1 _ (sym c.in-Err.ensures))

pub returns-in-Ok-Header : goal.returns-in-Ok-Header
returns-in-Ok-Header g c = absurd (going-header g.met.P.Profile.laws c.requires.1 _ (sym (rw c.in-Ok-Header.field-0-is at c.in-Ok-Header.ensures)))

pub returns-in-Ok-Noted : goal.returns-in-Ok-Noted
returns-in-Ok-Noted g c =
    let e = sym (rw c.in-Ok-Noted.field-0-is at c.in-Ok-Noted.ensures) in
    let d = c.mark_note.ensures in
    record {
      kept = within_wider behind_joins (omega arith) (omega arith) d.kept;
      turned = going-note g.met.P.Profile.laws c.requires.1 _ _ _ _ c.behind-next.ensures (c.from.ensures ∙ c.stands_for.ensures) (c.from-in-Ok-Noted.ensures ∙ c.pairs_in.ensures) c.requires.0.held d e;
    }

pub returns-in_ok-place-in-Ok-Posed : goal.returns-in_ok-place-in-Ok-Posed
returns-in_ok-place-in-Ok-Posed g c =
    let e = sym (rw c.in-Ok-Posed.field-0-is at c.in-Ok-Posed.ensures) in
    record {
      kept = within_wider behind_joins (omega arith) (omega arith) c.tested.ensures.kept;
      turned = turn-passed g.met.P.Profile.laws c.args.c c.args.s c.requires.0 c.requires.1 c.requires.2 _ _ c.behind-next.ensures e c.in_ok-place-in-Ok-Posed.ensures;
    }

pub returns-in_err-place-in-Ok-Posed : goal.returns-in_err-place-in-Ok-Posed
returns-in_err-place-in-Ok-Posed g c =
    let e = sym (rw c.in-Ok-Posed.field-0-is at c.in-Ok-Posed.ensures) in
    let p = err_from_is_err_and c.from_residual.result c.from_residual.ensures.1 in
    rw (p.1, p.2)
    (record {
      kept = within_wider behind_joins (omega arith) (omega arith) c.tested.ensures.kept;
      turned = turn-failed g.met.P.Profile.laws c.args.c c.args.s c.requires.0 c.requires.1 c.requires.2 _ e c.in_err-place-in-Ok-Posed.ensures;
    })

pub returns-in_ok-ended-in-Ok-End : goal.returns-in_ok-ended-in-Ok-End
returns-in_ok-ended-in-Ok-End g c =
    let e = sym (rw c.in-Ok-End.field-0-is at c.in-Ok-End.ensures) in
    record { kept = within-refl c.args.work.now; turned = going_end g.met.P.Profile.laws c.requires.0 c.requires.1 e c.in_ok-ended-in-Ok-End.ensures }

pub returns-in_err-ended-in-Ok-End : goal.returns-in_err-ended-in-Ok-End
returns-in_err-ended-in-Ok-End g c =
    let e = sym (rw c.in-Ok-End.field-0-is at c.in-Ok-End.ensures) in
    let p = err_from_is_err_and c.from_residual-in_err-ended-in-Ok-End.result c.from_residual-in_err-ended-in-Ok-End.ensures.1 in
    rw (p.1, p.2) (record { kept = within-refl c.args.work.now; turned = going-unended g.met.P.Profile.laws c.requires.0 c.requires.1 e c.in_err-ended-in-Ok-End.ensures })
