-- `pairs::mark_note` meets its contract, note by note: a record has no pair, and a pair is marked.
-- Assumes nothing.
use native.Mathlib.Omega.{arith}
use mathlib.Core.Path.{ap}
use Rattle.job_field.specs.Answer.{note_said}
use Rattle.pairs.proofs.Marking.{noted-none, noted-pair}
use Rattle.pairs.proofs.mark_note.Goals as goal

pub mark-requires : goal.mark-requires
mark-requires c =
    let p = rw (ap note_said c.in-Differ.is) at c.requires in
    (record { past = p.past; units = p.units; early = omega arith; from = p.tags.0; to = p.tags.1.0 }, omega (arith, p.room))

pub returns-in-Equation : goal.returns-in-Equation
returns-in-Equation c = noted-none _ _ _ _ (rw c.in-Equation.is)

pub returns-in-Application : goal.returns-in-Application
returns-in-Application c = noted-none _ _ _ _ (rw c.in-Application.is)

pub returns-in-Differ : goal.returns-in-Differ
returns-in-Differ c =
    let p = rw (ap note_said c.in-Differ.is) at c.requires in
    rw c.in-Differ.is (noted-pair (omega (arith, p.room)) p.past.loaded.long c.mark.ensures)
