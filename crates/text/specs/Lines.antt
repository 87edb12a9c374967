-- Document 01, "The program": tagcheck writes one line an item, fields parted by one space, decimal. The text of a job's items and of
-- their report, byte by byte.
-- Assumes nothing.
use Rattle.std.specs.Prelude.{ℕ, Bool, List, [], ◌∷◌, ◌++◌, drop}
use Rattle.job_field.specs.Items.{Item, Reading, refused, accepted}
use Rattle.text_line.specs.Line.{line}
use Rattle.text_field.specs.Fields.{line_of, width_of, totals_line}

-- The lines of a job's items in order, in its edition, and the totals: the report's fields for each question in order, then the totals.
unfoldable pub lines_of : Bool → List Item → List ℕ → List ℕ
lines_of e [] report = totals_line report
lines_of e (i ∷ is) report = line_of e i report ++ lines_of e is (drop (width_of e i report) report)

-- The single line `R number place`.
unfoldable pub refusal_line : ℕ → ℕ → List ℕ
refusal_line number place = line 82 (number ∷ place ∷ [])

-- The text of a job as it is read, with its report.
abbrev pub text_of : Reading → List ℕ → List ℕ
text_of (refused number place) report = refusal_line number place
text_of (accepted H items) report = lines_of H.sheeted items report
