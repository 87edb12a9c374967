-- What the report's reader answers: which bytes stand at a place of a report, and the front of the field there.
-- Assumes nothing.
use Rattle.std.specs.Prelude.{ℕ, ◌+◌, ◌≡◌, List, ◌++◌, length, drop, Option, Some, None}
use Rattle.report.specs.Report.{field}
use Rattle.report_read.specs.declared.Front.{Front}

-- The bytes f stand in the report at a place, and the rest of the report behind them.
abbrev pub Holds : List ℕ → ℕ → List ℕ → Type 0
Holds report at f = drop at report ≡ f ++ drop (at + length f) report

-- A whole field stands at the place, of a kind and so many bytes of body; or none does, because it is missing or cut.
pub data FrontAt (report : List ℕ) (at : ℕ) : Option Front → Type 0 where
  whole : {kind : ℕ} (body : List ℕ) → Holds report at (field kind body) → FrontAt report at (Some (record { kind = kind; size = length body }))
  none : ((kind : ℕ) (body : List ℕ) → Holds report at (field kind body) → ⊥) → FrontAt report at None
