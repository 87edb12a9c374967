-- The end of the report.
-- Assumes nothing.
use Rattle.std.specs.Prelude.{ℕ, ◌+◌, ◌<◌, ◌≡◌, List, [], ◌∷◌, length, Result, Ok, Err}
use Rattle.report.specs.Report.{numbers, field}
use Rattle.report_read.specs.Read.{Holds}

-- The end of the report: these totals and nothing behind them; or a byte behind them; or not these totals.
pub data Ended (report : List ℕ) (at classes idle : ℕ) : Result (Unit {0}) ℕ → Type 0 where
  right : Holds report at (field 143 (numbers (classes ∷ idle ∷ []))) → length report ≡ at + 7 → Ended report at classes idle (Ok tt)
  spare : {p : ℕ} → Holds report at (field 143 (numbers (classes ∷ idle ∷ []))) → at + 7 < length report → p ≡ at + 7 → Ended report at classes idle (Err p)
  wrong : {p : ℕ} → (Holds report at (field 143 (numbers (classes ∷ idle ∷ []))) → ⊥) → p ≡ at → Ended report at classes idle (Err p)
