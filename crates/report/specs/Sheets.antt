-- Document 02, No. 9: "kind 8A after each 84 or 86: the distinct sheets of that reason, rising, without 0".
-- Assumes nothing.
use Rattle.std.specs.Prelude.{ℕ, ◌-◌, ◌<◌, ◌≡◌, get_or}
use mathlib.Core.List.{List, Memᴰ}
use Rattle.meaning.specs.Reasons.{Above}

-- The sheet of a record by the record's number, which is counted from 1.
abbrev pub sheet_no : List ℕ → ℕ → ℕ
sheet_no hs k = get_or hs (k - 1) 0

-- "The distinct sheets, rising, without 0": the numbers rise from above 0, each is the sheet of a record of the list, and the sheet of each record of the list
-- that is not 0 is among them.
pub record Sheets (all : List ℕ) (L hs : List ℕ) : Type 0 where
  pub rising : Above 0 hs
  pub each : (h : ℕ) → Memᴰ h hs → (k : ℕ) × Memᴰ k L × (sheet_no all k ≡ h)
  pub every : (k : ℕ) → Memᴰ k L → 0 < sheet_no all k → Memᴰ (sheet_no all k) hs
