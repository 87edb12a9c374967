-- What the simulator is told of the records in the table. Document 02, No. 12.
-- Assumes nothing.
use Rattle.std.specs.Prelude.{ℕ, suc, min, ◌≤◌, ◌<◌, ◌≡◌, Bool, true, false, List}
use Rattle.meaning.specs.Limits.{most_tags}
use Rattle.table.specs.Map.{gather, label_of, records_in, Within}
use Rattle.table.specs.Places.{Large}
use Rattle.leading.specs.Leading.{leader_in, Seated}
use Rattle.report.specs.Report.{numbers, laid}
use Rattle.slow_passes.specs.Passes.{Told}
use Rattle.slow_close.specs.Closing.{slow_part}

-- N tags of which those from U up are units have labels that are tags.
pub record Seating (w : List ℕ) (N U : ℕ) : Type 0 where
  pub long : Large w
  pub few : N ≤ most_tags
  pub units : U ≤ N
  pub low : (x : ℕ) → x < N → label_of w x < N

-- How many passes are made at most. There are fewer of them than tags, so that one more than the limit, or than the tags, tells whether the count is above it.
abbrev pub most_of : ℕ → ℕ → Bool → ℕ
most_of N limit true = limit
most_of N limit false = suc (min limit N)

-- Every label has its leader for its seat, and the leaders stand at the front of the room.
pub record Laying (w room : List ℕ) (N U : ℕ) (w' room' : List ℕ) : Type 0 where
  pub seated : Seated w w' N U
  pub front : room' ≡ laid 0 (numbers (gather (leader_in w') N)) room

-- The answer, which is a number, a place and a count, and the leaders that it has at the front of the room.
pub record Answered (N U len limit : ℕ) (watch : Bool) (w room w' room' : List ℕ) (n p c : ℕ) : Type 0 where
  pub kept : Within slow_part w w'
  pub place : p ≡ 0
  pub leaders : List ℕ
  pub told : Told N U (records_in len w) limit watch n c leaders
  pub front : room' ≡ laid 0 (numbers leaders) room
