-- Document 01, "What is lent, and each refusal", numbers 1 to 8: what is known of a job and of the tables' lengths before anything is stored.
-- Assumes nothing.
use Rattle.std.specs.Prelude.{ℕ, ◌≤◌, ◌<◌, ◌≡◌, ◌⊎◌, true, false, List, length}
use Rattle.meaning.specs.Limits.{named_numbers, named_places}
use Rattle.job_field.specs.Items.{Head, Item, start, refused, accepted, records_of, needed_room}
use Rattle.job_field.specs.Reading.{reading, longest}
use Rattle.call_look.specs.Seen.{Seen, counting}

-- A refusal for lengths alone, which touches no table.
abbrev pub declined : ℕ → Seen
declined n = record { lent = false; ready = false; number = n; place = 0; size = 0; records = 0; needed = 0 }

-- A refusal of the reading, by number and place.
abbrev pub faulty : ℕ → ℕ → Seen
faulty n p = record { lent = true; ready = false; number = n; place = p; size = 0; records = 0; needed = 0 }

-- What reading the job tells: the numbers 3 to 8, 11 to 13 and 17 with their place, or N, the number of records and the needed room.
pub data Viewed (job : List ℕ) : Seen → Type 0 where
  unread : {n p : ℕ} → reading job ≡ refused n p → Viewed job (faulty n p)
  ready : {H : Head} {items : List Item} → reading job ≡ accepted H items → Viewed job (counting H.size (length (records_of items)) (needed_room H start items))

-- The job and tables of c places and w numbers are not at fault by their lengths.
pub record Enough (job : List ℕ) (c w : ℕ) : Type 0 where
  pub short : length job ≤ longest job
  pub places : named_places ≤ c
  pub numbers : named_numbers ≤ w

-- What is known with the lengths seen first: 1, a job longer than the longest, and 2, either table shorter than named, come before the reading.
pub data Looked (job : List ℕ) (places numbers : ℕ) : Seen → Type 0 where
  long : longest job < length job → Looked job places numbers (declined 1)
  narrow : length job ≤ longest job → (places < named_places) ⊎ (numbers < named_numbers) → Looked job places numbers (declined 2)
  viewed : {s : Seen} → Enough job places numbers → Viewed job s → Looked job places numbers s
