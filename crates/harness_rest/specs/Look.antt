-- Document 01, "What is lent, and each refusal", numbers 1 to 8, in the harness profile: what is known of a job and of the tables' lengths, with 4 for kind 02 (document 02,
-- No. 8). The lengths are seen first, as elsewhere. Assumes nothing.
use Rattle.std.specs.Prelude.{ℕ, ◌≤◌, ◌<◌, ◌≡◌, ◌⊎◌, true, false, List, length}
use Rattle.meaning.specs.Limits.{named_numbers, named_places}
use Rattle.job_field.specs.Items.{Head, Item, start, refused, accepted, records_of, needed_room}
use Rattle.job_field.specs.Reading.{longest}
use Rattle.table.specs.Map.{records_in, Loaded}
use Rattle.job_field.specs.declared.Fault.TheVariants.{Misplaced}
use Rattle.call_look.specs.declared.Reason.TheVariants.{Job}
use Rattle.call_look.specs.declared.Refusal.{Refusal}
use Rattle.call_look.specs.Seen.{Seen, counting}
use Rattle.call_look.specs.Look as seen
use Rattle.call_look.specs.Look.{faulty, Enough}
use Rattle.harness_read.specs.Profile.{harness_reading}

-- The refusal of a kind that is not known, or not in its place: number 4.
abbrev pub misplaced : ℕ → Refusal
misplaced p = record { reason = Job Misplaced; place = p }

-- What reading the job tells in this profile.
pub data HarnessViewed (job : List ℕ) : Seen → Type 0 where
  unread : {n p : ℕ} → harness_reading job ≡ refused n p → HarnessViewed job (faulty n p)
  ready : {H : Head} {items : List Item} → harness_reading job ≡ accepted H items → HarnessViewed job (counting H.size (length (records_of items)) (needed_room H start items))

-- What is made of what was seen by the other reading: nothing where a length was at fault; else what this reading tells, and where the call may go on it is the same.
pub data Profiled (job : List ℕ) (s : Seen) : Seen → Type 0 where
  declined : s.lent ≡ false → Profiled job s s
  viewed : {r : Seen} → s.lent ≡ true → HarnessViewed job r → (r.ready ≡ true → r ≡ s) → Profiled job s r

-- What is known with the lengths seen first.
pub data HarnessLooked (job : List ℕ) (places numbers : ℕ) : Seen → Type 0 where
  long : longest job < length job → HarnessLooked job places numbers (seen.declined 1)
  narrow : length job ≤ longest job → (places < named_places) ⊎ (numbers < named_numbers) → HarnessLooked job places numbers (seen.declined 2)
  viewed : {s : Seen} → Enough job places numbers → HarnessViewed job s → HarnessLooked job places numbers s

-- What the rest of a call begins with.
pub record HarnessBegun (job work : List ℕ) (s : Seen) : Type 0 where
  pub places : ℕ
  pub looked : HarnessLooked job places (length work) s
  pub loaded : s.ready ≡ true → Loaded s.size s.records work
  pub columns : (H : Head) (items : List Item) → harness_reading job ≡ accepted H items → s.ready ≡ true → records_in s.records work ≡ records_of items
