-- Answering the questions of an accepted job, each by the records before it, by the rules of a profile. Document 01, "The job and the report"; document 02, No. 1.
-- Assumes nothing.
use Rattle.std.specs.Prelude.{ℕ, ◌+◌, ◌≤◌, ◌<◌, ◌≡◌, Bool, true, false, List, [], ◌++◌, length, drop}
use Rattle.job_field.specs.Items.{Head, Note, stands_for, pairs_noted, Moment, start, Question, Item, noted, posed, records_of, pairs_of, needed_room}
use Rattle.job_field.specs.Reading.{Field, bad, header, item, end, head_in, items_in, matter_in, longest}
use Rattle.job_field.specs.Standing.{Stands, Job}
use Rattle.table.specs.Map.{records_in, Loaded, Within}
use Rattle.table.specs.Past.{Past}
use Rattle.table.specs.Places.{behind_columns, behind_joins}
use Rattle.report.specs.Report.{laid}
use Rattle.profile.specs.Rules.{Rules}
use Rattle.pairs.specs.Marks.{Marking, Noted}
use Rattle.pairs.specs.Breaking.{Breaking, Guarded}
use Rattle.answer_ask.specs.Facing.{Facing}
use Rattle.answer_broken.specs.Breach.{Replied}
use Rattle.answer_all.specs.declared.Spot.{Spot}

-- The job stands as N tags with U and its items, and the table holds the past of its records.
pub record Asking (job w : List ℕ) (H : Head) (len joins : ℕ) : Type 0 where
  pub stands : Job job (head_in job) (items_in job)
  pub head : head_in job ≡ H
  pub short : length job ≤ longest job
  pub few : len ≡ length (records_of (items_in job))
  pub records : records_in len w ≡ records_of (items_in job)
  pub past : Past H.size len w joins

-- What meeting an item leads to: a note is passed, with its pair marked, and a question answered.
pub data Stepped (R : Rules) (job w room : List ℕ) (len next : ℕ) (p : Spot) : Item → Spot → List ℕ → List ℕ → Type 0 where
  passes : {n : Note} {w' : List ℕ} → Noted w w' len p.differs n
      → Stepped R job w room len next p (noted n) (record { at = next; out = p.out; before = p.before + length (stands_for n); differs = p.differs + length (pairs_noted n) }) w' room
  answers : {q : Question} {end : ℕ} {w' room' : List ℕ} → Replied R job w room p.before p.differs p.out q w' room' end
      → Stepped R job w room len next p (posed q) (record { at = next; out = end; before = p.before; differs = p.differs }) w' room'

-- A question is met: it can be faced, and can look at the pairs before it.
pub record Asked (job w room : List ℕ) (H : Head) (len joins before differs out : ℕ) (q : Question) : Type 0 where
  pub facing : Facing w room H len joins before out q
  pub breaking : Breaking job w H len joins before differs

-- A field that is an item is met: a note whose records can be counted and whose pair can be marked, or a question.
pub data Meeting (job w room : List ℕ) (H : Head) (len joins : ℕ) (p : Spot) : Field → Type 0 where
  note-met : {n : Note} → p.before + length (stands_for n) < 65536 → Marking w H len joins p.differs n → Meeting job w room H len joins p (item (noted n))
  question-met : {q : Question} → Asked job w room H len joins p.before p.differs p.out q → Meeting job w room H len joins p (item (posed q))

-- What a field leads to that is an item.
pub data Onward (R : Rules) (job w room : List ℕ) (len next : ℕ) (p p' : Spot) (w' room' : List ℕ) : Field → Type 0 where
  onward : {i : Item} → Stepped R job w room len next p i p' w' room' → Onward R job w room len next p p' w' room' (item i)

-- The end field.
abbrev pub is_end_field : Field → Bool
is_end_field (bad n) = false
is_end_field (header n) = false
is_end_field (item i) = false
is_end_field end = true

-- Midway through the job: the items from `at` on are still to be answered, and what stands at the front of the room makes a sound report of
-- whatever is a sound report of them.
pub record Midway (R : Rules) (job w room : List ℕ) (H : Head) (len joins : ℕ) (p : Spot) (w' room' : List ℕ) : Type 0 where
  pub asking : Asking job w' H len joins
  pub rest : List Item
  pub stands : Stands job (head_in job).size p.at rest
  pub moment : Moment
  pub passed : moment.records ≡ p.before
  pub differed : moment.differs ≡ p.differs
  pub counted : p.before + length (records_of rest) ≡ len
  pub guarded : Guarded job w' p.differs (pairs_of rest)
  pub bytes : List ℕ
  pub sound : (bs : List ℕ) → R.Sound (matter_in job) moment rest bs → R.Sound (matter_in job) start (items_in job) (bytes ++ bs)
  pub reached : p.out ≡ length bytes
  pub front : room' ≡ laid 0 bytes room
  pub fits : p.out + needed_room (head_in job) moment rest ≤ length room
  pub kept : Within behind_joins w w'
  pub asks : R.Asks (items_in job)

-- All questions answered: the totals are left to write, at the end of what stands in the room.
pub record Told (R : Rules) (job w room : List ℕ) (H : Head) (len joins : ℕ) (w' room' : List ℕ) (end : ℕ) : Type 0 where
  pub moment : Moment
  pub bytes : List ℕ
  pub sound : (bs : List ℕ) → R.Sound (matter_in job) moment [] bs → R.Sound (matter_in job) start (items_in job) (bytes ++ bs)
  pub reached : end ≡ length bytes
  pub front : room' ≡ laid 0 bytes room
  pub fits : end + 7 ≤ length room
  pub kept : Within behind_joins w w'

-- An accepted job of N tags whose len records stand in the table's columns, and a room that is as large as needed.
pub record Ready (job room w : List ℕ) (N len : ℕ) : Type 0 where
  pub short : length job ≤ longest job
  pub stands : Job job (head_in job) (items_in job)
  pub size : (head_in job).size ≡ N
  pub few : len ≡ length (records_of (items_in job))
  pub loaded : Loaded N len w
  pub records : records_in len w ≡ records_of (items_in job)
  pub fits : needed_room (head_in job) start (items_in job) ≤ length room

-- A sound report of the job, so many bytes long, stands at the front of the room, and every byte behind it is as it was.
pub record Responded (R : Rules) (job room w : List ℕ) (room' w' : List ℕ) (n : ℕ) : Type 0 where
  pub bytes : List ℕ
  pub sound : R.Sound (matter_in job) start (items_in job) bytes
  pub size : n ≡ length bytes
  pub front : room' ≡ bytes ++ drop (length bytes) room
  pub kept : Within behind_columns w w'
