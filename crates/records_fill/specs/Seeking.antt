-- Document 01, "The job and the report": the records of a job in the order they stand, as the cursor meets them one after the other.
-- Assumes nothing.
use Rattle.std.specs.Prelude.{ℕ, ◌≡◌, Bool, true, false, List, ◌∷◌}
use Rattle.meaning.specs.Following.{Rec}
use Rattle.job_field.specs.Items.{Head, Note, line, differ, Item, noted, posed, records_of, sheets_of}
use Rattle.job_field.specs.Reading.{Field, bad, header, item, end, behind_at, field_standing}
use Rattle.job_field.specs.Standing.{Stands}
use Rattle.records.specs.Table.{blank, place_of}
use Rattle.records_fill.specs.declared.Found.{Found}

-- No record was found: at the first field, a question or a note that stands for none, which are passed over, or where nothing is to be found.
abbrev pub no_record_found : Bool → ℕ → Found
no_record_found question next = record { question = question; place = blank; next = next }

-- What a note gives: its record with its sheet, or nothing, where it stands for none.
abbrev pub found_in : ℕ → Note → Found
found_in next (line r h) = record { question = false; place = place_of r h; next = next }
found_in next (differ a b) = no_record_found true next

-- What a field at a place gives: a record, a field to be passed over, or nothing.
abbrev pub found_at : List ℕ → ℕ → Field → Found
found_at job at (bad n) = no_record_found false at
found_at job at (header M) = no_record_found true (behind_at job at)
found_at job at (item (noted n)) = found_in (behind_at job at) n
found_at job at (item (posed q)) = no_record_found true (behind_at job at)
found_at job at end = no_record_found false at

-- The items ahead of a place: those that stand there, or at the first byte those that stand behind the first field.
pub data Ahead (job : List ℕ) (H : Head) : ℕ → List Item → Type 0 where
  begin : {is : List Item} → field_standing job 0 ≡ header H → Stands job H.size (behind_at job 0) is → Ahead job H 0 is
  on : {at : ℕ} {is : List Item} → Stands job H.size at is → Ahead job H at is

-- The first record of the items that stand at a place was found, with its sheet, and the items behind it stand at the next place.
pub record First (job : List ℕ) (H : Head) (r : Rec) (rs : List Rec) (h : ℕ) (hs : List ℕ) (f : Found) : Type 0 where
  pub others : List Item
  pub is : f.place ≡ place_of r h
  pub behind : records_of others ≡ rs
  pub sheets : sheets_of others ≡ hs
  pub stands : Ahead job H f.next others

abbrev pub Seeks : List ℕ → ℕ → Found → Type 0
Seeks job at f = (H : Head) (items : List Item) (r : Rec) (rs : List Rec) (h : ℕ) (hs : List ℕ) → Ahead job H at items → records_of items ≡ r ∷ rs → sheets_of items ≡ h ∷ hs → First job H r rs h hs f
