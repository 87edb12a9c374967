-- An accepted job as the cursor meets it: from a place on stand exactly these items, then the end field, and there the job ends.
-- Assumes nothing.
use Rattle.std.specs.Prelude.{ℕ, ◌≤◌, ◌<◌, ◌≡◌, true, List, [], ◌∷◌, length}
use Rattle.meaning.specs.Limits.{most_differs, most_questions, most_records, most_tags}
use Rattle.job_field.specs.Items.{Head, Item, tags_of, Moment, start, accepted, records_of, pairs_of, questions_of, needed_room}
use Rattle.job_field.specs.Reading.{field_standing, header, item, end, filed, behind_at, reading}

-- Tags are below N.
abbrev pub Below : ℕ → List ℕ → Type 0
Below N [] = Unit {0}
Below N (t ∷ ts) = (t < N) × Below N ts

abbrev pub Tagged : ℕ → Item → Type 0
Tagged N i = Below N (tags_of i)

pub data Stands (job : List ℕ) (N : ℕ) : ℕ → List Item → Type 0 where
  ends : {at : ℕ} → field_standing job at ≡ end → behind_at job at ≡ length job → Stands job N at []
  next : {at : ℕ} {i : Item} {is : List Item} → field_standing job at ≡ item i → Tagged N i → filed (item i) ≡ true → behind_at job at ≤ length job → Stands job N (behind_at job at) is → Stands job N at (i ∷ is)

-- No more stand before a field than the limits allow.
pub record Few (b : Moment) : Type 0 where
  pub records : b.records ≤ most_records
  pub differs : b.differs ≤ most_differs
  pub questions : b.questions ≤ most_questions

-- All that is known of an accepted job.
pub record Job (job : List ℕ) (H : Head) (items : List Item) : Type 0 where
  pub some : 1 ≤ H.size
  pub most : H.size ≤ most_tags
  pub units : H.units ≤ H.size
  pub records : length (records_of items) ≤ most_records
  pub differs : length (pairs_of items) ≤ most_differs
  pub questions : questions_of items ≤ most_questions
  pub first : field_standing job 0 ≡ header H
  pub stands : Stands job H.size (behind_at job 0) items

-- What an answer of acceptance tells: there are items with these counts and this needed room, and the job reads as them.
pub record Taken (job : List ℕ) (H : Head) (R Q room : ℕ) : Type 0 where
  pub items : List Item
  pub reads : reading job ≡ accepted H items
  pub records : R ≡ length (records_of items)
  pub questions : Q ≡ questions_of items
  pub needed : room ≡ needed_room H start items

-- An item met at a place: it is the first of those that stand there, and the others stand behind it.
pub record Met (job : List ℕ) (N at : ℕ) (i : Item) (is : List Item) : Type 0 where
  pub rest : List Item
  pub first : is ≡ i ∷ rest
  pub tags : Tagged N i
  pub sheet : filed (item i) ≡ true
  pub there : behind_at job at ≤ length job
  pub onward : Stands job N (behind_at job at) rest
