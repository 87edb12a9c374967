-- Document 01, "What is lent, and each refusal", 0 and 10 of the recheck: what the judge of a report answers, once the job has been
-- accepted and its records closed.
-- Assumes nothing.
use Rattle.std.specs.Prelude.{ℕ, ◌-◌, ◌≡◌, List, length, Result, Ok, Err}
use Rattle.meaning.specs.Following.{UpTo}
use Rattle.meaning.specs.Totals.{Classes, Idles}
use Rattle.job_field.specs.Items.{Matter, Moment, start, Item, records_of}
use Rattle.job_field.specs.Reading.{head_in, items_in, matter_in}
use Rattle.job_field.specs.Standing.{Job}
use Rattle.table.specs.Map.{records_in, Within}
use Rattle.table.specs.Past.{Past}
use Rattle.table.specs.Places.{behind_joins}
use Rattle.profile.specs.Rules.{Rules}

-- The job is accepted, and the table holds its records and what their closure left: the joins for every moment, and the totals.
pub record Judgeable (job w : List ℕ) (N len joins idle : ℕ) : Type 0 where
  pub accepted : Job job (head_in job) (items_in job)
  pub size : (head_in job).size ≡ N
  pub count : len ≡ length (records_of (items_in job))
  pub held : records_in len w ≡ records_of (items_in job)
  pub past : Past N len w joins
  pub classes : Classes N (UpTo (records_of (items_in job)) len) (N - joins)
  pub idles : Idles (records_of (items_in job)) idle

-- What is answered of the bytes of a report that are left, from a place of it on, for the items that are left: they are sound, or the
-- first place at fault, by the rules of the profile.
pub data Verdict (R : Rules) (M : Matter) (b : Moment) (items : List Item) (at : ℕ) (bs : List ℕ) : Result (Unit {0}) ℕ → Type 0 where
  sound : R.Sound M b items bs → Verdict R M b items at bs (Ok tt)
  fault : {p : ℕ} → R.FaultAt M b items at bs p → Verdict R M b items at bs (Err p)

-- A report was judged: the answer is right for the whole of it, and the table's data are kept.
pub record Judged (R : Rules) (job report w w' : List ℕ) (answer : Result (Unit {0}) ℕ) : Type 0 where
  pub kept : Within behind_joins w w'
  pub verdict : Verdict R (matter_in job) start (items_in job) 0 report answer
