-- The loop of `read_job`: what has been seen, what one more field does to it, and what that has to do with the whole. This is
-- machinery of the proof: the promise of `read_job` names none of it.
-- Assumes nothing.
use Rattle.std.specs.Prelude.{ℕ, suc, ◌+◌, ◌*◌, ◌≤◌, ◌<◌, ◌≡◌, List, length, Option, Some, None, Result, Ok, Err}
use Rattle.meaning.specs.Limits.{most_tags}
use Rattle.job_field.specs.Items.{Head, Moment, Reading, refused, accepted, records_of, questions_of, needed_room}
use Rattle.job_field.specs.Answer.{number_of, head_said}
use Rattle.job_field.specs.Reading.{Field, behind, behind_at, checked, field_standing, read_from}
use Rattle.job_field.specs.Standing.{Few}
use Rattle.job_limits.specs.Counts.{moment_of}
use Rattle.job_read.specs.declared.Refusal.{Refusal}
use Rattle.job_read.specs.declared.Seen.{Seen}
use Rattle.job_read.specs.Summary.{Summary, refusal, acceptance}

-- The summary of what was seen and of what is still to be read.
abbrev pub tally : Moment → ℕ → Reading → Summary
tally b room (refused n p) = refusal n p
tally b room (accepted H is) = acceptance H (b.records + length (records_of is)) (b.questions + questions_of is) (room + needed_room H b is)

abbrev pub head_seen : Seen → Head
head_seen s = head_said s.head

-- The field that reading has come to, within its limits.
abbrev pub met : List ℕ → Seen → Field
met job s = checked (head_seen s) (moment_of s.counts) (field_standing job s.at)

abbrev pub tallied : ℕ → List ℕ → Seen → Summary
tallied fuel job s = tally (moment_of s.counts) s.room (read_from fuel job (head_seen s) (moment_of s.counts) s.at)

-- What has been seen stands within the job and within the limits.
pub record Going (job : List ℕ) (s : Seen) : Type 0 where
  pub within : s.at ≤ length job
  pub size : s.head.size ≤ most_tags
  pub few : Few (moment_of s.counts)
  pub room : s.room ≤ 8 * most_tags * s.counts.questions

-- One field more: reading goes on behind it with the same outcome; the job ends with it, and what follows the end decides; or the job is refused.
pub data Turned (job : List ℕ) (s : Seen) : Result (Option Seen) Refusal → Type 0 where
  on : {t : Seen} → s.at < t.at → Going job t → ((fuel : ℕ) → tallied (suc fuel) job s ≡ tallied fuel job t) → Turned job s (Ok (Some t))
  last : behind_at job s.at ≤ length job → ((fuel : ℕ) → tallied (suc fuel) job s ≡ tally (moment_of s.counts) s.room (behind job (head_seen s) (behind_at job s.at))) → Turned job s (Ok None)
  stopped : {e : Refusal} → ((fuel : ℕ) → tallied (suc fuel) job s ≡ refusal (number_of e.fault) e.place) → Turned job s (Err e)
