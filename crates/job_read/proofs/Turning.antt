-- What one more field does to the outcome of reading, and the loop of `read_job`.
-- Assumes nothing.
use Prim.Native.Nat.{ℕ, zero, suc, ◌+◌, ◌*◌, ◌-◌, ◌≤◌, ◌<◌, min}
use native.Mathlib.Omega.{arith}
use mathlib.Core.Path.{◌≡◌, refl, sym, ◌∙◌, ap, subst}
use mathlib.Core.Bool.{Bool, true, false, cond}
use mathlib.Core.List.{List}
use Rattle.std.specs.Prelude.{Option, Some, None, Result, Ok, Err}
use lib.ListN.{length}
use Rattle.meaning.specs.Limits.{most_tags}
use Rattle.job_field.specs.Items.{Head, Note, Moment, start, after, Question, ask, explain, broken, why, Item, noted, posed, sheet_room, room_for, Reading, refused, accepted, records_of, questions_of, needed_room}
use Rattle.job_field.specs.Reading.{Field, bad, header, item, end, offset_of, length_at, behind_at, field_standing, checked, with, behind, onward, read_from, reading}
use Rattle.job_field.proofs.Items.{after-records, after-questions}
use Rattle.job_field.proofs.Reading.{Sound, checked-passed, field-whole, Sized, read-sized, size-right}
use Rattle.job_field.specs.Standing.{Few}
use Rattle.job_field.proofs.Standing.{start-few, after-few}
use Rattle.job_limits.specs.Counts.{moment_of}
use Rattle.job_limits.specs.declared.Counts.{Counts}
use Rattle.job_field.specs.Answer.{number_of, head_said}
use Rattle.job_field.specs.declared.Head.{Head as HeadCode}
use Rattle.job_read.specs.Summary.{refusal, summary, told}
use Rattle.job_read.specs.Turns.{head_seen, met, tally, tallied, Going, Turned, on, last, stopped}
use Rattle.job_read.specs.declared.Seen.{Seen}
use Rattle.job_read.specs.declared.Refusal.{Refusal}
use Rattle.job_read.specs.declared.Accepted.{Accepted}

pub plus_none : (n : ℕ) → n + 0 ≡ n
plus_none n = omega arith

none-plus : (n : ℕ) → 0 + n ≡ n
none-plus n = omega arith

-- What an item adds to the summary.
tally-note : (b : Moment) (room : ℕ) (n : Note) (X : Reading) → tally b room (with (noted n) X) ≡ tally (after (noted n) b) room X
tally-note b room n (refused m p) = refl
tally-note b room n (accepted H is) = rw (← after-records b (noted n) is)

posed-tally : (H : Head) (b : Moment) (room : ℕ) (q : Question) (is : List Item) → tally b room (with (posed q) (accepted H is)) ≡ tally (after (posed q) b) (room + room_for H b q) (accepted H is)
posed-tally H b room q is =
    let e : room + (room_for H b q + needed_room H (after (posed q) b) is) ≡ room + room_for H b q + needed_room H (after (posed q) b) is = omega arith in
    rw (← after-questions b (posed q) is, e)

tally-question : (H : Head) (b : Moment) (room : ℕ) (q : Question) (X : Reading) → Sized H X → tally b room (with (posed q) X) ≡ tally (after (posed q) b) (room + room_for H b q) X
tally-question H b room q (refused n p) h = refl
tally-question H b room q (accepted M is) h =
    subst (λ (N : Head). tally b room (with (posed q) (accepted N is)) ≡ tally (after (posed q) b) (room + room_for H b q) (accepted N is)) (sym h) (posed-tally H b room q is)

-- No question needs more room than 8,000 bytes.
sheet-most : (H : Head) (b : Moment) → sheet_room H b ≤ 3 + 2 * min b.records (2 * (H.size - 1))
sheet-most H b = go H.sheeted
  where
    go : (e : Bool) → cond e (3 + 2 * min b.records (2 * (H.size - 1))) 0 ≤ 3 + 2 * min b.records (2 * (H.size - 1))
    go true = omega arith
    go false = omega arith

room_most : (H : Head) (b : Moment) (q : Question) → H.size ≤ most_tags → room_for H b q ≤ 8 * most_tags
room_most H b (ask s t) h = omega arith
room_most H b (explain s t) h = omega (arith, sheet-most H b)
room_most H b broken h = omega (arith, sheet-most H b)
room_most H b (why s t) h = omega arith

-- One field more, by what it says.
abbrev pub Next : List ℕ → Seen → Field → Type 0
Next job s g = met job s ≡ g

step : (job : List ℕ) (s : Seen) (g : Field) → Next job s g → (fuel : ℕ) → tallied (suc fuel) job s ≡ tally (moment_of s.counts) s.room (onward (read_from fuel job) job (head_seen s) (moment_of s.counts) s.at g)
unfolding read_from
step job s g e fuel = rw e

module _ (job : List ℕ) (s : Seen) (h : Going job s) where
  pub stopped_at : (e : Refusal) → Next job s (bad (number_of e.fault)) → e.place ≡ s.at + offset_of (length_at job s.at) (number_of e.fault) → Turned job s (Err e)
  stopped_at e g i = stopped (λ fuel. step job s (bad (number_of e.fault)) g fuel ∙ ap (refusal (number_of e.fault)) (sym i))

  -- A field that was not refused stands whole in the job.
  pub there : (g : Field) → Sound g → Next job s g → behind_at job s.at ≤ length job
  there g v e = field-whole job s.at g v (checked-passed _ _ (field_standing job s.at) g v e).is

  pub at_last : Next job s end → Turned job s (Ok None)
  at_last e = last (there end tt e) (step job s end e)

  pub on-header : (M : HeadCode) (n : ℕ) → n ≡ behind_at job s.at → Next job s (header (head_said M)) → Turned job s (Ok (Some (record { at = n; head = M; counts = s.counts; room = s.room })))
  on-header M n i e =
      let p = checked-passed (head_seen s) (moment_of s.counts) (field_standing job s.at) (header (head_said M)) tt e in
      let w : behind_at job s.at ≤ length job = there (header (head_said M)) tt e in
      rw i (on {t = record { at = behind_at job s.at; head = M; counts = s.counts; room = s.room }} (omega arith) (record { within = w; size = (size-right (head_said M) p.number).1; few = h.few; room = h.room }) (λ fuel. step job s (header (head_said M)) e fuel))

  pub on-note : (n : Note) (k : ℕ) (c : Counts) → k ≡ behind_at job s.at → moment_of c ≡ after (noted n) (moment_of s.counts) → Next job s (item (noted n))
      → Turned job s (Ok (Some (record { at = k; head = s.head; counts = c; room = s.room })))
  on-note n k c i j e =
      let p = checked-passed (head_seen s) (moment_of s.counts) (field_standing job s.at) (item (noted n)) tt e in
      let w : behind_at job s.at ≤ length job = there (item (noted n)) tt e in
      let m : Few (moment_of c) = subst Few (sym j) (after-few (moment_of s.counts) (noted n) h.few p.count) in
      let q : c.questions ≡ s.counts.questions = ap (λ (x : Moment). x.questions) j in
      rw i (on {t = record { at = behind_at job s.at; head = s.head; counts = c; room = s.room }} (omega arith) (record { within = w; size = h.size; few = m; room = omega (arith, h.room) })
      (λ fuel. step job s (item (noted n)) e fuel ∙ tally-note (moment_of s.counts) s.room n (read_from fuel job (head_seen s) (after (noted n) (moment_of s.counts)) (behind_at job s.at))
      ∙ ap (λ (x : Moment). tally x s.room (read_from fuel job (head_seen s) x (behind_at job s.at))) (sym j)))

  pub on-question : (q : Question) (k room : ℕ) (c : Counts) → k ≡ behind_at job s.at → room ≡ room_for (head_seen s) (moment_of s.counts) q → moment_of c ≡ after (posed q) (moment_of s.counts) → Next job s (item (posed q))
      → Turned job s (Ok (Some (record { at = k; head = s.head; counts = c; room = s.room + room })))
  on-question q k room c i z j e =
      let p = checked-passed (head_seen s) (moment_of s.counts) (field_standing job s.at) (item (posed q)) tt e in
      let w : behind_at job s.at ≤ length job = there (item (posed q)) tt e in
      let m : Few (moment_of c) = subst Few (sym j) (after-few (moment_of s.counts) (posed q) h.few p.count) in
      let x : ℕ = room_for (head_seen s) (moment_of s.counts) q in
      let l : x ≤ 8 * most_tags = room_most (head_seen s) (moment_of s.counts) q h.size in
      let y : c.questions ≡ s.counts.questions + 1 = ap (λ (x : Moment). x.questions) j in
      rw (i, z) (on {t = record { at = behind_at job s.at; head = s.head; counts = c; room = s.room + x }} (omega arith) (record { within = w; size = h.size; few = m; room = omega (arith, h.room, l) })
      (λ fuel. step job s (item (posed q)) e fuel ∙ tally-question (head_seen s) (moment_of s.counts) s.room q (read_from fuel job (head_seen s) (after (posed q) (moment_of s.counts)) (behind_at job s.at)) (read-sized fuel job (head_seen s) (after (posed q) (moment_of s.counts)) (behind_at job s.at) (omega arith))
      ∙ ap (λ (x' : Moment). tally x' (s.room + x) (read_from fuel job (head_seen s) x' (behind_at job s.at))) (sym j)))

-- The loop of `read_job`: what is left to read comes to the outcome of the whole, and is not too long for the fuel.
pub record Seeing (job : List ℕ) (s : Seen) : Type 0 where
  pub fuel : ℕ
  pub enough : length job < s.at + fuel
  pub going : Going job s
  pub same : summary (reading job) ≡ tallied fuel job s

tally-none : (X : Reading) → summary X ≡ tally start 0 X
tally-none (refused n p) = refl
tally-none (accepted H is) = rw (none-plus (length (records_of is)), none-plus (questions_of is), none-plus (needed_room H start is))

pub seeing-begin : (job : List ℕ) (s : Seen)
    → (s.at ≡ 0) × (((s.head.size ≡ 0) × ((s.head.units ≡ 0) × (s.head.sheeted ≡ false))) × (((s.counts.records ≡ 0) × ((s.counts.differs ≡ 0) × (s.counts.questions ≡ 0))) × (s.room ≡ 0)))
    → Seeing job s
unfolding reading
seeing-begin job s (a, ((n, (u, v)), ((r, (d, q)), m))) = record {
  fuel = suc (length job);
  enough = omega arith;
  going = record { within = omega arith; size = omega arith; few = rw (r, d, q) start-few; room = omega arith };
  same = rw (a, n, u, v, r, d, q, m) (tally-none (reading job));
}

-- A turn of the loop.
pub seeing-on : (job : List ℕ) (s t : Seen) → Seeing job s → Turned job s (Ok (Some t)) → Seeing job t
seeing-on job s t v (on l g f) = go v.fuel v.enough v.same
  where
    go : (n : ℕ) → length job < s.at + n → summary (reading job) ≡ tallied n job s → Seeing job t
    go zero h e = absurd (omega (arith, v.going.within))
    go (suc n) h e = record { fuel = n; enough = omega (arith, l); going = g; same = e ∙ f n }

pub seeing-closer : (job : List ℕ) (s t : Seen) → Turned job s (Ok (Some t)) → (s.at < t.at) × (t.at ≤ length job)
seeing-closer job s t (on l g f) = (l, g.within)

-- Behind the end field, and at a refusal, the outcome is known.
pub seeing-last : (job : List ℕ) (s : Seen) (r : Result Accepted Refusal) → Seeing job s → Turned job s (Ok None)
    → told r ≡ tally (moment_of s.counts) s.room (behind job (head_seen s) (behind_at job s.at)) → told r ≡ summary (reading job)
seeing-last job s r v (last l f) i = go v.fuel v.enough v.same
  where
    go : (n : ℕ) → length job < s.at + n → summary (reading job) ≡ tallied n job s → told r ≡ summary (reading job)
    go zero h e = absurd (omega (arith, v.going.within))
    go (suc n) h e = i ∙ sym (e ∙ f n)

pub last-within : (job : List ℕ) (s : Seen) → Turned job s (Ok None) → behind_at job s.at ≤ length job
last-within job s (last l f) = l

pub seeing-stopped : (job : List ℕ) (s : Seen) (x : Refusal) → Seeing job s → Turned job s (Err x) → told (Err x) ≡ summary (reading job)
seeing-stopped job s x v (stopped f) = go v.fuel v.enough v.same
  where
    go : (n : ℕ) → length job < s.at + n → summary (reading job) ≡ tallied n job s → told (Err x) ≡ summary (reading job)
    go zero h e = absurd (omega (arith, v.going.within))
    go (suc n) h e = sym (e ∙ f n)
