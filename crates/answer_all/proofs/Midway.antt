-- From one item of the job to the next: what stands in the room goes on making a sound report of whatever is one of the items left.
-- A note changes nothing but the moment, and a question adds its field.
-- Assumes nothing.
use Prim.Native.Nat.{ℕ, suc, ◌+◌, ◌≤◌, ◌<◌}
use native.Mathlib.Omega.{arith}
use mathlib.Core.Path.{◌≡◌, refl, sym, ◌∙◌, ap}
use mathlib.Core.Bool.{true, false}
use mathlib.Core.List.{List, [], ◌∷◌, ◌++◌, append_assoc}
use lib.ListN.{length, length-append}
use Rattle.job_field.specs.Items.{Head, Note, stands_for, pairs_noted, start, after, Moment, Question, ask, explain, why, room_for, Item, noted, posed, records_of, pairs_of, needed_room}
use Rattle.job_field.specs.Reading.{Field, bad, header, item, end, behind_at, field_standing, head_in, items_in, matter_in}
use Rattle.job_field.specs.Standing.{Met}
use Rattle.job_field.proofs.Items.{stands-few}
use Rattle.job_field.proofs.Standing.{stands-item, stands-end, stands-first, stands-last, stands-within}
use Rattle.table.specs.Map.{rec_at, records_in, Within}
use Rattle.table.proofs.Frame.{within-refl, within-trans, within_wider, length-gather}
use Rattle.table.specs.Places.{LIST, behind_joins, from_to}
use Rattle.report.specs.Report.{Known, after_records}
use Rattle.report.proofs.Known.{room-known}
use Rattle.report.proofs.Laid.{length-laid, laid_none, laid_then}
use Rattle.moment.proofs.Kept.{kept-past, kept-records}
use Rattle.pairs.specs.Marks.{Marking, Noted}
use Rattle.pairs.specs.Breaking.{Breaking, Guarded}
use Rattle.pairs.proofs.Breaking.{guarded-begin, guarded-kept, guarded-note, guarded-room, breaking-here}
use Rattle.profile.specs.Rules.{Rules, Laws}
use Rattle.answer_ask.specs.Facing.{Answered}
use Rattle.answer_broken.specs.Breach.{Replied}
use Rattle.answer_explain.specs.Explaining.{Explaining, Explained}
use Rattle.answer_all.specs.declared.Spot.{Spot}
use Rattle.answer_all.specs.Asking.{is_end_field, Asked, Asking, Meeting, note-met, question-met, Onward, onward, Stepped, passes, answers, Midway, Told}

-- What a field of the job leads to, by what it is.
module _ {R : Rules} {job w room : List ℕ} {len next : ℕ} {p : Spot} where
  pub note-passed : (f : Field) (n : Note) (k d : ℕ) (w' : List ℕ) → f ≡ item (noted n) → k ≡ length (stands_for n) → d ≡ length (pairs_noted n) → Noted w w' len p.differs n
      → Onward R job w room len next p (record { at = next; out = p.out; before = p.before + k; differs = p.differs + d }) w' room f
  note-passed f n k d w' i e h m = rw (i, e, h) (onward (passes m))

  pub question-stepped : (f : Field) (q : Question) (end : ℕ) (w' room' : List ℕ) → f ≡ item (posed q) → Replied R job w room p.before p.differs p.out q w' room' end
      → Onward R job w room len next p (record { at = next; out = end; before = p.before; differs = p.differs }) w' room' f
  question-stepped f q l w' room' i a = rw i (onward (answers a))

-- An ask and a why that were answered by what the table knows are answered for the job.
known : {job w : List ℕ} {H : Head} {len joins before differs : ℕ} → Breaking job w H len joins before differs → (b : Moment) → b.records ≡ before → Known (matter_in job) b H (records_in len w) before
known B b e = record { head = B.head; records = sym B.records; before = e }

module _ {R : Rules} (laws : Laws R) {job w room : List ℕ} {H : Head} {len joins before differs out s t : ℕ} {w' room' : List ℕ} {end : ℕ} (B : Breaking job w H len joins before differs) where
  pub ask-replied : Answered w room H len before out (ask s t) w' room' end → Replied R job w room before differs out (ask s t) w' room' end
  ask-replied a = record { field = a.field; right = λ b e d. (laws.asked a.field).1 (a.right (matter_in job) b (known B b e)); front = a.front; reached = a.reached; kept = a.kept }

  pub why-replied : Answered w room H len before out (why s t) w' room' end → Replied R job w room before differs out (why s t) w' room' end
  why-replied a = record { field = a.field; right = λ b e d. (laws.doubted a.field).1 (a.right (matter_in job) b (known B b e)); front = a.front; reached = a.reached; kept = a.kept }

-- So with an explain, for which the job was looked at.
module _ {job w room : List ℕ} {before differs out s t : ℕ} where
  pub asked-explaining : {H : Head} {len joins : ℕ} → Asked job w room H len joins before differs out (explain s t) → Explaining job w room H len joins before out s t
  asked-explaining {H} {len} a = record {
    stands = a.breaking.stands;
    head = a.breaking.head;
    few = sym (length-gather (λ k. rec_at w (suc k)) len) ∙ ap length a.breaking.records;
    records = a.breaking.records;
    facing = a.facing;
  }

  pub explained-replied : {R : Rules} {w' room' : List ℕ} {end : ℕ} → Explained R job w room before out s t w' room' end → Replied R job w room before differs out (explain s t) w' room' end
  explained-replied x = record { field = x.field; right = λ b e d. x.right b e; front = x.front; reached = x.reached; kept = x.kept }

-- Every step goes behind the field.
stepped-to : {R : Rules} {job w room : List ℕ} {len next : ℕ} {p : Spot} {i : Item} {p' : Spot} {w' room' : List ℕ} → Stepped R job w room len next p i p' w' room' → p'.at ≡ next
stepped-to (passes m) = refl
stepped-to (answers a) = refl

-- What was met: a note, a question, or nothing else.
module _ {job w room : List ℕ} {H : Head} {len joins : ℕ} {p : Spot} where
  pub met-note : (f : Field) (n : Note) → Meeting job w room H len joins p f → f ≡ item (noted n) → (p.before + length (stands_for n) < 65536) × Marking w H len joins p.differs n
  met-note f n (note-met {n = n'} h m) e = let z : n' ≡ n = cc in rw (← z) (h, m)
  met-note f n (question-met h) e = let z : ◌≡◌ {A = ℕ} 0 1 = cc in absurd (omega arith)

  pub met-question : (f : Field) (q : Question) → Meeting job w room H len joins p f → f ≡ item (posed q) → Asked job w room H len joins p.before p.differs p.out q
  met-question f q (note-met h m) e = let z : ◌≡◌ {A = ℕ} 0 1 = cc in absurd (omega arith)
  met-question f q (question-met {q = q'} h) e = let z : q' ≡ q = cc in rw (← z) h

  pub met-bad : {n : ℕ} (f : Field) → Meeting job w room H len joins p f → f ≡ bad n → ⊥
  met-bad f (note-met h m) e = let z : ◌≡◌ {A = ℕ} 0 1 = cc in omega arith
  met-bad f (question-met h) e = let z : ◌≡◌ {A = ℕ} 0 1 = cc in omega arith

  pub met-header : {n : Head} (f : Field) → Meeting job w room H len joins p f → f ≡ header n → ⊥
  met-header f (note-met h m) e = let z : ◌≡◌ {A = ℕ} 0 1 = cc in omega arith
  met-header f (question-met h) e = let z : ◌≡◌ {A = ℕ} 0 1 = cc in omega arith

  pub met-end : (f : Field) → Meeting job w room H len joins p f → f ≡ end → ⊥
  met-end f (note-met h m) e = let z : ◌≡◌ {A = ℕ} 0 1 = cc in omega arith
  met-end f (question-met h) e = let z : ◌≡◌ {A = ℕ} 0 1 = cc in omega arith

pub midway-begin : {R : Rules} (job w room : List ℕ) (H : Head) (len joins at : ℕ) → at ≡ behind_at job 0 → Asking job w H len joins → R.Asks (items_in job) → needed_room (head_in job) start (items_in job) ≤ length room
    → Midway R job w room H len joins (record { at = at; out = 0; before = 0; differs = 0 }) w room
midway-begin job w room H len joins at e a i h = record {
  asking = a;
  rest = items_in job;
  stands = rw e a.stands.stands;
  moment = start;
  passed = refl;
  differed = refl;
  counted = omega (arith, a.few);
  guarded = guarded-begin job w;
  bytes = [];
  sound = λ bs s. s;
  reached = refl;
  front = sym (laid_none 0 room);
  fits = omega arith;
  kept = within-refl w;
  asks = i;
}

module _ {R : Rules} (laws : Laws R) (job w room : List ℕ) (H : Head) (len joins : ℕ) (p : Spot) (w' room' : List ℕ) (m : Midway R job w room H len joins p w' room') where
  met-here : (i : Item) → field_standing job p.at ≡ item i → Met job (head_in job).size p.at i m.rest
  met-here i e = stands-item job (head_in job).size p.at i m.rest m.stands e

  pub room-length : length room' ≡ length room
  room-length = ap length m.front ∙ length-laid 0 m.bytes room (omega (arith, m.reached, m.fits))

  -- A question that stands here can be faced: the room that it needs is part of what the rest needs.
  midway-facing : (q : Question) → field_standing job p.at ≡ item (posed q) → Asked job w' room' H len joins p.before p.differs p.out q
  midway-facing q e =
      let k = met-here (posed q) e in
      let c : p.before + length (records_of k.rest) ≡ len = rw k.first at m.counted in
      let h : p.out + (room_for (head_in job) m.moment q + needed_room (head_in job) (after (posed q) m.moment) k.rest) ≤ length room = rw k.first at m.fits in
      let f : p.out + room_for (head_in job) m.moment q ≤ length room = omega arith in
      let g : p.out + room_for H (after_records p.before) q ≤ length room = omega (arith, room-known (head_in job) m.moment H p.before q m.asking.head m.passed) in
      record {
        facing = record { past = m.asking.past; units = rw m.asking.head at m.asking.stands.units; passed = omega arith; tags = rw m.asking.head at k.tags; fits = rw room-length g };
        breaking = breaking-here (pairs_of m.rest) m.asking.stands m.asking.head m.asking.records m.asking.past (omega arith) m.guarded;
      }

  pub midway-told : field_standing job p.at ≡ end → Told R job w room H len joins w' room' p.out
  midway-told e =
      let none : m.rest ≡ [] = stands-end job (head_in job).size p.at m.rest m.stands e in
      record {
        moment = m.moment;
        bytes = m.bytes;
        sound = λ bs s. m.sound bs (rw none s);
        reached = m.reached;
        front = m.front;
        fits = rw none at m.fits;
        kept = m.kept;
      }

  asking-on : {e : ℕ} (w'' : List ℕ) → Within (from_to LIST.at e) w' w'' → Asking job w'' H len joins
  asking-on w'' f = record { stands = m.asking.stands; head = m.asking.head; short = m.asking.short; few = m.asking.few; records = kept-records f len ∙ m.asking.records; past = kept-past f m.asking.past }

  -- A note changes nothing but the moment and the numbers of pairs, and a question's field goes behind the bytes that are there.
  midway-step : (i : Item) (p'' : Spot) (w'' room'' : List ℕ) → field_standing job p.at ≡ item i → Stepped R job w' room' len (behind_at job p.at) p i p'' w'' room'' → Midway R job w room H len joins p'' w'' room''
  midway-step i p'' w'' room'' e (passes {n = n} d) =
      let k = met-here (noted n) e in
      let f : Within behind_joins w' w'' = within_wider behind_joins (omega arith) (omega arith) d.kept in
      record {
        asking = asking-on w'' f;
        rest = k.rest;
        stands = k.onward;
        moment = after (noted n) m.moment;
        passed = ap (λ (x : ℕ). x + length (stands_for n)) m.passed;
        differed = ap (λ (x : ℕ). x + length (pairs_noted n)) m.differed;
        counted = let c : p.before + length (records_of (noted n ∷ k.rest)) ≡ len = rw k.first at m.counted in omega (arith, length-append (stands_for n) (records_of k.rest));
        guarded = guarded-note n (pairs_of k.rest) m.asking.records d (rw k.first at m.guarded);
        bytes = m.bytes;
        sound = λ bs s. m.sound bs (rw k.first (laws.passed s));
        reached = m.reached;
        front = m.front;
        fits = rw k.first at m.fits;
        kept = within-trans m.kept f;
        asks = m.asks;
      }
  midway-step i p'' w'' room'' e (answers {q = q} a) =
      let k = met-here (posed q) e in
      let right : R.Answers (matter_in job) m.moment q a.field = a.right m.moment m.passed m.differed in
      let fit : length a.field ≤ room_for (head_in job) m.moment q = laws.fits right in
      let h : p.out + (room_for (head_in job) m.moment q + needed_room (head_in job) (after (posed q) m.moment) k.rest) ≤ length room = rw k.first at m.fits in
      let g : Guarded job w'' p.differs (pairs_of m.rest) = guarded-kept a.kept (omega arith) m.guarded in
      record {
        asking = asking-on w'' a.kept;
        rest = k.rest;
        stands = k.onward;
        moment = after (posed q) m.moment;
        passed = m.passed;
        differed = m.differed;
        counted = rw k.first at m.counted;
        guarded = rw k.first at g;
        bytes = m.bytes ++ a.field;
        sound = λ bs v. rw append_assoc (m.sound (a.field ++ bs) (rw k.first (laws.answered right v)));
        reached = a.reached ∙ rw (length-append, m.reached);
        front = a.front ∙ laid_then 0 p.out m.bytes a.field room room' (omega (arith, m.reached)) (omega (arith, m.reached)) m.front;
        fits = omega (arith, a.reached);
        kept = within-trans m.kept (within_wider behind_joins (omega arith) (omega arith) a.kept);
        asks = m.asks;
      }

  pub midway-on : (f : Field) (n : ℕ) (p'' : Spot) (w'' room'' : List ℕ) → f ≡ field_standing job p.at → n ≡ behind_at job p.at → Onward R job w' room' len n p p'' w'' room'' f → Midway R job w room H len joins p'' w'' room''
  midway-on f n p'' w'' room'' e i (onward {i = j} s) = midway-step j p'' w'' room'' (sym e) (rw i at s)

  -- A field that is not the end is an item, and can be met.
  pub midway-meeting : (f : Field) → f ≡ field_standing job p.at → is_end_field f ≡ false → Meeting job w' room' H len joins p f
  midway-meeting f e n = go m.rest refl
    where
      marking : (n : Note) → field_standing job p.at ≡ item (noted n) → Marking w' H len joins p.differs n
      marking n h =
          let k = met-here (noted n) h in
          record { past = m.asking.past; units = rw m.asking.head at m.asking.stands.units; tags = rw m.asking.head at k.tags; room = guarded-room n (pairs_of k.rest) m.asking.stands (rw k.first at m.guarded) }

      faced : (i : Item) → field_standing job p.at ≡ item i → Meeting job w' room' H len joins p (item i)
      faced (noted n) h = note-met {n = n} (omega (arith, m.counted, m.asking.past.loaded.most, stands-few n)) (marking n h)
      faced (posed q) h = question-met (midway-facing q h)

      go : (is : List Item) → m.rest ≡ is → Meeting job w' room' H len joins p f
      go [] q =
          let e' : f ≡ end = e ∙ stands-last job (head_in job).size p.at (rw q at m.stands) in
          let t : true ≡ false = ap is_end_field (sym e') ∙ n in
          let z : ◌≡◌ {A = ℕ} 0 1 = cc in
          absurd (omega arith)
      go (i ∷ is) q =
          let i' : field_standing job p.at ≡ item i = stands-first job (head_in job).size p.at i is (rw q at m.stands) in
          rw (e ∙ i') (faced i i')

  pub midway-ended : (f : Field) → f ≡ field_standing job p.at → is_end_field f ≡ true → Told R job w room H len joins w' room' p.out
  midway-ended f e n = go m.rest refl
    where
      go : (is : List Item) → m.rest ≡ is → Told R job w room H len joins w' room' p.out
      go [] q = midway-told (stands-last job (head_in job).size p.at (rw q at m.stands))
      go (i ∷ is) q =
          let e' : f ≡ item i = e ∙ stands-first job (head_in job).size p.at i is (rw q at m.stands) in
          let t : false ≡ true = ap is_end_field (sym e') ∙ n in
          let z : ◌≡◌ {A = ℕ} 0 1 = cc in
          absurd (omega arith)

  -- The place stands within the job, moves on, and stays within it.
  pub midway-within : p.at ≤ length job
  midway-within = omega (arith, stands-within job (head_in job).size p.at m.rest m.stands)

  pub midway-closer : (f : Field) (n : ℕ) (p'' : Spot) (w'' room'' : List ℕ) → f ≡ field_standing job p.at → n ≡ behind_at job p.at → Onward R job w' room' len n p p'' w'' room'' f → (p.at < p''.at) × (p''.at ≤ length job)
  midway-closer f n p'' w'' room'' e i (onward {i = j} s) =
      let l : behind_at job p.at ≤ length job = (met-here j (sym e)).there in
      let g : p''.at ≡ n = stepped-to s in
      (omega arith, omega arith)
