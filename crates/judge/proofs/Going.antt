-- Each item of the job leads on: a record asks nothing of the report, a right field is passed, and at a wrong one the report's first fault
-- stands. Behind the last item only the totals may stand. Assumes nothing.
use Prim.Native.Nat.{ℕ, suc, ◌+◌, ◌-◌, ◌≤◌, ◌<◌}
use native.Mathlib.Omega.{arith}
use mathlib.Core.Path.{◌≡◌, refl, sym, ◌∙◌, ap, subst}
use mathlib.Core.Bool.{Bool}
use mathlib.Core.List.{List, [], ◌∷◌, ◌++◌, append-nil}
use lib.ListN.{length, drop, get_or, length-drop, length-append}
use lib.Seq.{drop-cons}
use Rattle.std.specs.Prelude.{Option, Some, None, Result, Ok, Err}
use Rattle.meaning.specs.Following.{UpTo}
use Rattle.meaning.specs.Totals.{Classes, Idles}
use Rattle.meaning.proofs.Laws.{classes-one, idles-one, classes-most, idles-most}
use Rattle.job_field.specs.Items.{Head, Matter, Moment, start, after, Note, stands_for, pairs_noted, Question, tags_of_question, Item, noted, posed, records_of, pairs_of}
use Rattle.job_field.specs.Reading.{units_stated, sheeted_in, behind_at, field_standing, bad, header, item, end, head_in, items_in, matter_in}
use Rattle.job_field.specs.Standing.{Below, Job, Met}
use Rattle.job_field.proofs.Standing.{stands-item, stands-end, stands-not-bad, stands-not-header, stands-within, edition-first}
use Rattle.table.specs.Map.{records_in, Within}
use Rattle.table.specs.Past.{Past}
use Rattle.table.specs.Places.{LIST, behind_joins, from_to, scratch}
use Rattle.pairs.specs.Marks.{Marking, Noted}
use Rattle.pairs.specs.Breaking.{Breaking, Guarded}
use Rattle.pairs.proofs.Breaking.{guarded-begin, guarded-kept, guarded-note, guarded-room, breaking-here}
use Rattle.moment.proofs.Kept.{kept-records, kept-past}
use Rattle.moment.specs.declared.Closed.{Closed}
use Rattle.moment.specs.declared.Question.{Question as Asked}
use Rattle.moment.specs.Posed.{head_of, head_asked, Posed}
use Rattle.judge_explain.specs.Right.{Explaining}
use Rattle.report.specs.Report.{numbers, field, Filed, Totalled, total, Known}
use Rattle.report.specs.Fault.{Stands}
use Rattle.report.proofs.Fits.{totalled-length}
use Rattle.report_read.specs.Read.{Holds}
use Rattle.report_read.proofs.Read.{holds-room}
use Rattle.profile.specs.Rules.{Rules, Laws}
use Rattle.answer_ask.proofs.Right.{found}
use Rattle.judge_sheets.specs.Passing.{PassedAt, to, wrong, astray}
use Rattle.judge.specs.declared.Stand.{Stand}
use Rattle.judge.specs.Judging.{Judgeable, Verdict, sound, fault}
use Rattle.judge.specs.Testing.{Testing, Tested}
use Rattle.judge.specs.Ended.{Ended}
use Rattle.judge.specs.Ended as r
use Rattle.judge.specs.Going as turned
use Rattle.judge.specs.Going.{Going, Turned, on}

-- What the table knows of the job at a moment.
pub known-here : {job w : List ℕ} {H : Head} {len joins before differs : ℕ} → Breaking job w H len joins before differs → (b : Moment) → b.records ≡ before → Known (matter_in job) b H (records_in len w) before
known-here B b e = record { head = B.head; records = sym B.records; before = e }

-- An explain at its moment.
pub explaining-here : {job w : List ℕ} {H : Head} {len joins before differs : ℕ} {q : Asked} → Breaking job w H len joins before differs → Posed w q → head_asked q ≡ H → q.len ≡ len → Explaining job w q
explaining-here B p e n = record { stands = B.stands; head = B.head ∙ sym e; records = rw n B.records; posed = p }

-- The table's data are kept by what writes only from the list on.
pub judgeable-kept : {job w w' : List ℕ} {N len joins idle e : ℕ} → Within (from_to LIST.at e) w w' → Judgeable job w N len joins idle → Judgeable job w' N len joins idle
judgeable-kept {len = len} f h = record {
  accepted = h.accepted;
  size = h.size;
  count = h.count;
  held = kept-records f len ∙ h.held;
  past = kept-past f h.past;
  classes = h.classes;
  idles = h.idles;
}

pub going_start : {R : Rules} {job w : List ℕ} {N len joins idle : ℕ} (report : List ℕ) → Judgeable job w N len joins idle → (at : ℕ) → at ≡ behind_at job 0 → Going R job report w (record { at = at; place = 0; before = 0; differs = 0 })
going_start {job = job} {w = w} report h at e = record {
  left = items_in job;
  stands = rw e h.accepted.stands;
  moment = start;
  passed = refl;
  differed = refl;
  guarded = guarded-begin job w;
  counted = omega arith;
  within = omega arith;
  sound = λ s. s;
  fault = λ p f. f;
}

pub going-within : {R : Rules} {job report w : List ℕ} {s : Stand} → Going R job report w s → s.at + 3 ≤ length job
going-within {job = job} {s = s} g = stands-within job (head_in job).size s.at g.left g.stands

-- A sound rest, or a fault in it, with the bytes as they stand.
module _ (R : Rules) {M : Matter} {b : Moment} where
  sound-moved : {is : List Item} {bs bs' : List ℕ} → bs ≡ bs' → R.Sound M b is bs → R.Sound M b is bs'
  sound-moved f h = rw (← f) h

  fault-moved : {is : List Item} {at at' : ℕ} {bs bs' : List ℕ} {p : ℕ} → at ≡ at' → bs ≡ bs' → R.FaultAt M b is at bs p → R.FaultAt M b is at' bs' p
  fault-moved a f h = rw (← a, ← f) h

-- What is known while the items `is` are left.
record Over (R : Rules) (job report : List ℕ) (s : Stand) (b : Moment) (is : List Item) : Type 0 where
  counted : s.before + length (records_of is) ≡ length (records_of (items_in job))
  within : s.place ≤ length report
  sound : R.Sound (matter_in job) b is (drop s.place report) → R.Sound (matter_in job) start (items_in job) report
  fault : (p : ℕ) → R.FaultAt (matter_in job) b is s.place (drop s.place report) p → R.FaultAt (matter_in job) start (items_in job) 0 report p

over : {R : Rules} {job report w : List ℕ} {s : Stand} (g : Going R job report w s) (is : List Item) → g.left ≡ is → Over R job report s g.moment is
over {R} {job} {report} {w} {s} g is e = subst (λ (x : List Item). Over R job report s g.moment x) e (record { counted = g.counted; within = g.within; sound = g.sound; fault = g.fault })

-- A right reason stands at a place, and behind it not its sheets.
fault-astray : {R : Rules} → Laws R → {M : Matter} {b : Moment} {q : Question} {L f : List ℕ} {is : List Item} {p : ℕ} (report : List ℕ) (at : ℕ) → R.Reasoned M b q L f → Holds report at f → at + length f ≡ p → (Stands (Filed M L) (drop p report) → ⊥)
    → R.FaultAt M b (posed q ∷ is) at (drop at report) p
fault-astray {R} laws {M} {b} {q} {L} {f} {is} {p} report at r h e n =
    let k : Stands (Filed M L) (drop (at + length f) report) → ⊥ = rw e n in
    subst (λ (x : ℕ). R.FaultAt M b (posed q ∷ is) at (drop at report) x) e (fault-moved R refl (sym h) (laws.astray r k))

module _ {R : Rules} (laws : Laws R) {job report w : List ℕ} {s : Stand} (g : Going R job report w s) where
  met : (i : Item) → field_standing job s.at ≡ item i → Met job (head_in job).size s.at i g.left
  met i e = stands-item job (head_in job).size s.at i g.left g.stands e

  pub item-tags : (q : Question) → field_standing job s.at ≡ item (posed q) → Below (head_in job).size (tags_of_question q)
  item-tags q e = (met (posed q) e).tags

  pub before-most : s.before ≤ length (records_of (items_in job))
  before-most = omega (arith, g.counted)

  -- A note, with its pair marked.
  pub going-note : (m : Note) (n k d : ℕ) {w' : List ℕ} {len : ℕ} → n ≡ behind_at job s.at → k ≡ length (stands_for m) → d ≡ length (pairs_noted m) → records_in len w ≡ records_of (items_in job) → Noted w w' len s.differs m
      → field_standing job s.at ≡ item (noted m) → Turned R job report w' s (Ok (Some (record { at = n; place = s.place; before = s.before + k; differs = s.differs + d })))
  going-note m n k d i h l r q e =
      let y = met (noted m) e in
      let o = over g (noted m ∷ y.rest) y.first in
      on {t = record { at = n; place = s.place; before = s.before + k; differs = s.differs + d }} (omega arith)
      (record {
        left = y.rest;
        stands = rw i y.onward;
        moment = after (noted m) g.moment;
        passed = rw (h, g.passed);
        differed = rw (l, g.differed);
        guarded = rw l (guarded-note m (pairs_of y.rest) r q (rw y.first at g.guarded));
        counted = omega (arith, o.counted, length-append (stands_for m) (records_of y.rest));
        within = g.within;
        sound = λ h. o.sound (laws.passed h);
        fault = λ p f. o.fault p (laws.past f);
      })

  pub marking-there : {H : Head} {len joins : ℕ} (m : Note) → Job job (head_in job) (items_in job) → head_in job ≡ H → Past H.size len w joins → field_standing job s.at ≡ item (noted m) → Marking w H len joins s.differs m
  marking-there m j z p e =
      let y = met (noted m) e in
      record { past = p; units = rw z at j.units; tags = rw z at y.tags; room = guarded-room m (pairs_of y.rest) j (rw y.first at g.guarded) }

  -- A question whose field is right, ..
  going-passed : (q : Question) (n : ℕ) {w' : List ℕ} → Within scratch w w' → n ≡ behind_at job s.at → field_standing job s.at ≡ item (posed q) → {p : ℕ} → PassedAt R (matter_in job) g.moment q report s.place (Ok p)
      → Turned R job report w' s (Ok (Some (record { at = n; place = p; before = s.before; differs = s.differs })))
  going-passed q n {w'} v k e {p} h = go h refl
    where
      go : {a : Result ℕ ℕ} → PassedAt R (matter_in job) g.moment q report s.place a → a ≡ Ok p → Turned R job report w' s (Ok (Some (record { at = n; place = p; before = s.before; differs = s.differs })))
      go (to {f = f} {p = p'} a h x) z =
          let m = met (posed q) e in
          let o = over g (posed q ∷ m.rest) m.first in
          let i : p' ≡ p = cc in
          let y : s.place + length f ≡ p = sym x ∙ i in
          let bs : f ++ drop p report ≡ drop s.place report = rw (← y) (sym h) in
          let u : Guarded job w' s.differs (pairs_of g.left) = guarded-kept v (omega arith) g.guarded in
          on {t = record { at = n; place = p; before = s.before; differs = s.differs }} (omega arith)
          (record {
            left = m.rest;
            stands = rw k m.onward;
            moment = after (posed q) g.moment;
            passed = g.passed;
            differed = g.differed;
            guarded = rw m.first at u;
            counted = o.counted;
            within = omega (arith, holds-room report s.place f g.within h);
            sound = λ t. o.sound (sound-moved R bs (laws.answered a t));
            fault = λ r t. o.fault r (fault-moved R refl bs (laws.behind a (fault-moved R (sym y) refl t)));
          })
      go (wrong h l j) z = let y : ◌≡◌ {A = ℕ} 0 1 = cc in absurd (omega arith)
      go (astray r h x n) z = let y : ◌≡◌ {A = ℕ} 0 1 = cc in absurd (omega arith)

  -- .. or wrong.
  going-failed : (q : Question) {w' : List ℕ} → field_standing job s.at ≡ item (posed q) → {p : ℕ} → PassedAt R (matter_in job) g.moment q report s.place (Err p) → Turned R job report w' s (Err p)
  going-failed q {w'} e {p} h = turned.fault (go h refl)
    where
      go : {a : Result ℕ ℕ} → PassedAt R (matter_in job) g.moment q report s.place a → a ≡ Err p → R.FaultAt (matter_in job) start (items_in job) 0 report p
      go (to a h x) z = let y : ◌≡◌ {A = ℕ} 0 1 = cc in absurd (omega arith)
      go (wrong {p = p'} h l j) z =
          let m = met (posed q) e in
          let i : s.place ≡ p = cc in
          subst (λ (x : ℕ). R.FaultAt (matter_in job) start (items_in job) 0 report x) i ((over g (posed q ∷ m.rest) m.first).fault s.place (laws.wrong h l))
      go (astray {f = f} {p = p'} r h x m) z =
          let i = met (posed q) e in
          let j : p' ≡ p = cc in
          let y : s.place + length f ≡ p = sym x ∙ j in
          (over g (posed q ∷ i.rest) i.first).fault p (fault-astray laws report s.place r h y (rw j at m))

  -- No other field stands among the items.
  pub going-bad : (n : ℕ) → field_standing job s.at ≡ bad n → ⊥
  going-bad n = stands-not-bad job (head_in job).size s.at n g.left g.stands

  pub going-header : (n : Head) → field_standing job s.at ≡ header n → ⊥
  going-header n = stands-not-header job (head_in job).size s.at n g.left g.stands

-- The totals are one field.
totals-field : {M : Matter} {c i : ℕ} {f : List ℕ} → Classes M.head.size (UpTo M.records (length M.records)) c → Idles M.records i → Totalled M f → f ≡ field 143 (numbers (c ∷ i ∷ []))
totals-field h k (total h' k') = rw (classes-one h' h, idles-one k' k)

-- At the end the bytes that are left are the totals.
no_more : (l : List ℕ) → length l ≡ 0 → l ≡ []
no_more [] e = refl
no_more (x ∷ l) e = absurd (omega arith)

module _ {R : Rules} (laws : Laws R) (M : Matter) {c i : ℕ} (h : Classes M.head.size (UpTo M.records (length M.records)) c) (k : Idles M.records i) (report : List ℕ) (at : ℕ) where
  abbrev f : List ℕ
  f = field 143 (numbers (c ∷ i ∷ []))

  size : length f ≡ 7
  size = totalled-length {M = M} (total h k)

  pub verdict-end : {b : Moment} {a : Result (Unit {0}) ℕ} → Ended report at c i a → Verdict R M b [] at (drop at report) a
  verdict-end (r.right g l) =
      let z : drop (at + length f) report ≡ [] = no_more (drop (at + length f) report) (omega (arith, length-drop (at + length f) report, size)) in
      let e : f ≡ drop at report = sym (g ∙ ap (λ (x : List ℕ). f ++ x) z ∙ append-nil f) in
      sound (sound-moved R e (laws.totals (total h k)))
  verdict-end {b} (r.spare {p = p} g l q) =
      let m : at + length f ≡ p = omega (arith, size) in
      let z : drop p report ≡ get_or report p 0 ∷ drop (suc p) report = drop-cons report p 0 (omega arith) in
      let e : f ++ (get_or report p 0 ∷ drop (suc p) report) ≡ drop at report = sym (g ∙ ap (λ (x : List ℕ). f ++ x) (ap (λ (n : ℕ). drop n report) m ∙ z)) in
      fault (subst (λ (x : ℕ). R.FaultAt M b [] at (drop at report) x) m (fault-moved R refl e (laws.spare (total h k) (get_or report p 0) (drop (suc p) report))))
  verdict-end (r.wrong {p = p} g q) =
      fault {p = p} (rw q (laws.closing (λ x. let y = found report at x in g (rw (totals-field {M = M} h k y.is) at y.holds))))

-- The answer at the end field.
module _ {R : Rules} (laws : Laws R) {job report w : List ℕ} {N len joins idle : ℕ} {s : Stand} (J : Judgeable job w N len joins idle) (g : Going R job report w s) (e : field_standing job s.at ≡ end) where
  last : Over R job report s g.moment []
  last = over g [] (stands-end job (head_in job).size s.at g.left g.stands e)

  told : (a : Result (Unit {0}) ℕ) → Ended report s.place (N - joins) idle a → Verdict R (matter_in job) g.moment [] s.place (drop s.place report) a
  told a h =
      let c : Classes (head_in job).size (UpTo (records_of (items_in job)) (length (records_of (items_in job)))) (N - joins) = rw J.size (rw J.count at J.classes) in
      verdict-end laws (matter_in job) c J.idles report s.place h

  pub going_end : {u : Unit {0}} → Ended report s.place (N - joins) idle (Ok u) → Turned R job report w s (Ok None)
  going_end {u} h = go (told (Ok u) h) refl
    where
      go : {a : Result (Unit {0}) ℕ} → Verdict R (matter_in job) g.moment [] s.place (drop s.place report) a → a ≡ Ok u → Turned R job report w s (Ok None)
      go (sound t) z = turned.sound (last.sound t)
      go (fault t) z = let y : ◌≡◌ {A = ℕ} 0 1 = cc in absurd (omega arith)

  pub going-unended : {p : ℕ} → Ended report s.place (N - joins) idle (Err p) → Turned R job report w s (Err p)
  going-unended {p} h = go (told (Err p) h) refl
    where
      go : {a : Result (Unit {0}) ℕ} → Verdict R (matter_in job) g.moment [] s.place (drop s.place report) a → a ≡ Err p → Turned R job report w s (Err p)
      go (sound t) z = let y : ◌≡◌ {A = ℕ} 0 1 = cc in absurd (omega arith)
      go (fault {p = p'} t) z = let i : p' ≡ p = cc in turned.fault (subst (λ (x : ℕ). R.FaultAt (matter_in job) start (items_in job) 0 report x) i (last.fault p' t))

-- An item of the job as the code meets it.
module _ {R : Rules} (laws : Laws R) {job report w : List ℕ} (c : Closed) {idle : ℕ} (s : Stand) (J : Judgeable job w c.size c.len c.joins idle) (g : Going R job report w s) (top : head_in job ≡ head_of c) where
  pub testing-there : (q : Question) → field_standing job s.at ≡ item (posed q) → Testing job report w (head_of c) c.len c.joins s.before s.differs s.place q
  testing-there q e = record {
    breaking = breaking-here (pairs_of g.left) J.accepted top J.held J.past (omega (arith, before-most laws g, J.count)) g.guarded;
    tags = rw J.size at (item-tags laws g q e);
    within = g.within;
  }

  pub turn-passed : (q : Question) (n : ℕ) → n ≡ behind_at job s.at → field_standing job s.at ≡ item (posed q) → {w' : List ℕ} {p : ℕ} → Tested R job report w w' s.before s.differs s.place q (Ok p)
      → Turned R job report w' s (Ok (Some (record { at = n; place = p; before = s.before; differs = s.differs })))
  turn-passed q n k e h = going-passed laws g q n h.kept k e (h.right g.moment g.passed g.differed)

  pub turn-failed : (q : Question) → field_standing job s.at ≡ item (posed q) → {w' : List ℕ} {p : ℕ} → Tested R job report w w' s.before s.differs s.place q (Err p) → Turned R job report w' s (Err p)
  turn-failed q e h = going-failed laws g q e (h.right g.moment g.passed g.differed)

  pub totals-fit : (s.place ≤ length report) × (c.size - c.joins < 65536) × (idle < 65536)
  totals-fit = (g.within, omega (arith, classes-most J.classes, J.past.loaded.few), omega (arith, idles-most J.idles, J.count, J.past.loaded.most))

-- A turn, taken apart.
module _ {R : Rules} {job report w : List ℕ} {s : Stand} where
  pub turned_on : {t : Stand} {r : Result (Option Stand) ℕ} → Turned R job report w s r → r ≡ Ok (Some t) → (s.at < t.at) × Going R job report w t
  turned_on {t} (on {t = t'} l g) e = let z : t' ≡ t = cc in rw (← z) (l, g)
  turned_on (turned.sound v) e = let z : ◌≡◌ {A = ℕ} 0 1 = cc in absurd (omega arith)
  turned_on (turned.fault v) e = let z : ◌≡◌ {A = ℕ} 0 1 = cc in absurd (omega arith)

  pub turned-sound : {r : Result (Option Stand) ℕ} → Turned R job report w s r → r ≡ Ok None → Verdict R (matter_in job) start (items_in job) 0 report (Ok tt)
  turned-sound (on l g) e = let z : ◌≡◌ {A = ℕ} 0 1 = cc in absurd (omega arith)
  turned-sound (turned.sound v) e = sound v
  turned-sound (turned.fault v) e = let z : ◌≡◌ {A = ℕ} 0 1 = cc in absurd (omega arith)

  pub turned-fault : {p : ℕ} {r : Result (Option Stand) ℕ} → Turned R job report w s r → r ≡ Err p → Verdict R (matter_in job) start (items_in job) 0 report (Err p)
  turned-fault (on l g) e = let z : ◌≡◌ {A = ℕ} 0 1 = cc in absurd (omega arith)
  turned-fault (turned.sound v) e = let z : ◌≡◌ {A = ℕ} 0 1 = cc in absurd (omega arith)
  turned-fault {p} (turned.fault {p = p'} v) e = let i : p' ≡ p = cc in fault {p = p} (subst (λ (x : ℕ). R.FaultAt (matter_in job) start (items_in job) 0 report x) i v)

-- U is read off the first field, and the edition off the first byte.
pub head_read : {job w : List ℕ} {N len joins idle : ℕ} → Judgeable job w N len joins idle → (u : ℕ) (v : Bool) → u ≡ units_stated (field_standing job 0) → v ≡ sheeted_in job → head_in job ≡ record { size = N; units = u; sheeted = v }
head_read {job} J u v e f =
    let z : u ≡ (head_in job).units = e ∙ ap units_stated J.accepted.first in
    let y : v ≡ (head_in job).sheeted = f ∙ sym (edition-first job (head_in job) J.accepted.first) in
    rw (z, y, ← J.size) refl

-- What is known at each turn of the loop.
pub record Judging (R : Rules) (job report w₀ w : List ℕ) (c : Closed) (idle : ℕ) (s : Stand) : Type 0 where
  pub kept : Within behind_joins w₀ w
  pub judgeable : Judgeable job w c.size c.len c.joins idle
  pub top : head_in job ≡ head_of c
  pub going : Going R job report w s
  pub asks : R.Asks (items_in job)
