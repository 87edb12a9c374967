-- What the scan of the pairs before a 06 says of the job: the earliest that is broken, with the record at which it broke, or that none is.
-- Assumes nothing.
use Prim.Native.Nat.{ℕ, suc, ◌+◌, ◌-◌, ◌≤◌}
use native.Mathlib.Omega.{arith}
use mathlib.Core.Path.{◌≡◌, refl, sym, ◌∙◌, ap}
use mathlib.Core.List.{List, [], ◌++◌, append_assoc}
use lib.ListN.{length, length-append}
use Rattle.meaning.specs.Reasons.{FirstAt}
use Rattle.meaning.specs.Limits.{most_differs}
use Rattle.job_field.specs.Items.{Head, Pair, Note, pairs_noted, records_of, pairs_of}
use Rattle.job_field.specs.Reading.{head_in, items_in}
use Rattle.job_field.specs.Standing.{Job}
use Rattle.table.specs.Map.{rec_at, records_in, since_of, Within}
use Rattle.table.specs.Places.{LIST, SINCE, from_to}
use Rattle.table.specs.Past.{Past}
use Rattle.table.proofs.Frame.{length-gather}
use Rattle.report.specs.Broken.{pair_no, Earliest, Unbroken}
use Rattle.pairs.specs.Marks.{Noted, Scanned}
use Rattle.pairs.specs.Found.{Sought}
use Rattle.pairs.specs.Breaking.{Breaking, Guarded}
use Rattle.pairs.proofs.Marking.{marked-kept, scanned-some, scanned-none, scanned-first}

module _ {job w : List ℕ} {H : Head} {len joins before differs : ℕ} (B : Breaking job w H len joins before differs) where
  -- As many records as the table holds.
  pub breaking-records : length (records_of (items_in job)) ≡ len
  breaking-records = sym (ap length B.records) ∙ length-gather (λ k. rec_at w (suc k)) len

  pub breaking-few : differs ≤ most_differs
  breaking-few = omega (arith, ap length B.all, length-append B.pairs B.more, B.counted, B.stands.differs)

  early : before ≤ length (records_of (items_in job))
  early = omega (arith, breaking-records, B.passed)

  scanned : {k : ℕ} → Scanned w differs before k → Scanned w (length B.pairs) before k
  scanned s = rw B.counted s

  pub breaking-some : {k : ℕ} → Scanned w differs before k → 1 ≤ k → Earliest (records_of (items_in job)) before (pairs_of (items_in job)) differs k
  breaking-some s l = rw (B.all, ← B.counted) (scanned-some B.more B.marks before early (scanned s) l)

  pub breaking-none : {k : ℕ} → Scanned w differs before k → k ≡ 0 → Unbroken (records_of (items_in job)) before (pairs_of (items_in job)) differs
  breaking-none s e = rw (B.all, ← B.counted) (scanned-none B.more B.marks before early (scanned s) e)

  -- The number that is kept for it is the first k, and not above the records before the question.
  pub breaking-first : {k : ℕ} → Scanned w differs before k → 1 ≤ k
      → (since_of w (k - 1) ≤ before) × FirstAt (records_of (items_in job)) (pair_no (pairs_of (items_in job)) k).first (pair_no (pairs_of (items_in job)) k).second (since_of w (k - 1))
  breaking-first s l = rw B.all (scanned-first B.more B.marks before early (scanned s) l)

  -- The job has a pair of that number.
  pub breaking-sought : {k : ℕ} → Earliest (records_of (items_in job)) before (pairs_of (items_in job)) differs k → Sought job k
  breaking-sought e = record { stands = B.stands; some = e.number; most = omega (arith, e.before, ap length B.all, length-append B.pairs B.more, B.counted) }

-- Going through the job.
pub guarded-begin : (job w : List ℕ) → Guarded job w 0 (pairs_of (items_in job))
guarded-begin job w = record { pairs = []; all = refl; counted = refl; marks = record { each = λ j l. absurd (omega arith) } }

pub guarded-kept : {job w w' : List ℕ} {differs e : ℕ} {ahead : List Pair} → Within (from_to LIST.at e) w w' → e ≤ SINCE.at → Guarded job w differs ahead → Guarded job w' differs ahead
guarded-kept f l g = record { pairs = g.pairs; all = g.all; counted = g.counted; marks = marked-kept f l g.marks }

pub guarded-note : {job w w' : List ℕ} {len differs : ℕ} (n : Note) (ahead : List Pair) → records_in len w ≡ records_of (items_in job) → Noted w w' len differs n → Guarded job w differs (pairs_noted n ++ ahead)
    → Guarded job w' (differs + length (pairs_noted n)) ahead
guarded-note {job} n ahead e d g = record {
  pairs = g.pairs ++ pairs_noted n;
  all = g.all ∙ sym (append_assoc g.pairs (pairs_noted n) ahead);
  counted = length-append g.pairs (pairs_noted n) ∙ ap (λ (k : ℕ). k + length (pairs_noted n)) g.counted;
  marks = rw e at (d.marks g.pairs g.counted (rw e g.marks));
}

-- A note that stands next can be marked.
pub guarded-room : {job w : List ℕ} {differs : ℕ} (n : Note) (ahead : List Pair) → Job job (head_in job) (items_in job) → Guarded job w differs (pairs_noted n ++ ahead) → differs + length (pairs_noted n) ≤ most_differs
guarded-room n ahead j g = omega (arith, j.differs, ap length g.all, length-append g.pairs (pairs_noted n ++ ahead), length-append (pairs_noted n) ahead, g.counted)

-- A question can look at the pairs before it.
pub breaking-here : {job w : List ℕ} {H : Head} {len joins before differs : ℕ} (ahead : List Pair) → Job job (head_in job) (items_in job) → head_in job ≡ H → records_in len w ≡ records_of (items_in job) → Past H.size len w joins → before ≤ len
    → Guarded job w differs ahead → Breaking job w H len joins before differs
breaking-here ahead j s r p l g = record { stands = j; head = s; records = r; past = p; passed = l; pairs = g.pairs; more = ahead; all = g.all; counted = g.counted; marks = g.marks }
