-- A field that is known is found where it stands by its kind, its length and its body; there is one right field, and behind a reason its sheets stand or not.
-- Assumes nothing.
use Prim.Native.Nat.{ℕ, suc, ◌+◌, ◌*◌, ◌≤◌}
use native.Mathlib.Omega.{arith}
use mathlib.Core.Path.{◌≡◌, refl, sym, ◌∙◌, ap, subst}
use mathlib.Core.Logic.{◌≢◌, ◌↔◌}
use mathlib.Core.Bool.{Bool, true, false}
use mathlib.Core.List.{List, [], ◌∷◌, ◌++◌, append_assoc, Memᴰ}
use lib.ListN.{length, drop, length-append}
use Rattle.meaning.specs.Following.{Rec, Follows, UpTo}
use Rattle.meaning.specs.Reasons.{Above}
use Rattle.meaning.specs.Limits.{most_tags}
use Rattle.job_field.specs.Items.{Head, Matter, Moment, Question, records_of, pairs_of, broken}
use Rattle.job_field.specs.Reading.{head_in, items_in, matter_in}
use Rattle.job_field.specs.Standing.{Job}
use Rattle.table.specs.Map.{list_of, list_in, rec_at, records_in, Within}
use Rattle.table.specs.Places.{Large, most_waiting, scratch}
use Rattle.table.proofs.Frame.{within-refl, within-trans, length-gather}
use Rattle.report.specs.Broken.{Earliest, Unbroken}
use Rattle.report.specs.Report.{two, numbers, field, Filed, Known}
use Rattle.report.specs.Fault.{Stands, stands}
use Rattle.report.proofs.Fault.{stands-in}
use Rattle.report.proofs.Known.{stands-map}
use Rattle.report.proofs.Bytes.{length_two, length-numbers, length-field, field-one}
use Rattle.report_read.specs.Read.{Holds, FrontAt, whole, none}
use Rattle.report_read.specs.declared.Front.{Front}
use Rattle.report_read.proofs.Read.{holds-one, holds-room, holds-front, holds-behind, holds-both, number-held, field-body, field_room}
use Rattle.moment.specs.declared.Question as moment
use Rattle.moment.specs.Posed.{head_asked}
use Rattle.pairs.specs.declared.Differing.{Differing}
use Rattle.pairs.specs.Found.{Found}
use Rattle.pairs.specs.Breaking.{Breaking}
use Rattle.std.specs.Prelude.{Option, Some, None, Result, Ok, Err}
use Rattle.answer_ask.specs.Right as right
use Rattle.answer_ask.specs.Right.{RightAt}
use Rattle.answer_ask.proofs.Right.{found}
use Rattle.judge_sheets.specs.Behind.{Behind, Filing, stood, missing, Turned}
use Rattle.judge_explain.specs.Right.{Explaining, Explained}
use Rattle.judge_broken.specs.Checked.{Checked}
use Rattle.judge_sheets.specs.Passing.{PassedAt, to, astray, wrong}
use Rattle.harness_test.specs.Rules.{harness_rules}
use Rattle.harness_meaning.specs.Harness.{Harness}
use Rattle.harness_report.specs.Report.{HarnessReasoned, breached, HarnessAnswers, reasoned, intact}
use Rattle.harness_report.proofs.Fits.{harness-few}
use Rattle.harness_report.proofs.Known.{harness-because-known, harness-apart-known}
use Rattle.harness_report.proofs.One.{harness-reasoned-one, none_apart, none-intact, reason-only, harness-answers-one}
use Rattle.harness_test.specs.Stands.{IsField, FieldAt, Broke, Breached}

-- What stands at the front of a field.
module _ {report : List ℕ} {at : ℕ} where
  pub front-field : {k n : ℕ} {r : Option Front} → FrontAt report at r → r ≡ Some (record { kind = k; size = n }) → FieldAt report at k n
  front-field {k} {n} (whole {kind = j} body h) e =
      let f : ◌≡◌ {A = Front} (record { kind = j; size = length body }) (record { kind = k; size = n }) = cc in
      let q : j ≡ k = ap (λ (f : Front). f.kind) f in
      record { body = body; long = ap (λ (f : Front). f.size) f; holds = rw (← q) h }
  front-field (none h) e = let z : ◌≡◌ {A = ℕ} 0 1 = cc in absurd (omega arith)

  pub front_cut : {k n : ℕ} {r : Option Front} → FrontAt report at r → r ≡ None → FieldAt report at k n → ⊥
  front_cut (whole body h) e f = let z : ◌≡◌ {A = ℕ} 0 1 = cc in omega arith
  front_cut {k} (none h) e f = h k f.body f.holds

  pub fields-one : {k n k' n' : ℕ} → FieldAt report at k n → FieldAt report at k' n' → (k ≡ k') × (n ≡ n')
  fields-one {k} {n} {k'} {n'} f g =
      let r = field-one k k' f.body g.body (drop (at + length (field k f.body)) report) (drop (at + length (field k' g.body)) report) (sym f.holds ∙ g.holds) in
      (r.0, sym f.long ∙ ap length r.1 ∙ g.long)

  pub field_fits : {k n : ℕ} → at ≤ length report → FieldAt report at k n → at + 3 + n ≤ length report
  field_fits {k} {n} l f = omega (arith, field_room report at k f.body l f.holds, f.long)

  pub field-same : {k n k' n' : ℕ} → FieldAt report at k n → k ≡ k' → n ≡ n' → FieldAt report at k' n'
  field-same f e g = rw (← e, ← g) f

-- Whether a field that is known stands there.
module _ (report : List ℕ) (at K : ℕ) (B : List ℕ) where
  pub stands-right : {n : ℕ} → FieldAt report at K n → n ≡ length B → Holds report (at + 3) B → RightAt (IsField (field K B)) report at (Ok (at + 3 + n))
  stands-right {n} f e h =
      let b : f.body ≡ B = holds-one report (at + 3) f.body B (f.long ∙ e) (field-body report at K f.body f.holds) h in
      let g : Holds report at (field K B) = rw b at f.holds in
      right.to {p = at + 3 + n} refl g (omega (arith, length-field K B))

  pub stands-not : {n : ℕ} → n ≡ length B → (FieldAt report at K n → ⊥) → RightAt (IsField (field K B)) report at (Err at)
  stands-not e h = right.wrong (λ x. let r = found report at x in h (record { body = B; long = sym e; holds = rw r.is at r.holds })) refl

  pub stands-other : (Holds report (at + 3) B → ⊥) → RightAt (IsField (field K B)) report at (Err at)
  stands-other h = right.wrong (λ x. let r = found report at x in h (field-body report at K B (rw r.is at r.holds))) refl

-- A number and a list behind it.
module _ (report : List ℕ) (at k : ℕ) (L : List ℕ) where
  pub list-behind : Holds report at (numbers (k ∷ L)) → Holds report at (two k) × Holds report (at + 2) (numbers L)
  unfolding numbers
  list-behind h = (holds-front report at (two k) (numbers L) h, rw (length_two k) at (holds-behind report at (two k) (numbers L) h))

  pub list-before : Holds report at (two k) → Holds report (at + 2) (numbers L) → Holds report at (numbers (k ∷ L))
  unfolding numbers
  list-before h g = holds-both report at (two k) (numbers L) h (rw (length_two k) g)

-- The body of a broken pair's field.
module _ (report : List ℕ) (at k : ℕ) (L : List ℕ) where
  five : at + 3 + 2 ≡ at + 5
  five = omega arith

  pub pair-other : {n : ℕ} → Holds report (at + 3) (two n) → n ≢ k → Holds report (at + 3) (numbers (k ∷ L)) → ⊥
  pair-other {n} h e g = e (number-held report (at + 3) n k h (list-behind report (at + 3) k L g).0)

  pub pair-list : Holds report (at + 3) (numbers (k ∷ L)) → Holds report (at + 5) (numbers L)
  pair-list g = rw five at (list-behind report (at + 3) k L g).1

  pub pair-both : {n : ℕ} → Holds report (at + 3) (two n) → n ≡ k → Holds report (at + 5) (numbers L) → Holds report (at + 3) (numbers (k ∷ L))
  pair-both h e g = list-before report (at + 3) k L (rw e at h) (rw five g)

pub list-bytes : (w : List ℕ) (n : ℕ) → 2 * n ≡ length (numbers (list_in n w))
list-bytes w n = omega (arith, length-numbers (list_in n w), length-gather (list_of w) n)

pub breach-bytes : (w : List ℕ) (k n : ℕ) → 2 + 2 * n ≡ length (numbers (k ∷ list_in n w))
breach-bytes w k n = omega (arith, length-numbers (k ∷ list_in n w), length-gather (list_of w) n)

-- What a test that is exact says where it fails.
pub untrue : {A : Type 0} {b : Bool} → (b ≡ true) ↔ A → b ≡ false → A → ⊥
untrue h e a = let t = h.1 a in let z : ◌≡◌ {A = ℕ} 0 1 = cc in omega arith

-- A field without a body.
module _ {report : List ℕ} {at : ℕ} (kind : ℕ) where
  pub bare-right : Holds report at (field kind []) → RightAt (IsField (field kind [])) report at (Ok (at + 3))
  bare-right h = right.to {p = at + 3} refl h (omega (arith, length-field kind []))

  pub bare-wrong : (Holds report at (field kind []) → ⊥) → RightAt (IsField (field kind [])) report at (Err at)
  bare-wrong n = right.wrong (λ x. let r = found report at x in n (rw r.is at r.holds)) refl

-- A field that is no reason, where the question has none.
pub none-stands : {M : Matter} {b : Moment} {q : Question} {L bs : List ℕ} → ((K g : List ℕ) → HarnessReasoned M b q K g → ⊥) → Stands (HarnessReasoned M b q L) bs → ⊥
none-stands n (stands r rest) = n _ _ r

pub lone-passed : {M : Matter} {b : Moment} {q : Question} {f report : List ℕ} {at : ℕ} {answer : Result ℕ ℕ} → HarnessAnswers M b q f → ((L g : List ℕ) → HarnessReasoned M b q L g → ⊥) → RightAt (IsField f) report at answer → PassedAt harness_rules M b q report at answer
lone-passed a n (right.to {f = g} e h i) = to {f = g} (rw e a) h i
lone-passed a n (right.wrong x e) = wrong (λ s. x (stands-map (λ g c. harness-answers-one c a) s)) (λ L s. none-stands n s) e

-- A reason stands in the list, with so many bytes before its numbers in its field.
pub record Grounded (job report w : List ℕ) (at front n : ℕ) (f : List ℕ) : Type 0 where
  pub stands : Job job (head_in job) (items_in job)
  pub long : Large w
  pub few : n ≤ most_waiting
  pub rising : Above 0 (list_in n w)
  pub there : (k : ℕ) → Memᴰ k (list_in n w) → k ≤ length (records_of (items_in job))
  pub within : at ≤ length report
  pub size : length f ≡ front + 2 * n
  pub body : Holds report at f → Holds report (at + front) (numbers (list_in n w))

module _ {job report w : List ℕ} {at front n : ℕ} {f : List ℕ} (G : Grounded job report w at front n f) where
  count : length (list_in n w) ≡ n
  count = length-gather (list_of w) n

  -- Where its field is found, its sheets can be looked for, ..
  pub behind-there : {found : Result ℕ ℕ} → RightAt (IsField f) report at found → (end : ℕ) → found ≡ Ok end → Behind job report w (at + front) end
  behind-there r end = go r
    where
      go : {p : Result ℕ ℕ} → RightAt (IsField f) report at p → p ≡ Ok end → Behind job report w (at + front) end
      go (right.to {f = g} {p = p} i h x) z =
          let o : p ≡ end = cc in
          let h' : Holds report at f = rw i at h in
          let l : length g ≡ length f = ap length i in
          record {
            stands = G.stands;
            long = G.long;
            list = list_in n w;
            all = omega (arith, G.size, count);
            holds = G.body h';
            within = omega (arith, holds-room report at f G.within h');
            few = omega (arith, G.few, count);
            rising = G.rising;
            there = G.there;
          }
      go (right.wrong x i) z = let y : ◌≡◌ {A = ℕ} 0 1 = cc in absurd (omega arith)

  -- .. and with them or without the place is told; where it is not, no right field stands there.
  pub reason-passed : {b : Moment} {q : Question} {w' : List ℕ} {found answer : Result ℕ ℕ} → HarnessReasoned (matter_in job) b q (list_in n w) f → RightAt (IsField f) report at found → Turned job report w w' (at + front) found answer → PassedAt harness_rules (matter_in job) b q report at answer
  reason-passed {b} {q} {w'} {answer = answer} r s t = found-at s t
    where
      go : {end : ℕ} {answer : Result ℕ ℕ} → Filing job report (list_in n w) end answer → Holds report at f → end ≡ at + length f → PassedAt harness_rules (matter_in job) b q report at answer
      go (stood {g = k} {p = e} y z i) h x = to {p = e} (reasoned r y) (holds-both report at f k h (subst (λ (m : ℕ). Holds report m k) x z)) (omega (arith, length-append f k))
      go (missing {p = e} y i) h x = astray {p = e} r h (i ∙ x) (subst (λ (m : ℕ). Stands (Filed (matter_in job) (list_in n w)) (drop m report) → ⊥) (sym i) y)

      front_of : {bs : List ℕ} → Stands (HarnessAnswers (matter_in job) b q) bs → Stands (IsField f) bs
      front_of (stands {f = g} a rest) =
          let o = reason-only r a in
          stands-in f (o.0 ++ rest) refl (sym (append_assoc f o.0 rest) ∙ ap (λ (l : List ℕ). l ++ rest) (sym o.2))

      found-at : {a : Result ℕ ℕ} → RightAt (IsField f) report at a → Turned job report w w' (at + front) a answer → PassedAt harness_rules (matter_in job) b q report at answer
      found-at (right.to {f = g} {p = p} i h x) t =
          let h' : Holds report at f = rw i at h in
          let l : length g ≡ length f = ap length i in
          go (t.some p refl (list_in n w) (omega (arith, G.size, count)) (G.body h')) h' (omega arith)
      found-at (right.wrong {p = p} x i) t = rw (t.none p refl) (wrong (λ s. x (front_of s)) (λ L s. x (stands-map (λ g k. (harness-reasoned-one k r).1) s)) i)

-- A reason that stands in the list has as many numbers as are told, and they are few.
pub list-few : {N : ℕ} {rs : List Rec} {R s t : ℕ} (n : ℕ) (w : List ℕ) → N ≤ most_tags → Harness N rs R s t (list_in n w) → n ≤ most_waiting
list-few n w l r = omega (arith, harness-few r, length-gather (list_of w) n)

-- The reason of an explain, ..
module _ {job w : List ℕ} {q : moment.Question} (E : Explaining job w q) where
  known : (b : Moment) → b.records ≡ q.before → Known (matter_in job) b (head_asked q) (records_in q.len w) q.before
  known b e = record { head = E.head; records = sym E.records; before = e }

  early : q.before ≤ length (records_of (items_in job))
  early = omega (arith, E.posed.early, ap length E.records, length-gather (λ i. rec_at w (suc i)) q.len)

  module _ {report : List ℕ} {at : ℕ} (l : at ≤ length report) where
    pub explain-grounded : (n : ℕ) (w₁ : List ℕ) → Large w₁ → Harness q.size (records_in q.len w) q.before q.s.0 q.t.0 (list_in n w₁) → Grounded job report w₁ at 3 n (field 132 (numbers (list_in n w₁)))
    explain-grounded n w₁ g r = record {
      stands = E.stands;
      long = g;
      few = list-few n w₁ E.posed.past.loaded.few r;
      rising = r.rising;
      there = λ k i. omega (arith, r.stand k i, early);
      within = l;
      size = omega (arith, length-field 132 (numbers (list_in n w₁)), list-bytes w₁ n);
      body = field-body report at 132 (numbers (list_in n w₁));
    }

    module _ (n : ℕ) (w₁ : List ℕ) (g : Large w₁) (r : Harness q.size (records_in q.len w) q.before q.s.0 q.t.0 (list_in n w₁)) where
      pub because-explained : {w₂ : List ℕ} {found answer : Result ℕ ℕ} → Within scratch w w₁ → RightAt (IsField (field 132 (numbers (list_in n w₁)))) report at found → Turned job report w₁ w₂ (at + 3) found answer → Explained harness_rules job report w w₂ at q answer
      because-explained k x t = record { kept = within-trans k t.kept; right = λ b e. reason-passed (explain-grounded n w₁ g r) (harness-because-known (known b e) r) x t }

    pub apart-explained : {w₁ : List ℕ} {answer : Result ℕ ℕ} → (Follows (UpTo (records_in q.len w) q.before) q.s.0 q.t.0 → ⊥) → Within scratch w w₁ → RightAt (IsField (field 133 [])) report at answer → Explained harness_rules job report w w₁ at q answer
    apart-explained n k x = record { kept = k; right = λ b e. lone-passed (harness-apart-known (known b e) n) (λ L g r. none_apart (rw ((known b e).records, e) n) r) x }

-- .. and of a broken pair.
module _ {job w report : List ℕ} {H : Head} {len joins before s t at : ℕ} (B : Broke job w H len joins before s t) (l : at ≤ length report) (k : ℕ) where
  pub breach-grounded : (n : ℕ) (w₁ : List ℕ) → Large w₁ → Harness H.size (records_in len w) before s t (list_in n w₁) → Grounded job report w₁ at 5 n (field 134 (numbers (k ∷ list_in n w₁)))
  breach-grounded n w₁ g r = record {
    stands = B.stands;
    long = g;
    few = list-few n w₁ B.past.loaded.few r;
    rising = r.rising;
    there = λ j i. omega (arith, r.stand j i, B.early);
    within = l;
    size = omega (arith, length-field 134 (numbers (k ∷ list_in n w₁)), breach-bytes w₁ k n);
    body = λ h. pair-list report at k (list_in n w₁) (field-body report at 134 (numbers (k ∷ list_in n w₁)) h);
  }

  module _ (n : ℕ) (w₁ : List ℕ) (g : Large w₁) (r : Harness H.size (records_in len w) before s t (list_in n w₁)) where
    pub breach-found : {w₂ : List ℕ} {found answer : Result ℕ ℕ} → Within scratch w w₁ → RightAt (IsField (field 134 (numbers (k ∷ list_in n w₁)))) report at found → Turned job report w₁ w₂ (at + 5) found answer → Breached job report w w₂ at H.size len before k s t answer
    breach-found v x u = record { kept = within-trans v u.kept; right = λ b q h. reason-passed (breach-grounded n w₁ g r) (h (list_in n w₁) r) x u }

-- What is right by the table is right for the job.
module _ {job w : List ℕ} {H : Head} {len joins before differs : ℕ} (B : Breaking job w H len joins before differs) where
  pub checked-none : {report : List ℕ} {at : ℕ} {answer : Result ℕ ℕ} → Unbroken (records_of (items_in job)) before (pairs_of (items_in job)) differs → RightAt (IsField (field 135 [])) report at answer → Checked harness_rules job report w w before differs at answer
  checked-none u h = record { kept = within-refl w; right = λ b x y. lone-passed (intact (rw (x, y) u)) (λ L g r. none-intact (rw (x, y) u) r) h }

  module _ {k : ℕ} {p : Differing} (e : Earliest (records_of (items_in job)) before (pairs_of (items_in job)) differs k) (f : Found job k p) where
    pub broke-there : Broke job w H len joins before p.s.0 p.t.0
    broke-there = record {
      stands = B.stands;
      head = B.head;
      early = omega (arith, B.passed, ap length B.records, length-gather (λ i. rec_at w (suc i)) len);
      past = B.past;
      passed = B.passed;
      from = rw B.head at f.from;
      to = rw B.head at f.to;
      equal = rw B.records (rw f.is at e.broken);
    }

    pub checked-some : {w' report : List ℕ} {at : ℕ} {answer : Result ℕ ℕ} → Breached job report w w' at H.size len before k p.s.0 p.t.0 answer → Checked harness_rules job report w w' before differs at answer
    checked-some h = record { kept = h.kept; right = λ b x y. h.right b broken (λ L r. breached {k = k} {L = L} (rw (x, y) e) (rw (x, B.head, f.is) (rw B.records at r))) }
