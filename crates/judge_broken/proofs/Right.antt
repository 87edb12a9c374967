-- A right field for a 06 is found whole where it stands, so that its kind, the number of the pair and the reason behind it decide whether one stands there.
-- Assumes nothing.
use Prim.Native.Nat.{ℕ, suc, ◌+◌, ◌-◌, ◌≤◌, ◌<◌}
use native.Mathlib.Omega.{arith}
use mathlib.Core.Path.{◌≡◌, refl, sym, ◌∙◌, ap, subst}
use mathlib.Core.Logic.{◌≢◌}
use mathlib.Core.Bool.{Bool, false}
use mathlib.Core.List.{List, [], ◌∷◌}
use lib.ListN.{length, drop}
use Rattle.meaning.specs.Reasons.{Reason}
use Rattle.job_field.specs.Items.{Head, Moment, records_of, pairs_of, broken}
use Rattle.job_field.specs.Reading.{items_in, matter_in}
use Rattle.table.specs.Map.{rec_at, records_in, since_of, Within}
use Rattle.table.specs.Places.{scratch}
use Rattle.table.proofs.Frame.{within-refl, within-trans, length-gather}
use Rattle.report.specs.Broken.{Earliest, Unbroken}
use Rattle.report.specs.Report as told
use Rattle.report.specs.Report.{two, numbers, field}
use Rattle.report.specs.Fault.{Stands}
use Rattle.meaning.proofs.Laws.{reason-short}
use Rattle.report.proofs.Known.{stands-map}
use Rattle.report.proofs.Broken.{earliest-one, earliest-some}
use Rattle.report.proofs.Bytes.{length_two, length-numbers, length-field, field-one}
use Rattle.report_read.specs.Read.{Holds, FrontAt, whole, none}
use Rattle.report_read.specs.declared.Front.{Front}
use Rattle.report_read.proofs.Read.{holds-one, holds-front, holds-behind, holds-both, number-held, field-body, field_room}
use Rattle.report_read.proofs.Right as front
use Rattle.moment.specs.declared.Question.{Question}
use Rattle.moment.specs.Posed.{Deciding}
use Rattle.std.specs.Prelude.{Option, None, Result, Ok, Err}
use Rattle.answer_ask.specs.Right.{RightAt, to, wrong}
use Rattle.answer_ask.proofs.Right.{found}
use Rattle.judge_sheets.specs.Passing as pass
use Rattle.judge_sheets.specs.Passing.{PassedAt}
use Rattle.judge_sheets.specs.Behind.{Behind, Turned}
use Rattle.judge_sheets.proofs.Passing.{reasonless, reason-passed}
use Rattle.profile.specs.Plain.{plain_rules, plain_laws}
use Rattle.judge_explain.specs.Right.{Reasoned, Known}
use Rattle.judge_explain.proofs.Right.{Whole}
use Rattle.pairs.specs.declared.Differing.{Differing}
use Rattle.pairs.specs.Marks.{Scanned}
use Rattle.pairs.specs.Found.{Found}
use Rattle.pairs.specs.Breaking.{Breaking}
use Rattle.pairs.proofs.Breaking.{breaking-first}
use Rattle.judge_broken.specs.Checked.{NumberedReason, BreachField, of, IntactField, Breached, Checked}

-- A number and a list behind it.
module _ (report : List ℕ) (at k : ℕ) (L : List ℕ) where
  list-behind : Holds report at (numbers (k ∷ L)) → Holds report at (two k) × Holds report (at + 2) (numbers L)
  unfolding numbers
  list-behind h = (holds-front report at (two k) (numbers L) h, rw (length_two k) at (holds-behind report at (two k) (numbers L) h))

  list-before : Holds report at (two k) → Holds report (at + 2) (numbers L) → Holds report at (numbers (k ∷ L))
  unfolding numbers
  list-before h g = holds-both report at (two k) (numbers L) h (rw (length_two k) g)

no_way : {A : Type 0} → (A → ⊥) → {w : List ℕ} → Deciding A w w false
no_way n {w} = record { kept = within-refl w; exact = (λ e. let z : ◌≡◌ {A = ℕ} 0 1 = cc in absurd (omega arith), λ a. absurd (n a)) }

-- The tests of the body, in their order.
module _ {w report : List ℕ} {at bytes k : ℕ} {q : Question} where
  pub breach-short : bytes < 2 → Deciding (NumberedReason w report at bytes q k) w w false
  breach-short l = no_way (λ r. omega (arith, r.all))

  pub breach-another : {n : ℕ} → Holds report at (two n) → n ≢ k → Deciding (NumberedReason w report at bytes q k) w w false
  breach-another {n} h e = no_way (λ r. e (number-held report at n k h (list-behind report at k r.list r.stand).0))

  pub breach-reason : {n : ℕ} {w' : List ℕ} {answer : Bool} → 2 ≤ bytes → Holds report at (two n) → n ≡ k → Deciding (Reasoned w report (at + 2) (bytes - 2) q) w w' answer
      → Deciding (NumberedReason w report at bytes q k) w w' answer
  breach-reason l h e d = record {
    kept = d.kept;
    exact = (
      λ t. let r = d.exact.0 t in record { list = r.list; all = omega (arith, r.all); stand = list-before report at k r.list (rw e at h) r.stand; reason = r.reason },
      λ r. d.exact.1 (record { list = r.list; all = omega (arith, r.all); stand = (list-behind report at k r.list r.stand).1; reason = r.reason }),
    );
  }

-- The field of a broken pair.
module _ (w report : List ℕ) (at : ℕ) (q : Question) (k : ℕ) where
  breach-found : Stands (BreachField w q k) (drop at report) → (L : List ℕ) × Reason q.size (records_in q.len w) q.before q.s.0 q.t.0 L × Holds report at (field 134 (numbers (k ∷ L)))
  breach-found x = let r = found report at x in go r.is r.holds
    where
      go : {f : List ℕ} → BreachField w q k f → Holds report at f → (L : List ℕ) × Reason q.size (records_in q.len w) q.before q.s.0 q.t.0 L × Holds report at (field 134 (numbers (k ∷ L)))
      go (of {L = L} r) h = (L, r, h)

  pub breach-cut : {r : Option Front} → FrontAt report at r → r ≡ None → Breached w w report at q k (Err at)
  breach-cut f e = record { kept = within-refl w; right = wrong (λ x. let b = breach-found x in go f e b.0 b.2) refl }
    where
      go : {r : Option Front} → FrontAt report at r → r ≡ None → (L : List ℕ) → Holds report at (field 134 (numbers (k ∷ L))) → ⊥
      go (whole body h) e L g = let z : ◌≡◌ {A = ℕ} 0 1 = cc in omega arith
      go (none h) e L g = h 134 (numbers (k ∷ L)) g

  fields-one : {kind size : ℕ} (f : Whole report at kind size) (L : List ℕ) → Holds report at (field 134 (numbers (k ∷ L))) → (kind ≡ 134) × (f.body ≡ numbers (k ∷ L))
  fields-one {kind} f L g =
      let r = field-one kind 134 f.body (numbers (k ∷ L)) (drop (at + length (field kind f.body)) report) (drop (at + length (field 134 (numbers (k ∷ L)))) report) (sym f.holds ∙ g) in
      (r.0, r.1)

  module _ {kind size : ℕ} (f : Whole report at kind size) where
    pub breach-other : kind ≢ 134 → Breached w w report at q k (Err at)
    breach-other h = record { kept = within-refl w; right = wrong (λ x. let r = breach-found x in h (fields-one f r.0 r.2).0) refl }

    pub breach-right : {w' : List ℕ} → kind ≡ 134 → Within scratch w w' → NumberedReason w report (at + 3) size q k → Breached w w' report at q k (Ok (at + 3 + size))
    breach-right {w'} e g r =
        let l : length (numbers (k ∷ r.list)) ≡ size = length-numbers (k ∷ r.list) ∙ omega (arith, r.all) in
        let b : f.body ≡ numbers (k ∷ r.list) = holds-one report (at + 3) f.body (numbers (k ∷ r.list)) (f.long ∙ sym l) (field-body report at kind f.body f.holds) r.stand in
        let h : Holds report at (field 134 (numbers (k ∷ r.list))) = rw (b, e) at f.holds in
        record { kept = g; right = to {p = at + 3 + size} (of r.reason) h (omega (arith, length-field 134 (numbers (k ∷ r.list)), l)) }

    pub breach-wrong : {w' : List ℕ} → Within scratch w w' → (NumberedReason w report (at + 3) size q k → ⊥) → Breached w w' report at q k (Err at)
    breach-wrong {w'} g h = record { kept = g; right = wrong (λ x. let r = breach-found x in go r.0 r.1 r.2 (fields-one f r.0 r.2).1) refl }
      where
        go : (L : List ℕ) → Reason q.size (records_in q.len w) q.before q.s.0 q.t.0 L → Holds report at (field 134 (numbers (k ∷ L))) → f.body ≡ numbers (k ∷ L) → ⊥
        go L r b e = h (record { list = L; all = omega (arith, length-numbers (k ∷ L), ap length e, f.long); stand = field-body report at 134 (numbers (k ∷ L)) b; reason = r })

-- The field that says that none is broken.
pub intact-there : {report : List ℕ} {at : ℕ} → Holds report at (field 135 []) → RightAt IntactField report at (Ok (at + 3))
intact-there {report} {at} h = to {p = at + 3} refl h (omega (arith, length-field 135 []))

pub intact-not : {report : List ℕ} {at : ℕ} → (Holds report at (field 135 []) → ⊥) → RightAt IntactField report at (Err at)
intact-not {report} {at} n = wrong (λ x. let r = found report at x in n (rw r.is at r.holds)) refl

-- What is right by the table is right for the job.
module _ {job w : List ℕ} {H : Head} {len joins before differs : ℕ} (B : Breaking job w H len joins before differs) where
  pub checked-none : {report : List ℕ} {at : ℕ} {answer : Result ℕ ℕ} → Unbroken (records_of (items_in job)) before (pairs_of (items_in job)) differs → RightAt IntactField report at answer → Checked plain_rules job report w w before differs at answer
  checked-none {report} {at} u h = record { kept = within-refl w; right = λ b x y. go b x y h }
    where
      no-breach : (b : Moment) → b.records ≡ before → b.differs ≡ differs → {L f : List ℕ} → told.Reasoned (matter_in job) b broken L f → ⊥
      no-breach b x y (told.breached e r) = earliest-some (rw (x, y) at e) u

      only : (b : Moment) → b.records ≡ before → b.differs ≡ differs → {f : List ℕ} → told.Answers (matter_in job) b broken f → f ≡ field 135 []
      only b x y (told.reasoned r g) = absurd (no-breach b x y r)
      only b x y (told.intact v) = refl

      go : (b : Moment) → b.records ≡ before → b.differs ≡ differs → {a : Result ℕ ℕ} → RightAt IntactField report at a → PassedAt plain_rules (matter_in job) b broken report at a
      go b x y (to {f = f} {p = p} e g i) = pass.to {f = f} {p = p} (rw e (told.intact (rw (x, y) u))) g i
      go b x y (wrong n i) = pass.wrong (λ z. n (stands-map (λ f a. only b x y a) z)) (λ L z. reasonless plain_rules (λ K f r. no-breach b x y r) z) i

  module _ {k : ℕ} {p : Differing} {q : Question} (s : Scanned w differs before k) (e : Earliest (records_of (items_in job)) before (pairs_of (items_in job)) differs k) (f : Found job k p)
      (z : q ≡ record { size = H.size; unit = H.units; sheeted = H.sheeted; len = len; joins = joins; before = before; s = p.s; t = p.t }) where
    pub breach-known : {first : ℕ} → first ≡ since_of w (k - 1) → Known w q first
    breach-known i =
        let r = breaking-first B s e.number in
        rw (z, i)
        (record {
          posed = record { past = B.past; units = rw B.head at B.stands.units; early = B.passed; from = rw B.head at f.from; to = rw B.head at f.to };
          early = r.0;
          first = rw B.records (rw f.is at r.1);
        })

    abbrev Q : Question
    Q = record { size = H.size; unit = H.units; sheeted = H.sheeted; len = len; joins = joins; before = before; s = p.s; t = p.t }

    -- A reason that was found is one of the job's records, and its sheets can be looked for.
    early : before ≤ length (records_of (items_in job))
    early = omega (arith, B.passed, ap length B.records, length-gather (λ i. rec_at w (suc i)) len)

    reason-behind : {report w' L : List ℕ} {at end : ℕ} → Within scratch w w' → at ≤ length report → Reason H.size (records_in len w) before p.s.0 p.t.0 L → Holds report at (field 134 (numbers (k ∷ L)))
        → end ≡ at + length (field 134 (numbers (k ∷ L))) → Behind job report w' (at + 5) end
    reason-behind {report} {w'} {L} {at} {end} g l r h i = record {
      stands = B.stands;
      long = omega (arith, B.past.loaded.long, g.size);
      list = L;
      all = omega (arith, length-field 134 (numbers (k ∷ L)), length-numbers (k ∷ L));
      holds = list_at report at L h;
      within = omega (arith, field_room report at 134 (numbers (k ∷ L)) l h, length-field 134 (numbers (k ∷ L)));
      few = omega (arith, reason-short r, B.past.loaded.few);
      rising = r.rising;
      there = λ n m. omega (arith, r.stand n m, early);
    }
      where
        list_at : (report : List ℕ) (at : ℕ) (L : List ℕ) → Holds report at (field 134 (numbers (k ∷ L))) → Holds report (at + 5) (numbers L)
        list_at report at L h = let o : at + 3 + 2 ≡ at + 5 = omega arith in subst (λ (n : ℕ). Holds report n (numbers L)) o (list-behind report (at + 3) k L (field-body report at 134 (numbers (k ∷ L)) h)).1

    pub behind-there : {report w' : List ℕ} {at : ℕ} {found : Result ℕ ℕ} → at ≤ length report → Breached w w' report at q k found → (end : ℕ) → found ≡ Ok end → Behind job report w' (at + 5) end
    behind-there {report} {w'} {at} l g end e = go (rw z at g.right) e
      where
        go : {a : Result ℕ ℕ} → RightAt (BreachField w Q k) report at a → a ≡ Ok end → Behind job report w' (at + 5) end
        go (to {p = p'} (of r) h i) j = let y : p' ≡ end = cc in reason-behind g.kept l r h (sym y ∙ i)
        go (wrong n i) j = let y : ◌≡◌ {A = ℕ} 0 1 = cc in absurd (omega arith)

    module _ (b : Moment) (x : b.records ≡ before) (y : b.differs ≡ differs) where
      breach-there : {L : List ℕ} → Reason H.size (records_in len w) before p.s.0 p.t.0 L → told.Reasoned (matter_in job) b broken L (field 134 (numbers (k ∷ L)))
      breach-there {L} r = told.breached {k = k} {L = L} (rw (x, y) e) (rw (x, B.head, f.is) (rw B.records at r))

      back : {L g : List ℕ} → told.Reasoned (matter_in job) b broken L g → BreachField w Q k g
      back (told.breached {k = k'} {L = L} e' r) =
          let i : k' ≡ k = earliest-one (rw (x, y) at e') e in
          rw i (of {L = L} (rw B.records (rw (x, B.head, i, f.is) at r)))

      breach-answer : {report w₁ w₂ : List ℕ} {at : ℕ} {found answer : Result ℕ ℕ} → RightAt (BreachField w Q k) report at found → Turned job report w₁ w₂ (at + 5) found answer → PassedAt plain_rules (matter_in job) b broken report at answer
      breach-answer {report} {at = at} (to {p = p'} (of {L = L} r) h i) t =
          let o : at + 3 + 2 ≡ at + 5 = omega arith in
          reason-passed plain_laws (breach-there r) h i
          (t.some p' refl L (omega (arith, length-field 134 (numbers (k ∷ L)), length-numbers (k ∷ L))) (subst (λ (n : ℕ). Holds report n (numbers L)) o (list-behind report (at + 3) k L (field-body report at 134 (numbers (k ∷ L)) h)).1))
      breach-answer (wrong {p = p'} n i) t =
          rw (t.none p' refl) (pass.wrong (λ u. let r = front.broken-right {M = matter_in job} {b = b} {k = k} (rw (x, y) e) u in n (stands-map (λ g m. back m) r.1)) (λ L u. n (stands-map (λ g m. back m) u)) i)

    pub checked-some : {w₁ w₂ report : List ℕ} {at : ℕ} {found answer : Result ℕ ℕ} → Breached w w₁ report at q k found → Turned job report w₁ w₂ (at + 5) found answer → Checked plain_rules job report w w₂ before differs at answer
    checked-some h t = record { kept = within-trans h.kept t.kept; right = λ b x y. breach-answer b x y (rw z at h.right) t }
