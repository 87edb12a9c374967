-- A right field that stands at a place is found there whole, so that looking for the numbers of a reason in it, or comparing its bytes with
-- those of the field that says there is none, decides whether one stands there. Assumes nothing.
use Prim.Native.Nat.{ℕ, suc, ◌+◌, ◌-◌, ◌*◌, ◌/◌, ◌%◌, ◌≤◌, ◌<◌}
use native.Mathlib.Omega.{arith}
use native.Mathlib.Decide.{ℕ_discrete}
use mathlib.Core.Path.{◌≡◌, refl, sym, ◌∙◌, ap}
use mathlib.Core.Logic.{◌≢◌, ◌↔◌}
use mathlib.Core.Bool.{Bool, true, false}
use mathlib.Core.List.{List, [], ◌∷◌, Memᴰ}
use lib.ListN.{length, get_or, drop}
use Rattle.meaning.specs.Following.{Rec, eq, Follows, same, UpTo, Only, Without}
use Rattle.meaning.specs.Reasons.{Above, last_of, FirstAt, Reason}
use Rattle.meaning.proofs.Exact.{first_one}
use Rattle.meaning.proofs.Laws.{reason-follows, reason-short}
use Rattle.meaning.proofs.Short.{reason-others}
use Rattle.meaning.proofs.Reference.{Small}
use Rattle.meaning.proofs.Trim.{member-le-last, le-last}
use Rattle.meaning.proofs.Close.{more_of}
use Rattle.job_field.specs.Items.{Head, Moment, explain, records_of}
use Rattle.job_field.specs.Reading.{head_in, items_in, matter_in}
use Rattle.table.specs.Map.{rec_at, records_in, list_of, list_in, Within}
use Rattle.table.proofs.Frame.{within-refl, within-trans, within_wider, length-gather}
use Rattle.moment.proofs.Kept.{kept-records, kept-loaded}
use Rattle.reason.proofs.Whole.{small-records}
use Rattle.report.specs.Report as told
use Rattle.report.specs.Report.{numbers, field}
use Rattle.report.specs.Fault.{Stands}
use Rattle.report.proofs.Known.{because-known, because-tabled, stands-map}
use Rattle.report_read.specs.Read.{Holds, FrontAt, whole, none}
use Rattle.report_numbers.specs.Read.{ListRead}
use Rattle.report_read.specs.declared.Front.{Front}
use Rattle.report.proofs.Bytes.{length-field, length-numbers, numbers-one, field-one}
use Rattle.meaning.proofs.Tests.{is-not}
use Rattle.meaning.specs.Limits.{most_tags}
use Rattle.table.specs.Places.{most_waiting, scratch}
use Rattle.report_read.proofs.Read.{holds-rest, holds-one, field-body, field_room}
use Rattle.report_read.proofs.Right as front
use Rattle.moment.specs.declared.Question.{Question}
use Rattle.std.specs.Prelude.{Option, Some, None, Result, Ok, Err}
use Rattle.moment.specs.Posed.{head_asked, Deciding}
use Rattle.answer_ask.specs.Right as far
use Rattle.answer_ask.specs.Right.{RightAt}
use Rattle.judge_sheets.specs.Passing.{PassedAt, to, wrong}
use Rattle.judge_sheets.specs.Behind.{Behind, Turned}
use Rattle.judge_sheets.proofs.Passing.{reasonless, reason-passed}
use Rattle.profile.specs.Plain.{plain_rules, plain_laws}
use Rattle.answer_ask.proofs.Right.{found}
use Rattle.judge_explain.specs.Right.{BecauseField, of, Assuring, Grounded, Explaining, Explained, Reasoned, Known}
use Rattle.reason_order.specs.Order.{Rising}
use Rattle.reason_order.proofs.Order.{rising-named}
use Rattle.reason_test.specs.Lists.{Named, Serving, Sufficient}
use Rattle.reason_test.proofs.Lists.{posed-kept}

-- What the tables know of the job at the moment of the question.
known : {job w : List ℕ} {q : Question} → Explaining job w q → (b : Moment) → b.records ≡ q.before → told.Known (matter_in job) b (head_asked q) (records_in q.len w) q.before
known E b e = record { head = E.head; records = sym E.records; before = e }

-- An explain where the equality does not follow has one right field.
module _ {job w : List ℕ} {q : Question} (E : Explaining job w q) (h : Follows (UpTo (records_in q.len w) q.before) q.s.0 q.t.0 → ⊥) (report : List ℕ) (at : ℕ) where
  apart-then : (b : Moment) → b.records ≡ q.before → Follows (UpTo (matter_in job).records b.records) q.s.0 q.t.0 → ⊥
  apart-then b e f = h (rw ((known E b e).records, e) at f)

  pub apart-passed : Holds report at (field 133 []) → Explained plain_rules job report w w at q (Ok (at + 3))
  apart-passed g = record { kept = within-refl w; right = λ b e. to {p = at + 3} (told.apart (apart-then b e)) g (omega (arith, length-field 133 [])) }

  pub apart-missing : (Holds report at (field 133 []) → ⊥) → Explained plain_rules job report w w at q (Err at)
  apart-missing g = record {
    kept = within-refl w;
    right = λ b e. wrong
        (λ x. let r = front.apart-right {M = matter_in job} {b = b} (apart-then b e) x in g (holds-rest report at (field 133 []) r.0 r.1))
        (λ L x. reasonless plain_rules (λ K f r. none b e r) x)
        refl;
  }
    where
      none : (b : Moment) → b.records ≡ q.before → {K f : List ℕ} → told.Reasoned (matter_in job) b (explain q.s.0 q.t.0) K f → ⊥
      none b e (told.because r) = apart-then b e (reason-follows r)

pub apart-room : (report : List ℕ) (at : ℕ) → at ≤ length report → Holds report at (field 133 []) → at + 3 ≤ length report
apart-room report at l h = omega (arith, field_room report at 133 [] l h)

-- The points of a reason that are tested, where the first k is at hand: the others follow from them.
no_number : (L : List ℕ) → Above 0 L → last_of 0 L ≡ 0 → L ≡ []
no_number [] a e = refl
no_number (x ∷ L) a e = absurd (omega (arith, a.0, le-last x L a.1))

module _ {rs : List Rec} {s t k : ℕ} (h : FirstAt rs s t k) where
  none_first : s ≡ t → k ≡ 0
  none_first e = first_one h (rw e (record { then = same; before = λ n m. absurd (omega arith) }))

  pub reason-rising : {N R : ℕ} {L : List ℕ} → Reason N rs R s t L → Dec (s ≡ t) → Rising L k
  reason-rising r (yes e) = rw (r.empty e, none_first e) (record { rising = tt; last = refl })
  reason-rising r (no e) = record { rising = r.rising; last = first_one (r.last e) h }

  pub reason-tested : {N R : ℕ} {L : List ℕ} → k ≤ R → ((i : ℕ) → i < length rs → Small N (get_or rs i (eq 0 0))) → Rising L k → Follows (Only rs L) s t → ((m : ℕ) → Memᴰ m L → Follows (Without rs L m) s t → ⊥) → Reason N rs R s t L
  reason-tested {N} {R} {L} l small g e u =
      reason-others N rs small g.rising (λ x i. omega (arith, member-le-last 0 L g.rising x i, g.last)) e (λ q. no_number L g.rising (g.last ∙ none_first q)) (λ d. rw g.last h) u

-- What a test that is exact says where it fails.
pub untrue : {A : Type 0} {b : Bool} → (b ≡ true) ↔ A → b ≡ false → A → ⊥
untrue h e a = let t = h.1 a in let z : ◌≡◌ {A = ℕ} 0 1 = cc in omega arith

-- The bytes of a reason: they are even in number, at most 2(N-1) numbers, and the list that was read is the only one they say.
module _ (w report : List ℕ) (at bytes : ℕ) (q : Question) where
  pub reason-odd : bytes % 2 ≢ 0 → Deciding (Reasoned w report at bytes q) w w false
  reason-odd h = record { kept = within-refl w; exact = is-not (λ r. h (omega (arith, r.all))) }

  pub reason-long : 2 * (q.size - 1) < bytes / 2 → Deciding (Reasoned w report at bytes q) w w false
  reason-long h = record { kept = within-refl w; exact = is-not (λ r. omega (arith, r.all, reason-short r.reason)) }

  module _ (w' : List ℕ) {k : ℕ} (K : Known w q k) (even : bytes % 2 ≡ 0) (read : ListRead report at (bytes / 2) w w') where
    list-is : (r : Reasoned w report at bytes q) → r.list ≡ list_in (bytes / 2) w'
    list-is r = numbers-one r.list (list_in (bytes / 2) w') (holds-one report at (numbers r.list) (numbers (list_in (bytes / 2) w'))
        (omega (arith, length-numbers r.list, length-numbers (list_in (bytes / 2) w'), length-gather (list_of w') (bytes / 2), r.all)) r.stand read.read)

    wide : Within scratch w w'
    wide = within_wider scratch (omega arith) (omega arith) read.kept

    pub reason-falls : (Rising (list_in (bytes / 2) w') k → ⊥) → Deciding (Reasoned w report at bytes q) w w' false
    reason-falls h = record { kept = wide; exact = is-not (λ r. h (rw (list-is r) at (reason-rising K.first r.reason (ℕ_discrete q.s.0 q.t.0)))) }

    module _ (short : bytes / 2 ≤ 2 * (q.size - 1)) (rise : Rising (list_in (bytes / 2) w') k) where
      pub reason-named : Named w' q (bytes / 2)
      reason-named = record {
        posed = posed-kept wide K.posed;
        listed = record {
          loaded = kept-loaded wide K.posed.past.loaded;
          short = omega (arith, K.posed.past.loaded.few);
          named = λ i l. let r = rising-named (list_of w') (bytes / 2) k rise i l in (r.0, omega (arith, r.1, K.early, K.posed.early));
        };
        few = omega (arith, K.posed.past.loaded.few);
        ordered = list_in (bytes / 2) w';
        rising = rise.rising;
        many = length-gather (list_of w') (bytes / 2);
        same = λ x. (λ m. m, λ m. m);
      }

      pub reason-served : {w'' : List ℕ} {answer : Bool} → Deciding (Sufficient w' q (bytes / 2)) w' w'' answer → Deciding (Reasoned w report at bytes q) w w'' answer
      reason-served {w''} {answer} d =
          let x : (answer ≡ true) ↔ Serving (records_in q.len w) q.s.0 q.t.0 (list_in (bytes / 2) w') = rw (kept-records wide q.len) at d.exact in
          record {
            kept = within-trans wide d.kept;
            exact = (
              λ e. record {
                list = list_in (bytes / 2) w';
                all = omega (arith, length-gather (list_of w') (bytes / 2));
                stand = read.read;
                reason = reason-tested K.first K.early (small-records K.posed.past.loaded) rise (x.0 e).entails (x.0 e).unspared.unspared;
              },
              λ r.
                  let s : Serving (records_in q.len w) q.s.0 q.t.0 r.list = record { entails = r.reason.entails; unspared = record { unspared = r.reason.unspared } } in
                  x.1 (rw (list-is r) at s),
            );
          }

-- A reason that was found: where the bytes say it, they are those of a reason, and no test is left.
pub own-few : {N : ℕ} {rs : List Rec} {R s t : ℕ} (n : ℕ) (w : List ℕ) → N ≤ most_tags → Reason N rs R s t (list_in n w) → n ≤ most_waiting
own-few n w l r = omega (arith, reason-short r, length-gather (list_of w) n)

module _ {w w' report : List ℕ} {at bytes : ℕ} {q : Question} (f : Within scratch w w') where
  pub own-not : Assuring (Reasoned w report at bytes q) w w' false
  own-not = record { kept = f; sure = λ e. let z : ◌≡◌ {A = ℕ} 0 1 = cc in absurd (omega arith) }

  pub own-found : (n : ℕ) {answer : Bool} → 2 * n ≡ bytes → Reason q.size (records_in q.len w) q.before q.s.0 q.t.0 (list_in n w')
      → (answer ≡ true) ↔ Holds report at (numbers (list_in n w')) → Assuring (Reasoned w report at bytes q) w w' answer
  own-found n e r h = record { kept = f; sure = λ t. record { list = list_in n w'; all = omega (arith, length-gather (list_of w') n); stand = h.0 t; reason = r } }

pub reason-sure : {A : Type 0} {w w' : List ℕ} {answer : Bool} → Assuring A w w' answer → answer ≡ true → Deciding A w w' true
reason-sure h e = record { kept = h.kept; exact = (λ t. h.sure e, λ a. refl) }

-- Where they do not say it, the tests go on with the table that the finding left.
pub known_kept : {w w' : List ℕ} {q : Question} {k : ℕ} → Within scratch w w' → Known w q k → Known w' q k
known_kept {q = q} f K = record { posed = posed-kept f K.posed; early = K.early; first = rw (kept-records f q.len) K.first }

pub reason-later : {w w' w'' report : List ℕ} {at bytes : ℕ} {q : Question} {answer : Bool} → Within scratch w w' → Deciding (Reasoned w' report at bytes q) w' w'' answer
    → Deciding (Reasoned w report at bytes q) w w'' answer
reason-later {q = q} f d = record {
  kept = within-trans f d.kept;
  exact = (
    λ t. let r = d.exact.0 t in record { list = r.list; all = r.all; stand = r.stand; reason = rw (kept-records f q.len) at r.reason },
    λ r. d.exact.1 (record { list = r.list; all = r.all; stand = r.stand; reason = rw (kept-records f q.len) r.reason }),
  );
}

-- The field of a reason.
pub record Whole (report : List ℕ) (at kind size : ℕ) : Type 0 where
  pub body : List ℕ
  pub long : length body ≡ size
  pub holds : Holds report at (field kind body)

pub front-whole : {report : List ℕ} {at kind size : ℕ} {r : Option Front} → FrontAt report at r → r ≡ Some (record { kind = kind; size = size }) → Whole report at kind size
front-whole {report} {at} {kind} {size} (whole {kind = k} body h) e =
    let f : ◌≡◌ {A = Front} (record { kind = k; size = length body }) (record { kind = kind; size = size }) = cc in
    let q : k ≡ kind = ap (λ (f : Front). f.kind) f in
    record { body = body; long = ap (λ (f : Front). f.size) f; holds = rw (← q) h }
front-whole (none h) e = let z : ◌≡◌ {A = ℕ} 0 1 = cc in absurd (omega arith)

pub whole_room : {report : List ℕ} {at kind size : ℕ} → at ≤ length report → Whole report at kind size → at + 3 + size ≤ length report
whole_room {report} {at} {kind} {size} l f = omega (arith, field_room report at kind f.body l f.holds, f.long)

fields-one : (report : List ℕ) (at k k' : ℕ) (b b' : List ℕ) → Holds report at (field k b) → Holds report at (field k' b') → (k ≡ k') × (b ≡ b')
fields-one report at k k' b b' h g = let r = field-one k k' b b' (drop (at + length (field k b)) report) (drop (at + length (field k' b')) report) (sym h ∙ g) in (r.0, r.1)

module _ (w report : List ℕ) (at : ℕ) (q : Question) where
  -- A right field is that of a reason.
  reason-found : Stands (BecauseField w q) (drop at report) → (L : List ℕ) × Reason q.size (records_in q.len w) q.before q.s.0 q.t.0 L × Holds report at (field 132 (numbers L))
  reason-found x = let r = found report at x in go r.is r.holds
    where
      go : {f : List ℕ} → BecauseField w q f → Holds report at f → (L : List ℕ) × Reason q.size (records_in q.len w) q.before q.s.0 q.t.0 L × Holds report at (field 132 (numbers L))
      go (of {L = L} r) h = (L, r, h)

  pub because-cut : {r : Option Front} → FrontAt report at r → r ≡ None → Grounded w w report at q (Err at)
  because-cut f e = record { kept = within-refl w; right = far.wrong (λ x. let b = reason-found x in go f e b.0 b.2) refl }
    where
      go : {r : Option Front} → FrontAt report at r → r ≡ None → (L : List ℕ) → Holds report at (field 132 (numbers L)) → ⊥
      go (whole body h) e L g = let z : ◌≡◌ {A = ℕ} 0 1 = cc in omega arith
      go (none h) e L g = h 132 (numbers L) g

  module _ {kind size : ℕ} (f : Whole report at kind size) where
    pub because-other : kind ≢ 132 → Grounded w w report at q (Err at)
    because-other h = record { kept = within-refl w; right = far.wrong (λ x. let r = reason-found x in h (fields-one report at kind 132 f.body (numbers r.0) f.holds r.2).0) refl }

    pub because-right : {w' : List ℕ} → kind ≡ 132 → Within scratch w w' → Reasoned w report (at + 3) size q → Grounded w w' report at q (Ok (at + 3 + size))
    because-right {w'} e g r =
        let b : f.body ≡ numbers r.list = holds-one report (at + 3) f.body (numbers r.list) (f.long ∙ sym r.all ∙ sym (length-numbers r.list)) (field-body report at kind f.body f.holds) r.stand in
        let h : Holds report at (field 132 (numbers r.list)) = rw (b, e) at f.holds in
        record { kept = g; right = far.to {p = at + 3 + size} (of r.reason) h (omega (arith, length-field 132 (numbers r.list), length-numbers r.list, r.all)) }

    pub because-wrong : {w' : List ℕ} → Within scratch w w' → (Reasoned w report (at + 3) size q → ⊥) → Grounded w w' report at q (Err at)
    because-wrong {w'} g h = record { kept = g; right = far.wrong (λ x. let r = reason-found x in go r.0 r.1 r.2 (fields-one report at kind 132 f.body (numbers r.0) f.holds r.2).1) refl }
      where
        go : (L : List ℕ) → Reason q.size (records_in q.len w) q.before q.s.0 q.t.0 L → Holds report at (field 132 (numbers L)) → f.body ≡ numbers L → ⊥
        go L r b e = h (record { list = L; all = sym (length-numbers L) ∙ sym (ap length e) ∙ f.long; stand = field-body report at 132 (numbers L) b; reason = r })

-- A reason that was found is one of the job's records, and its sheets can be looked for.
module _ {job w : List ℕ} {q : Question} (E : Explaining job w q) where
  early : q.before ≤ length (records_of (items_in job))
  early = omega (arith, E.posed.early, ap length E.records, length-gather (λ i. rec_at w (suc i)) q.len)

  reason-behind : {report w' L : List ℕ} {at end : ℕ} → Within scratch w w' → at ≤ length report → Reason q.size (records_in q.len w) q.before q.s.0 q.t.0 L → Holds report at (field 132 (numbers L))
      → end ≡ at + length (field 132 (numbers L)) → Behind job report w' (at + 3) end
  reason-behind {report} {w'} {L} {at} {end} k l r h e = record {
    stands = E.stands;
    long = omega (arith, E.posed.past.loaded.long, k.size);
    list = L;
    all = omega (arith, length-field 132 (numbers L), length-numbers L);
    holds = field-body report at 132 (numbers L) h;
    within = omega (arith, field_room report at 132 (numbers L) l h, length-field 132 (numbers L));
    few = omega (arith, reason-short r, E.posed.past.loaded.few);
    rising = r.rising;
    there = λ n i. omega (arith, r.stand n i, early);
  }

  pub behind-there : {report w' : List ℕ} {at : ℕ} {found : Result ℕ ℕ} → at ≤ length report → Grounded w w' report at q found → (end : ℕ) → found ≡ Ok end → Behind job report w' (at + 3) end
  behind-there {report} {w'} {at} l g end e = go g.right e
    where
      go : {p : Result ℕ ℕ} → RightAt (BecauseField w q) report at p → p ≡ Ok end → Behind job report w' (at + 3) end
      go (far.to {p = p'} (of r) h i) e = let z : p' ≡ end = cc in reason-behind g.kept l r h (sym z ∙ i)
      go (far.wrong n i) e = let y : ◌≡◌ {A = ℕ} 0 1 = cc in absurd (omega arith)

  pub edition-there : (head_in job).sheeted ≡ q.sheeted
  edition-there = ap (λ (h : Head). h.sheeted) E.head

  module _ {k : ℕ} (K : Known w q k) (b : Moment) (e : b.records ≡ q.before) where
    field-because : {L f : List ℕ} → told.Reasoned (matter_in job) b (explain q.s.0 q.t.0) L f → BecauseField w q f
    field-because r = go (because-tabled (known E b e) r)
      where
        go : {L f : List ℕ} → told.Reasoned (told.tabled (head_asked q) (records_in q.len w)) (told.after_records q.before) (explain q.s.0 q.t.0) L f → BecauseField w q f
        go (told.because r) = of r

    follows : Follows (UpTo (matter_in job).records b.records) q.s.0 q.t.0
    follows = rw ((known E b e).records, e) (more_of (λ n l. omega (arith, K.early)) K.first.then)

    because-answer : {report w₁ w₂ : List ℕ} {at : ℕ} {found answer : Result ℕ ℕ} → RightAt (BecauseField w q) report at found → Turned job report w₁ w₂ (at + 3) found answer → PassedAt plain_rules (matter_in job) b (explain q.s.0 q.t.0) report at answer
    because-answer {report} {at = at} (far.to {p = p} (of {L = L} x) h i) t =
        reason-passed plain_laws (because-known (known E b e) x) h i (t.some p refl L (omega (arith, length-field 132 (numbers L), length-numbers L)) (field-body report at 132 (numbers L) h))
    because-answer (far.wrong {p = p} n i) t =
        rw (t.none p refl) (wrong (λ x. let y = front.follows-right {M = matter_in job} {b = b} follows x in n (stands-map (λ f r. field-because r) y.1)) (λ L x. n (stands-map (λ f r. field-because r) x)) i)

  pub because-explained : {k : ℕ} {report w₁ w₂ : List ℕ} {at : ℕ} {found answer : Result ℕ ℕ} → Known w q k → Grounded w w₁ report at q found → Turned job report w₁ w₂ (at + 3) found answer → Explained plain_rules job report w w₂ at q answer
  because-explained K g t = record { kept = within-trans g.kept t.kept; right = λ b e. because-answer K b e g.right t }
