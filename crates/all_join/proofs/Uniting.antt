-- A join in the table. The applications that it concerns wait already, so those that are filed keep their keys; the relabelled part, and the five stores that keep the join, are what the theory of
-- a due join speaks of. Assumes nothing.
use Prim.Native.Nat.{ℕ, suc, ◌+◌, ◌*◌, ◌≤◌, ◌<◌}
use native.Mathlib.Omega.{arith}
use native.Mathlib.Decide.{dec_lt}
use mathlib.Core.Path.{◌≡◌, sym, ap, ◌∙◌, fun_ext}
use mathlib.Core.Logic.{◌≢◌, ◌⊎◌, inl, inr}
use mathlib.Core.Bool.{Bool, true, false}
use mathlib.Core.List.{List}
use Rattle.meaning.specs.Joins.{Join, put}
use Rattle.meaning.specs.Labels.{Labels, into, classes}
use Rattle.meaning.specs.Forest.{root}
use Rattle.meaning.proofs.Log.{grounds-more}
use Rattle.meaning.proofs.Short.{some-class}
use Rattle.meaning.proofs.Relabel.{into-hit, into-miss, relabel-classes, Ends}
use Rattle.meaning.specs.Limits.{most_tags}
use Rattle.table.specs.Map.{left_of, right_of, parent_of, age_of, when_of, label_of, use_of, more_of, state_of, chain_of, wait_of, bucket_of, join_by, join_at, records_in, Within}
use Rattle.table.proofs.Frame.{seen-within, within-trans, within_wider}
use Rattle.table_labels.specs.Parts.{Relabelled}
use Rattle.table.proofs.Kept.{lefts, rights, results, loaded-same}
use Rattle.table.specs.Places.{AGE, BUCKETS, CHAIN, FIRST, LABEL, Large, MORE, OTHER, PARENT, SECOND, SHARES, USES, WHEN, behind_columns, behind_joins, bucket_count, joins_part}
use Rattle.all_index.specs.declared.Front.{Front}
use Rattle.all_index.specs.Filing.{Filed}
use Rattle.all_index.specs.Waiting.{Queue}
use Rattle.all_index.specs.State.{eqn_at, key_at, res_at, Used, Queued, Touched}
use Rattle.all_index.proofs.Filing.{renamed}
use Rattle.all_index.proofs.Views.{eqns, tags, keys-same, ress-same}
use Rattle.all_join.specs.declared.Side.{Side}
use Rattle.all_join.specs.State.{up_to, Logged, lead_of, Standing, Due, Joining, Named, Kept, Joined}
use Rattle.all_join.proofs.Standing.{key-args}
use Rattle.all_join.proofs.Joining.{sound-join, leaders, lead-join, logged-join}
use Rattle.all_join.proofs.Logging.{Log, kept_frame, kept-log}
use Rattle.all_join.proofs.Marking.{marked-join}
use Rattle.all_join.proofs.Tops.{lead-top, logged-top, tops-join}

module _ {t : Front} {w : List ℕ} {n first k k' : ℕ} {x y : Side} (J : Joining t w n first k k' x.label.0 y.label.0) (X : Named t w n x) (Y : Named t w n y) where
  abbrev f : ℕ → ℕ
  f = lead_of w n

  abbrev j : Join
  j = join_by w k k'

  abbrev S : Standing t w n
  S = J.standing

  -- The label that stays, and the one that goes.
  abbrev a : ℕ
  a = x.label.0

  abbrev b : ℕ
  b = y.label.0

  labels : Labels f
  labels = leaders S.log

  -- The two leaders lead, are tags of the job, and differ.
  own_x : f x.leader.0 ≡ x.leader.0
  own_x = rw X.leader (labels.flat a)

  own-y : f y.leader.0 ≡ y.leader.0
  own-y = rw Y.leader (labels.flat b)

  low_x : x.leader.0 < t.size
  low_x = omega (arith, X.leader, labels.low a, X.low)

  low-y : y.leader.0 < t.size
  low-y = omega (arith, Y.leader, labels.low b, Y.low)

  differ : x.leader.0 ≢ y.leader.0
  differ q = J.apart (sym X.label ∙ S.marks.same a b (sym X.leader ∙ q ∙ Y.leader) ∙ Y.label)

  -- The bounds that the stores need.
  pub unite-kept : x.leader.0 < most_tags
  unite-kept = omega (arith, low_x, S.loaded.few)

  pub unite-gone : y.leader.0 < most_tags
  unite-gone = omega (arith, low-y, S.loaded.few)

  pub unite-young : n < most_tags
  unite-young = omega (arith, S.total, some-class t.size f labels S.loaded.some, S.loaded.few)

  -- A tag of the class that goes stands between its leader and its top.
  pub unite-top : parent_of w y.leader.0 < t.size
  unite-top = S.tops.below y.leader.0 low-y own-y

  led-y : (z : ℕ) → label_of w z ≡ b → f z ≡ y.leader.0
  led-y z e = S.marks.apart z b (e ∙ sym Y.label) ∙ sym Y.leader

  led-x : (z : ℕ) → label_of w z ≡ a → f z ≡ x.leader.0
  led-x z e = S.marks.apart z a (e ∙ sym X.label) ∙ sym X.leader

  pub unite-between : (z : ℕ) → label_of w z ≡ b → (y.leader.0 ≤ z) × (z ≤ parent_of w y.leader.0)
  unite-between z e =
      let q = led-y z e in
      (omega (arith, q, labels.low z), rw q at (S.tops.above z (elim (dec_lt z t.size) [ yes l ↦ l | no l ↦ absurd (omega (arith, q, S.own z (omega arith), low-y)) ])))

  pub unite-over : y.leader.0 ≤ parent_of w y.leader.0
  unite-over = rw own-y at (S.tops.above y.leader.0 low-y)

  -- The join is due by the leaders too.
  due : Due t.size (records_in t.len w) (up_to t.places) f j
  due = record { tags = J.due.tags; grounds = grounds-more S.marks.apart J.due.grounds; within = J.due.within }

  -- What leads, put in order.
  module _ {lo hi : ℕ} (o : ((x.leader.0 ≤ y.leader.0) × (lo ≡ x.leader.0) × (hi ≡ y.leader.0)) ⊎ ((y.leader.0 < x.leader.0) × (lo ≡ y.leader.0) × (hi ≡ x.leader.0))) where
    less : lo < hi
    less = elim o [ inl h ↦ omega (arith, h.0, h.1, h.2, differ) | inr h ↦ omega (arith, h.0, h.1, h.2) ]

    own-lo : f lo ≡ lo
    own-lo = elim o [ inl h ↦ rw h.1 own_x | inr h ↦ rw h.1 own-y ]

    own-hi : f hi ≡ hi
    own-hi = elim o [ inl h ↦ rw h.2 own-y | inr h ↦ rw h.2 own_x ]

    high : hi < t.size
    high = elim o [ inl h ↦ omega (arith, h.2, low-y) | inr h ↦ omega (arith, h.2, low_x) ]

    led : ((f a ≡ lo) × (f b ≡ hi)) ⊎ ((f a ≡ hi) × (f b ≡ lo))
    led = elim o [ inl h ↦ inl (sym X.leader ∙ sym h.1, sym Y.leader ∙ sym h.2) | inr h ↦ inr (sym X.leader ∙ sym h.2, sym Y.leader ∙ sym h.1) ]

    ends : Ends f lo hi j
    ends = elim J.ends [
      | inl e ↦ elim o [ inl h ↦ inl (led-x j.u e.0 ∙ sym h.1, led-y j.v e.1 ∙ sym h.2) | inr h ↦ inr (led-x j.u e.0 ∙ sym h.2, led-y j.v e.1 ∙ sym h.1) ]
      | inr e ↦ elim o [ inl h ↦ inr (led-y j.u e.0 ∙ sym h.2, led-x j.v e.1 ∙ sym h.1) | inr h ↦ inl (led-y j.u e.0 ∙ sym h.1, led-x j.v e.1 ∙ sym h.2) ]
    ]

    fewer : classes f t.size ≡ suc (classes (λ z. into lo hi (f z)) t.size)
    fewer = relabel-classes f lo hi labels own-lo own-hi less t.size high

    low-lo : lo < most_tags
    low-lo = omega (arith, less, high, S.loaded.few)

    low-hi : hi < most_tags
    low-hi = omega (arith, high, S.loaded.few)

    -- The leaders after the join, once its log stands.
    module _ {w' : List ℕ} (m u : ℕ) (heavy : most_tags ≤ u) (v : Log w w' lo hi n k k' t.places m u) where
      room : suc n ≤ most_tags
      room = omega (arith, unite-young)

      after : Logged (records_in t.len w) (up_to t.places) t.places (put hi lo (parent_of w)) (put hi n (age_of w)) (put n j (join_at w)) (put n t.places (when_of w)) (suc n)
      after = logged-join S.log lo hi room less own-lo own-hi ends due J.some

      forest : root (put hi lo (parent_of w)) (put hi n (age_of w)) (suc n) ≡ (λ z. into lo hi (f z))
      forest = lead-join S.log lo hi room less own-lo own-hi ends due J.some

      leads-lo : root (put hi lo (parent_of w)) (put hi n (age_of w)) (suc n) lo ≡ lo
      leads-lo = ap (λ (g : ℕ → ℕ). g lo) forest ∙ ap (into lo hi) own-lo ∙ into-miss lo hi lo (omega (arith, less))

      lead : lead_of w' (suc n) ≡ (λ z. into lo hi (f z))
      lead = rw (v.parent, v.age) (lead-top after lo m u leads-lo heavy ∙ forest)

      lead-at : (z : ℕ) → lead_of w' (suc n) z ≡ into lo hi (f z)
      lead-at z = ap (λ (g : ℕ → ℕ). g z) lead

      unite-standing : Within behind_columns w w' → label_of w' ≡ (λ z. into a b (label_of w z)) → parent_of w lo ≤ m → parent_of w hi ≤ m → (m ≡ parent_of w lo) ⊎ (m ≡ parent_of w hi) → Standing t w' (suc n)
      unite-standing r e c d h = record {
        loaded = loaded-same r S.loaded;
        reach = S.reach;
        sound = rw (lefts r, rights r, results r) (λ z. rw (lead-at z) (sound-join lo hi S.sound due ends z));
        total = omega (arith, fewer, S.total, ap (λ (g : ℕ → ℕ). classes g t.size) lead);
        own = λ z l. lead-at z ∙ ap (into lo hi) (S.own z l) ∙ into-miss lo hi z (omega (arith, high));
        tops = rw (lead, v.parent) (tops-join lo hi m S.tops less high own-lo own-hi c d h);
        log = rw (v.join, v.parent, v.age, v.when, lefts r, rights r, results r) (logged-top after lo m u leads-lo heavy);
        marks = rw (e, lead) (marked-join S.marks a b lo hi X.label Y.label X.low J.apart less led);
      }

  -- From w some were set to wait, then labels changed, then the join was kept.
  module _ {w₁ w₂ w₃ : List ℕ} {to : ℕ} (T : Touched t w w₁ to)
      (wait : (j : ℕ) → j < t.places → eqn_at w j ≡ false → (label_of w (left_of w (suc j)) ≡ b) ⊎ (label_of w (right_of w (suc j)) ≡ b) → chain_of w₁ j ≡ 0)
      (m : Relabelled w₁ w₂ a b) (K : Kept w₂ w₃ n k k' t.places x.leader.0 y.leader.0) where
    abbrev lo : ℕ
    lo = K.lo

    abbrev hi : ℕ
    hi = K.hi

    before : Within behind_joins w w₂
    before = within-trans (within_wider behind_joins (omega arith) (omega arith) T.frame) (within_wider behind_joins (omega arith) (omega arith) m.frame)

    long : Large w₂
    long = omega (arith, S.loaded.long, before.size)

    wide : Within behind_columns w w₂
    wide = within_wider behind_columns (omega arith) (omega arith) before

    log₂ : Log w₂ w₃ lo hi n k k' t.places K.top K.weight
    log₂ = kept-log w₂ long lo hi n k k' t.places K.top K.weight (low-lo K.order) (low-hi K.order) unite-young w₃ K.stored

    s : Within joins_part w₂ w₃
    s = kept_frame w₂ long lo hi n k k' t.places K.top K.weight (low-lo K.order) (low-hi K.order) unite-young w₃ K.stored

    frame : Within behind_columns w w₃
    frame = within-trans wide (within_wider behind_columns (omega arith) (omega arith) s)

    parent₂ : parent_of w₂ ≡ parent_of w
    parent₂ = seen-within PARENT before (inl (omega arith))

    join₂ : join_at w₂ ≡ join_at w
    join₂ = fun_ext (λ a. rw (seen-within FIRST before (inl (omega arith)), seen-within SECOND before (inl (omega arith)), lefts wide, rights wide, results wide))

    by : join_by w₂ k k' ≡ join_by w k k'
    by = rw (lefts wide, rights wide, results wide)

    log : Log w w₃ lo hi n k k' t.places K.top K.weight
    log = record {
      parent = log₂.parent ∙ ap (λ (p : ℕ → ℕ). put lo K.top (put hi lo p)) parent₂;
      age = log₂.age ∙ ap (λ (g : ℕ → ℕ). put lo K.weight (put hi n g)) (seen-within AGE before (inl (omega arith)));
      join = log₂.join ∙ ap (λ (i : Join). put n i (join_at w₂)) by ∙ ap (put n (join_by w k k')) join₂;
      when = log₂.when ∙ ap (put n t.places) (seen-within WHEN before (inl (omega arith)));
    }

    label₁ : label_of w₁ ≡ label_of w
    label₁ = seen-within LABEL T.frame (inl (omega arith))

    label : label_of w₃ ≡ (λ z. into a b (label_of w z))
    label = seen-within LABEL s (inr (omega arith)) ∙ rw label₁ at m.labels

    state : state_of w₃ ≡ state_of w₁
    state = seen-within CHAIN s (inr (omega arith)) ∙ seen-within CHAIN m.frame (inr (omega arith))

    chain : chain_of w₃ ≡ chain_of w₁
    chain = fun_ext (λ r. rw state)

    after-w : wait_of w₃ ≡ wait_of w₁
    after-w = fun_ext (λ r. rw state)

    bucket : bucket_of w₃ ≡ bucket_of w₁
    bucket = seen-within BUCKETS s (inr (omega arith)) ∙ seen-within BUCKETS m.frame (inr (omega arith))

    -- The lists of the tags.
    use_kept : (second : Bool) → use_of second w₃ ≡ use_of second w
    use_kept true = seen-within SHARES s (inr (omega arith)) ∙ seen-within SHARES m.frame (inr (omega arith)) ∙ seen-within SHARES T.frame (inr (omega arith))
    use_kept false = seen-within USES s (inr (omega arith)) ∙ seen-within USES m.frame (inr (omega arith)) ∙ seen-within USES T.frame (inr (omega arith))

    more-kept : (second : Bool) → more_of second w₃ ≡ more_of second w
    more-kept true = seen-within OTHER s (inr (omega arith)) ∙ seen-within OTHER m.frame (inr (omega arith)) ∙ seen-within OTHER T.frame (inl (omega arith))
    more-kept false = seen-within MORE s (inr (omega arith)) ∙ seen-within MORE m.frame (inl (omega arith)) ∙ seen-within MORE T.frame (inl (omega arith))

    used : (second : Bool) → Used second t.places w₃
    used second = rw (use_kept second, more-kept second, tags frame second, eqns frame) (J.indexed.uses second)

    -- Those that are filed have no argument with the label that goes.
    narrow : Within behind_columns w w₁
    narrow = within_wider behind_columns (omega arith) (omega arith) T.frame

    old : Filed bucket_count t.places (eqn_at w) (key_at w) (res_at w) (bucket_of w₁) (chain_of w₁)
    old = rw (eqns narrow, keys-same narrow label₁, ress-same narrow label₁) at T.filing.filed

    abbrev key' : ℕ → ℕ
    key' = λ j. into a b (label_of w (left_of w (suc j))) * 65536 + into a b (label_of w (right_of w (suc j)))

    abbrev res' : ℕ → ℕ
    res' = λ j. into a b (res_at w j)

    key-now : key_at w₃ ≡ key'
    key-now = fun_ext (λ j. rw (lefts frame, rights frame, label))

    res-now : res_at w₃ ≡ res'
    res-now = fun_ext (λ j. rw (results frame, label))

    keys : (j : ℕ) → j < t.places → eqn_at w j ≡ false → 0 < chain_of w₁ j → key' j ≡ key_at w j
    keys j l e h =
        let p = into-miss a b (label_of w (left_of w (suc j))) (λ z. omega (arith, wait j l e (inl z))) in
        let q = into-miss a b (label_of w (right_of w (suc j))) (λ z. omega (arith, wait j l e (inr z))) in
        rw (p, q)

    pairs : (j r : ℕ) → j < t.places → r < t.places → eqn_at w j ≡ false → eqn_at w r ≡ false → key_at w r ≡ key_at w j → key' r ≡ key' j
    pairs j r l k _ _ e = let p = key-args J.standing j r l k e in rw (p.0, p.1)

    filed : Filed bucket_count t.places (eqn_at w) key' res' (bucket_of w₁) (chain_of w₁)
    filed = renamed old key' keys res' pairs (λ j r e. ap (into a b) e)

    queue : Queued t w₃ to
    queue = let q : Queue t.places (eqn_at w) (chain_of w₁) (wait_of w₁) to = rw (eqns narrow) at T.queue in rw (eqns frame, chain, after-w) q

    -- The largest tag of both classes was stored.
    raised : (parent_of w lo ≤ K.top) × (parent_of w hi ≤ K.top) × ((K.top ≡ parent_of w lo) ⊎ (K.top ≡ parent_of w hi))
    raised =
        let p = ap (λ (p : ℕ → ℕ). p x.leader.0) parent₂ in
        let q = ap (λ (p : ℕ → ℕ). p y.leader.0) parent₂ in
        let h = K.over in
        elim K.order [
          | inl o ↦ (let c = p ∙ sym (ap (parent_of w) o.1) in let d = q ∙ sym (ap (parent_of w) o.2) in (omega (arith, c, h.0), omega (arith, d, h.1), elim h.2 [ inl e ↦ inl (e ∙ c) | inr e ↦ inr (e ∙ d) ]))
          | inr o ↦ (let c = q ∙ sym (ap (parent_of w) o.1) in let d = p ∙ sym (ap (parent_of w) o.2) in (omega (arith, c, h.1), omega (arith, d, h.0), elim h.2 [ inl e ↦ inr (e ∙ d) | inr e ↦ inl (e ∙ c) ]))
        ]

    pub unite-done : Joined t w n a b w₃ to
    unite-done = record {
      frame = frame;
      standing = unite-standing K.order K.top K.weight K.heavy log frame label raised.0 raised.1 raised.2;
      indexed = record {
        filing = record { loaded = loaded-same frame S.loaded; reach = S.reach; filed = rw (eqns frame, key-now, res-now, bucket, chain) filed };
        queue = queue;
        uses = used;
      };
      same = λ x y e. rw label (ap (into a b) e);
      ends = λ x y p q. rw (label, p, q, into-hit a b, into-miss a b a J.apart);
    }

-- The two ends may change places.
pub joining-flip : {t : Front} {w : List ℕ} {n first k k' a b : ℕ} → Joining t w n first k k' a b → Joining t w n first k k' b a
joining-flip J = record {
  standing = J.standing;
  indexed = J.indexed;
  some = J.some;
  due = J.due;
  apart = λ q. J.apart (sym q);
  ends = elim J.ends [ inl h ↦ inr h | inr h ↦ inl h ];
}

pub joined-flip : {t : Front} {w : List ℕ} {n a b : ℕ} {w' : List ℕ} {first : ℕ} → Joined t w n a b w' first → Joined t w n b a w' first
joined-flip D = record {
  frame = D.frame;
  standing = D.standing;
  indexed = D.indexed;
  same = D.same;
  ends = λ x y a b. sym (D.ends y x b a);
}

-- A join that is due names two classes by their labels.
module _ {t : Front} {w : List ℕ} {n first k k' a b : ℕ} (J : Joining t w n first k k' a b) where
  pub label-a : (label_of w a ≡ a) × (a < t.size)
  label-a = elim J.ends [
    | inl h ↦ (rw (← h.0) (J.standing.marks.flat (join_by w k k').u), rw (← h.0) (J.standing.marks.low (join_by w k k').u J.due.tags.0))
    | inr h ↦ (rw (← h.1) (J.standing.marks.flat (join_by w k k').v), rw (← h.1) (J.standing.marks.low (join_by w k k').v J.due.tags.1))
  ]

  pub label-b : (label_of w b ≡ b) × (b < t.size)
  label-b = elim J.ends [
    | inl h ↦ (rw (← h.1) (J.standing.marks.flat (join_by w k k').v), rw (← h.1) (J.standing.marks.low (join_by w k k').v J.due.tags.1))
    | inr h ↦ (rw (← h.0) (J.standing.marks.flat (join_by w k k').u), rw (← h.0) (J.standing.marks.low (join_by w k k').u J.due.tags.0))
  ]

  named-left : {s : Side} → (s.label.0 ≡ a) × (s.leader.0 ≡ lead_of w n a) → Named t w n s
  named-left e = record { label = rw e.0 label-a.0; low = rw e.0 label-a.1; leader = rw e.0 e.1 }

  named-right : {s : Side} → (s.label.0 ≡ b) × (s.leader.0 ≡ lead_of w n b) → Named t w n s
  named-right e = record { label = rw e.0 label-b.0; low = rw e.0 label-b.1; leader = rw e.0 e.1 }

-- .. with the classes that they name.
abbrev pub Either : Side → Side → Side → Side → Type 0
Either x y kept gone = ((kept ≡ y) × (gone ≡ x)) ⊎ ((kept ≡ x) × (gone ≡ y))

-- Either class may be the one that goes.
pub joining-either : {t : Front} {w : List ℕ} {n first k k' a b : ℕ} {x y kept gone : Side} → Joining t w n first k k' a b → (x.label.0 ≡ a) × (x.leader.0 ≡ lead_of w n a) → (y.label.0 ≡ b) × (y.leader.0 ≡ lead_of w n b) → Either x y kept gone
    → Joining t w n first k k' kept.label.0 gone.label.0 × Named t w n kept × Named t w n gone
joining-either J X Y (inl o) = rw (o.0, o.1) (rw (X.0, Y.0) (joining-flip J), named-right J Y, named-left J X)
joining-either J X Y (inr o) = rw (o.0, o.1) (rw (X.0, Y.0) J, named-left J X, named-right J Y)

pub joined-either : {t : Front} {w : List ℕ} {n a b : ℕ} {x y kept gone : Side} {w' : List ℕ} {first : ℕ} → Joined t w n kept.label.0 gone.label.0 w' first → x.label.0 ≡ a → y.label.0 ≡ b → Either x y kept gone → Joined t w n a b w' first
joined-either D ea eb (inl o) = joined-flip (rw (o.0, o.1, ea, eb) at D)
joined-either D ea eb (inr o) = rw (o.0, o.1, ea, eb) at D
