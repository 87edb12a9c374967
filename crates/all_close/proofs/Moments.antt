-- Between two records the labels are closed under the records so far, so this moment is settled and can be kept; the next record only adds to the numbers.
-- The labels tell what follows from the records so far, and the chains have one application for every two labels; so one lookup tells whether the next record is idle.
-- Assumes nothing.
use Prim.Native.Nat.{ℕ, zero, suc, ◌+◌, ◌-◌, ◌*◌, ◌≤◌, ◌<◌}
use native.Mathlib.Omega.{arith}
use native.Mathlib.Numerals.{add-one}
use native.Mathlib.Decide.{ℕ_discrete, dec_lt}
use mathlib.Core.Path.{◌≡◌, refl, sym, subst, ap, ◌∙◌, fun_ext}
use mathlib.Core.Logic.{◌↔◌, ◌⊎◌, inl, inr}
use mathlib.Core.Bool.{Bool, true, false}
use mathlib.Core.List.Memᴰ
use mathlib.Core.List.{List, [], ◌∷◌, ◌++◌, Memᴰ}
use lib.Dec.{leb, eqb}
use lib.ListN.{length, take, drop, get_or}
use borrow.Author.Tests.{le-leb, eq-eqb, eqb-true}
use Rattle.meaning.specs.Following.{Rec, eq, app, At, Follows, same, Those, UpTo, Only}
use Rattle.meaning.specs.Joins.{count}
use Rattle.meaning.specs.Labels.{classes}
use Rattle.meaning.specs.Forest.{root, History}
use Rattle.meaning.specs.Totals.{Count, one, skip, Classes, Idle, application}
use Rattle.meaning.proofs.Decide.{StandIn, idle-eq, idle-app}
use Rattle.meaning.proofs.Close.{more_of, Closed, closed-by}
use Rattle.meaning.proofs.Forest.{root-stop, history-start}
use Rattle.meaning.proofs.Short.{some-class}
use Rattle.meaning.proofs.Exact.{Settled, settled_same, settled-classes}
use Rattle.meaning.specs.Limits.{most_records, most_tags, named_numbers}
use Rattle.table.specs.Map.{left_of, right_of, result_of, parent_of, age_of, when_of, label_of, use_of, seen, join_at, rec_at, records_in, Loaded, Within}
use Rattle.table.proofs.Frame.{seen_at, seen-past, seen-within, within-trans, within_wider, length-gather, gather-in, in-gather}
use Rattle.table_labels.specs.Parts.{Fills, CountsUp, Fresh}
use Rattle.table_labels.proofs.Rows.{at-rec, eq-parts, app-parts, split-key}
use Rattle.table.proofs.Kept.{loaded-same, records-same}
use Rattle.table_labels.proofs.Views.{fresh-total, lent-within, lent_at, seen-zero}
use Rattle.all_index.specs.declared.Front.{Front}
use Rattle.all_index.specs.State.{eqn_at, key_at, res_at, found_in}
use Rattle.all_index.proofs.Views.{row-right}
use Rattle.all_settle.proofs.Views.{row_at}
use Rattle.all_index.proofs.Filing.{none, found-hit, all_known, uses-none}
use Rattle.all_index.proofs.Waiting.{queue-none, queue-empty}
use Rattle.all_join.specs.State.{up_to, Logged, Marked, lead_of, Standing}
use Rattle.all_join.proofs.Joining.{leaders}
use Rattle.all_settle.specs.State.{Open}
use Rattle.table.specs.Past.{age_by, leader_after}
use Rattle.table.specs.Places.{AGE, BUCKETS, CHAIN, LABEL, Large, PARENT, SHARES, USES, all_of, behind_columns, bucket_count, forest_part, index_part, plain}
use Rattle.all_close.specs.Closing.{Closing}
use Rattle.all_close.specs.State.{front, Between, Again, Admitted, Begun, Wiped, Unlinked}

-- Where none waits, the labels are closed under the records that are in.
open-closed : {t : Front} {w : List ℕ} {n : ℕ} → Open t w n 0 → Closed (Only (records_in t.len w) (up_to t.places)) (label_of w)
open-closed {t} {w} o = closed-by (label_of w) own (λ a b i. equal a b i) (λ a b c i. agree a b c i)
  where
    own : ℕ → ℕ → ℕ
    own x y = res_at w (found_in w (x * 65536 + y) - 1)

    equal : (a b : ℕ) → Only (records_in t.len w) (up_to t.places) (eq a b) → label_of w a ≡ label_of w b
    equal a b i =
        let g = in-gather suc t.places i.0 i.1 in
        let p = eq-parts (eqn_at w g.0) (left_of w (suc g.0)) (right_of w (suc g.0)) (result_of w (suc g.0)) a b (rw g.2 (at-rec t.len w i.0 (eq a b) i.2)) in
        rw (← p.1, ← p.2) (o.level g.0 g.1 p.0)

    agree : (a b c : ℕ) → Only (records_in t.len w) (up_to t.places) (app a b c) → label_of w c ≡ own (label_of w a) (label_of w b)
    agree a b c i =
        let g = in-gather suc t.places i.0 i.1 in
        let p = app-parts (eqn_at w g.0) (left_of w (suc g.0)) (right_of w (suc g.0)) (result_of w (suc g.0)) a b c (rw g.2 (at-rec t.len w i.0 (app a b c) i.2)) in
        rw (← p.0.1, ← p.1.0, ← p.1.1) (sym (all_known o.indexed.filing.filed (queue-empty o.indexed.queue) g.0 g.1 p.0.0).1)

count-all : (p : ℕ → Bool) (n : ℕ) → ((a : ℕ) → a < n → p a ≡ true) → count p n ≡ n
count-all p zero h = refl
count-all p (suc n) h = rw (h n (omega arith), count-all p n (λ a l. h a (omega arith)))

closed-less : {S S' : Rec → Type 0} {f : ℕ → ℕ} → ((r : Rec) → S' r → S r) → Closed S f → Closed S' f
closed-less h c = record { equal = λ i. c.equal (h _ i); apart = λ i j. c.apart (h _ i) (h _ j) }

-- Labels that are closed tell that the leaders are.
closed-led : {S : Rec → Type 0} {N : ℕ} {l f : ℕ → ℕ} → Marked N l f → Closed S l → Closed S f
closed-led m c = record { equal = λ i. m.apart _ _ (c.equal i); apart = λ i j p q. m.apart _ _ (c.apart i j (m.same _ _ p) (m.same _ _ q)) }

module _ {N len i : ℕ} {w : List ℕ} {n : ℕ} (b : Between N len i w n) where
  log : Logged (records_in len w) (up_to i) i (parent_of w) (age_of w) (join_at w) (when_of w) n
  log = b.standing.log

  age-now : age_by w n i ≡ n
  age-now = count-all (λ a. leb (when_of w a) i) n (λ a l. le-leb (when_of w a) i (log.made a l).1)

  number_in : (r : Rec) → Those (records_in len w) (λ m. m ≤ i) r → Only (records_in len w) (up_to i) r
  number_in r h =
      let q : suc h.2.place ≡ h.0 = sym h.2.number in
      let m = gather-in suc i h.2.place (omega (arith, h.1)) in
      (h.0, rw q at m, h.2)

  in-number : (k : ℕ) → Memᴰ k (up_to i) → k ≤ i
  in-number k m = let g = in-gather suc i k m in omega (arith, g.1, g.2)

  settled : (a : ℕ) → a ≡ n → Settled (records_in len w) (λ m. m ≤ i) (join_at w) a (root (parent_of w) (age_of w) a)
  settled a e = rw e (record {
    labels = leaders log;
    agree = log.history.then n (omega arith);
    sound = log.justified;
    within = λ k m. in-number k (log.within k m);
    closed = closed-less number_in (closed-led b.standing.marks (open-closed b));
  })

  pub moment-now : Settled (records_in len w) (λ m. m ≤ i) (join_at w) (age_by w n i) (leader_after w n i)
  moment-now = settled (age_by w n i) age-now

  pub classes-now : Classes N (UpTo (records_in len w) i) (N - n)
  classes-now =
      let e : classes (lead_of w n) N ≡ N - n = omega (arith, b.standing.total) in
      let q : classes (leader_after w n i) N ≡ N - n = ap (λ (a : ℕ). classes (root (parent_of w) (age_of w) a) N) age-now ∙ e in
      rw (← q) (settled-classes moment-now N)

  -- The moments up to this one.
  pub moments-now : (k : ℕ) → k ≤ i → Settled (records_in len w) (λ m. m ≤ k) (join_at w) (age_by w n k) (leader_after w n k)
  moments-now k l = elim (ℕ_discrete k i) [ yes q ↦ rw q moment-now | no q ↦ log.moments k (omega arith) ]

  pub low-now : n < N
  low-now = omega (arith, b.standing.total, some-class N (lead_of w n) (leaders log) b.standing.loaded.some)

-- The next record is in.
pub standing-next : {N len i : ℕ} {w : List ℕ} {n : ℕ} → Between N len i w n → i < len → Standing (front N len (suc i)) w n
standing-next {N} {len} {i} {w} {n} b low = record {
  loaded = b.standing.loaded;
  reach = omega arith;
  sound = λ x. more_of (λ k m. Memᴰ.append_left (suc i ∷ []) m) (b.standing.sound x);
  total = b.standing.total;
  own = b.standing.own;
  tops = b.standing.tops;
  marks = b.standing.marks;
  log = let g = b.standing.log in record {
    history = g.history;
    justified = g.justified;
    within = λ k m. Memᴰ.append_left (suc i ∷ []) (g.within k m);
    made = λ a l. ((g.made a l).0, omega (arith, (g.made a l).1));
    order = g.order;
    moments = λ k l. moments-now b k (omega arith);
  };
}

-- All behind the columns is lent, and comes back as noughts.
pub wiped : (w w' v : List ℕ) → Large w → length v ≡ length (take 20765 (drop PARENT.at w)) → w' ≡ take PARENT.at w ++ (v ++ drop 20765 (drop PARENT.at w)) → Fills v 0 → Wiped w w'
wiped w w' v long s e h = record { frame = lent-within PARENT.at 20765 w w' v (omega arith) s e; zero = zero-at }
  where
    zero-at : (i : ℕ) → PARENT.at ≤ i → i < named_numbers → get_or w' i 0 ≡ 0
    zero-at i l m =
        let z : PARENT.at + (i - PARENT.at) ≡ i = omega arith in
        subst (λ (k : ℕ). get_or w' k 0 ≡ 0) z (lent_at PARENT.at 20765 w w' v (omega arith) s e (λ i. 0) h (i - PARENT.at) (omega arith))

-- What is begun with then is what is begun with of the table that was lent.
pub begun-after : {w v d : List ℕ} → Within behind_columns w v → Begun v d → Begun w d
begun-after f b = record {
  frame = within-trans f b.frame;
  ages = b.ages;
  tops = b.tops;
  labels = b.labels;
  chains = b.chains;
  buckets = b.buckets;
  uses = b.uses;
}

-- The ages are lent, and come back filled.
pub unlinked : (w w' v : List ℕ) → Large w → length v ≡ length (take most_tags (drop AGE.at w)) → w' ≡ take AGE.at w ++ (v ++ drop most_tags (drop AGE.at w)) → Fills v most_tags → Unlinked w w'
unlinked w w' v long s e h = record { frame = lent-within AGE.at most_tags w w' v (omega arith) s e; ages = λ x. go x (dec_lt x most_tags) }
  where
    go : (x : ℕ) → Dec (x < most_tags) → age_of w' x ≡ most_tags
    go x (yes l) = seen_at AGE w' x l ∙ lent_at AGE.at most_tags w w' v (omega arith) s e (λ i. most_tags) h x l
    go x (no l) = seen-past AGE w' x (omega arith)

-- Before the first record: the part from the chains on is lent, and comes back as noughts.
pub begun : {w a' a b d : List ℕ} (v u' : List ℕ) → Large w → Unlinked w a' → length u' ≡ length (take most_tags (drop PARENT.at a')) → a ≡ take PARENT.at a' ++ (u' ++ drop most_tags (drop PARENT.at a')) → CountsUp u' → Fresh a b → length v ≡ length (take (named_numbers - CHAIN.at) (drop CHAIN.at b)) → d ≡ take CHAIN.at b ++ (v ++ drop (named_numbers - CHAIN.at) (drop CHAIN.at b)) → Fills v 0 → Begun w d
begun {w} {a'} {a} {b} {d} v u' l u su eu hu f s e h = record {
  frame = within-trans (within_wider behind_columns (omega arith) (omega arith) (within-trans (within_wider forest_part (omega arith) (omega arith) u.frame) (within_wider forest_part (omega arith) (omega arith) first))) (within-trans (within_wider behind_columns (omega arith) (omega arith) f.frame) (within_wider behind_columns (omega arith) (omega arith) part));
  ages = λ x. rw (seen-within AGE part (inl (omega arith)), seen-within AGE f.frame (inl (omega arith)), seen-within AGE first (inr (omega arith))) (u.ages x);
  tops = λ x. rw (seen-within PARENT part (inl (omega arith)), seen-within PARENT f.frame (inl (omega arith))) (tops x (dec_lt x most_tags));
  labels = λ x. rw (seen-within LABEL part (inl (omega arith))) (f.labels x);
  chains = λ r. rw (nought CHAIN.at most_records (omega arith) (omega arith) r);
  buckets = nought BUCKETS.at bucket_count (omega arith) (omega arith);
  uses = uses;
}
  where
    first : Within (all_of PARENT) a' a
    first = lent-within PARENT.at most_tags a' a u' (omega (arith, l, u.frame.size)) su eu

    tops : (x : ℕ) → Dec (x < most_tags) → parent_of a x ≡ x
    tops x (yes k) = seen_at PARENT a x k ∙ lent_at PARENT.at most_tags a' a u' (omega (arith, l, u.frame.size)) su eu (λ i. i) hu x k
    tops x (no k) = seen-past PARENT a x (omega arith)

    long : Large b
    long = omega (arith, u.frame.size, first.size, f.frame.size)

    part : Within index_part b d
    part = lent-within CHAIN.at (named_numbers - CHAIN.at) b d v (omega (arith, long)) s e

    at_zero : (x : ℕ) → x < named_numbers - CHAIN.at → get_or d (CHAIN.at + x) 0 ≡ 0
    at_zero = lent_at CHAIN.at (named_numbers - CHAIN.at) b d v (omega (arith, long)) s e (λ i. 0) h

    nought : (at n : ℕ) → CHAIN.at ≤ at → at + n ≤ named_numbers → (x : ℕ) → seen (plain at n) d x ≡ 0
    nought at n k m x = seen-zero at n d x (λ y l. let z : at + y ≡ CHAIN.at + (at - CHAIN.at + y) = omega arith in rw z (at_zero (at - CHAIN.at + y) (omega arith)))

    uses : (second : Bool) (x : ℕ) → use_of second d x ≡ 0
    uses true = nought SHARES.at most_tags (omega arith) (omega arith)
    uses false = nought USES.at most_tags (omega arith) (omega arith)

pub between_start : {N len : ℕ} {w w' : List ℕ} → Loaded N len w → Begun w w' → Between N len 0 w' 0
between_start {N} {len} {w} {w'} h b = record {
  standing = record {
    loaded = loaded-same b.frame h;
    reach = omega arith;
    sound = λ x. rw (lead x) same;
    total = fresh-total N (fun_ext lead);
    own = λ x l. lead x;
    tops = record { above = λ x l. rw (lead x, b.tops x) (omega arith); below = λ x l e. rw (b.tops x) l };
    marks = record { same = λ x y e. b.labels x ∙ sym (lead x) ∙ e ∙ lead y ∙ sym (b.labels y); apart = λ x y e. lead x ∙ sym (b.labels x) ∙ e ∙ b.labels y ∙ sym (lead y); flat = λ x. b.labels (label_of w' x); low = λ x l. omega (arith, b.labels x) };
    log = record {
      history = history;
      justified = λ a l. absurd (omega arith);
      within = λ k i. absurd (Memᴰ.not-nil i);
      made = λ a l. absurd (omega arith);
      order = λ a c l k. absurd (omega arith);
      moments = λ k l. absurd (omega arith);
    };
  };
  indexed = record {
    filing = record { loaded = loaded-same b.frame h; reach = omega arith; filed = none b.buckets b.chains };
    queue = queue-none (λ j l. absurd (omega arith));
    uses = λ second. uses-none (b.uses second);
  };
  level = λ j l. absurd (omega arith);
}
  where
    history : History (join_at w') 0 (parent_of w') (age_of w') most_tags
    history = history-start (join_at w') (parent_of w') (age_of w') most_tags (λ x. omega (arith, b.ages x))

    lead : (x : ℕ) → lead_of w' 0 x ≡ x
    lead x = root-stop (parent_of w') (age_of w') most_tags 0 history.links 0 (omega arith) (omega arith) x (omega arith)

-- By the labels it is told what follows from the records so far.
module _ {N len i : ℕ} {w : List ℕ} {n : ℕ} (b : Between N len i w n) where
  pub label_same : (x y : ℕ) → Follows (UpTo (records_in len w) i) x y ↔ (label_of w x ≡ label_of w y)
  label_same x y =
      let h = settled_same (settled b n refl) x y in
      let m = b.standing.marks in
      (λ f. m.same x y (h.0 f), λ e. h.1 (m.apart x y e))

  -- Two keys are one where the labels are.
  keys_of : (j r : ℕ) → label_of w (left_of w (suc j)) ≡ label_of w (left_of w (suc r)) → label_of w (right_of w (suc j)) ≡ label_of w (right_of w (suc r)) → key_at w j ≡ key_at w r
  keys_of j r p q = rw (p, q)

  module _ (low : i < len) where
    -- What comes in.
    here-eq : eqn_at w i ≡ true → At (records_in len w) (suc i) (eq (left_of w (suc i)) (right_of w (suc i)))
    here-eq e = rw e at (row_at b.standing.loaded i low)

    here-app : (j : ℕ) → j < len → eqn_at w j ≡ false → At (records_in len w) (suc j) (app (left_of w (suc j)) (right_of w (suc j)) (result_of w (suc j)))
    here-app j l e = rw e at (row_at b.standing.loaded j l)

    pub idle-level : eqn_at w i ≡ true → Idle (records_in len w) i ↔ (label_of w (left_of w (suc i)) ≡ label_of w (right_of w (suc i)))
    idle-level e =
        let h = idle-eq (here-eq e) in
        let g = label_same (left_of w (suc i)) (right_of w (suc i)) in
        (λ d. g.0 (h.0 d), λ q. h.1 (g.1 q))

    -- The arguments' labels tell a key apart, also that of the record which comes in.
    right-low : (j : ℕ) → j < len → label_of w (right_of w (suc j)) < 65536
    right-low j l = omega (arith, b.standing.marks.low (right_of w (suc j)) (row-right b.standing.loaded j l), b.standing.loaded.few)

    again-idle : eqn_at w i ≡ false → Again w i → Idle (records_in len w) i
    again-idle e a =
        let p = found_in w (key_at w i) in
        let h = found-hit b.indexed.filing.filed (key_at w i) a.hit in
        let l : p - 1 < i = omega (arith, h.1, a.hit) in
        let k = split-key (label_of w (left_of w (suc (p - 1)))) (label_of w (right_of w (suc (p - 1)))) (label_of w (left_of w (suc i))) (label_of w (right_of w (suc i))) (right-low (p - 1) (omega arith)) (right-low i low) h.0 in
        application (here-app i low e) (suc (p - 1), l, here-app (p - 1) (omega arith) h.2)
        ((label_same _ _).1 (sym k.0)) ((label_same _ _).1 (sym k.1)) ((label_same _ _).1 (sym a.result))

    idle-again : eqn_at w i ≡ false → Idle (records_in len w) i → Again w i
    idle-again e d = go ((idle-app (here-app i low e)).0 d)
      where
        go : StandIn (UpTo (records_in len w) i) (left_of w (suc i)) (right_of w (suc i)) (result_of w (suc i)) → Again w i
        go h =
            let t = h.there in
            let j = t.2.place in
            let l : j < i = omega (arith, t.1, t.2.number) in
            let q = app-parts (eqn_at w j) (left_of w (suc j)) (right_of w (suc j)) (result_of w (suc j)) h.first h.second h.result (rw (← t.2.number) (at-rec len w t.0 (app h.first h.second h.result) t.2)) in
            let x : key_at w i ≡ key_at w j = keys_of i j ((label_same _ _).0 h.firsts ∙ ap (label_of w) (sym q.0.1)) ((label_same _ _).0 h.seconds ∙ ap (label_of w) (sym q.1.0)) in
            let y : res_at w i ≡ res_at w j = (label_same _ _).0 h.results ∙ ap (label_of w) (sym q.1.1) in
            let k = all_known b.indexed.filing.filed (queue-empty b.indexed.queue) j l q.0.0 in
            record { hit = rw x k.0; result = rw x k.1 ∙ sym y }

    pub idle-found : eqn_at w i ≡ false → Again w i ↔ Idle (records_in len w) i
    idle-found e = (again-idle e, idle-again e)

-- What a search of the chains told of it: p is what they have for the key, and c and d are the results' labels.
module _ {N len i : ℕ} {w : List ℕ} {n : ℕ} (b : Between N len i w n) (p : ℕ) (e : p ≡ found_in w (key_at w i)) where
  pub again-hit : 0 < p → (p - 1 < i) × (eqn_at w (p - 1) ≡ false)
  again-hit l = rw e (let h = found-hit b.indexed.filing.filed (key_at w i) (rw e at l) in (omega (arith, h.1, rw e at l), h.2))

  pub again-same : (c d : ℕ) → 0 < p → c ≡ res_at w (p - 1) → d ≡ res_at w i → (eqb c d ≡ true) ↔ Again w i
  again-same c d l ec ed = (
    λ q. record { hit = rw e at l; result = rw (← e) (sym ec ∙ eqb-true c d q ∙ ed) },
    λ a. eq-eqb c d (ec ∙ rw e a.result ∙ sym ed),
  )

-- The idle records so far.
module _ {N len i : ℕ} {w w' : List ℕ} {n n' idle : ℕ} {r : Bool} (a : Admitted N len i w n w' n' r) (c : Count (Idle (records_in len w)) i idle) where
  pub idle-turn : (idle' : ℕ) → ((r ≡ true) × (idle' ≡ idle + 1)) ⊎ ((r ≡ false) × (idle' ≡ idle)) → Count (Idle (records_in len w')) (i + 1) idle'
  idle-turn idle' (inl h) = rw (h.1, add-one, add-one, records-same a.frame len) (one (a.idles.0 h.0) c)
  idle-turn idle' (inr h) = rw (h.1, add-one, records-same a.frame len) (skip (λ d. let z : true ≡ false = sym (a.idles.1 d) ∙ h.0 in let y : ◌≡◌ {A = ℕ} 0 1 = cc z in absurd (omega (arith, y))) c)

-- All are in.
pub close-done : {N len : ℕ} {w w' : List ℕ} {n idle : ℕ} → Within behind_columns w w' → Between N len len w' n → Count (Idle (records_in len w')) len idle → Closing N len w w' n idle
close-done {N} {len} {w} {w'} f b c = let g = b.standing.log in record {
  kept = f;
  past = record {
    loaded = b.standing.loaded;
    low = low-now b;
    history = g.history;
    justified = g.justified;
    made = g.made;
    order = g.order;
    moments = moments-now b;
  };
  classes = classes-now b;
  idles = rw (length-gather (λ k. rec_at w' (suc k)) len) c;
}
