-- Labels and seats are written behind the links, so the links and the leaders by them stay; and the seat of a tag's label is its leader. Assumes nothing.
use Prim.Native.Nat.{ℕ, suc, ◌+◌, ◌≤◌, ◌<◌}
use native.Mathlib.Omega.{arith}
use native.Mathlib.Decide.{ℕ_discrete}
use mathlib.Core.Path.{◌≡◌, refl, sym, ◌∙◌, ap}
use mathlib.Core.Logic.{inl, inr}
use mathlib.Core.List.{List}
use lib.Dec.{leb}
use lib.ListN.{length, get_or, set}
use Rattle.meaning.specs.Following.{eq, Class, UpTo, Leader}
use Rattle.meaning.specs.Joins.{put}
use Rattle.meaning.specs.Limits.{most_tags}
use Rattle.meaning.specs.Seats.{Found, nowhere}
use Rattle.meaning.proofs.Count.{count_low}
use Rattle.meaning.proofs.Exact.{settled_same}
use Rattle.meaning.proofs.Forest.{root-labels}
use Rattle.meaning.proofs.Laws.{follows-small, small-those}
use Rattle.meaning.proofs.Log.{put-hit, put-miss}
use Rattle.meaning.proofs.Reference.{Small}
use Rattle.meaning.proofs.Units.{found-leader, found_here, found-on, found-same, leader-none}
use Rattle.table.specs.Map.{parent_of, age_of, when_of, label_of, saved_of, records_in, rec_at, Loaded, Within}
use Rattle.table.specs.Past.{Past, age_by, leader_after}
use Rattle.table.specs.Places.{LABEL, Large, SAVED, all_of, scratch}
use Rattle.table.proofs.Frame.{length-gather, get_or-gather, seen-in, seen-out, seen-within, within-refl, within-trans, within-set, within_wider}
use Rattle.moment.specs.Meeting.{leader_at, Forested}
use Rattle.moment.proofs.Kept.{kept-parents, kept_ages}
use Rattle.moment.proofs.Moments.{least-after}
use Rattle.leading.specs.Leading.{seating_part, leader_in, Labelled, Scanned, Seatable, Seated, Leadable, Led}

module _ {w w' : List ℕ} (f : Within seating_part w w') where
  wider : Within scratch w w'
  wider = within_wider scratch (omega arith) (omega arith) f

  pub forest-kept : Forested w → Forested w'
  forest-kept h = record { long = omega (arith, f.size, h.long); links = rw (kept-parents wider, kept_ages wider) h.links }

  pub leader-kept : (a x : ℕ) → leader_at w' a x ≡ leader_at w a x
  leader-kept a x = rw (kept-parents wider, kept_ages wider)

  pub labelled-here : (n a : ℕ) → Labelled w w' n a → Labelled w' w' n a
  labelled-here n a h x l = rw (leader-kept a x) (h x l)

pub scan-start : (w : List ℕ) (a : ℕ) → Scanned w w 0 a
scan-start w a = record { frame = within-refl w; labelled = λ x l. absurd (omega arith); own = λ x l. absurd (omega arith) }

-- What a store leaves of both regions, or changes in them.
module _ (w : List ℕ) (i v : ℕ) (long : Large w) (low : i < most_tags) where
  labels-label : label_of (set w (LABEL.at + i) v) ≡ put i v (label_of w)
  labels-label = seen-in LABEL w i v low (omega arith)

  seats-label : saved_of (set w (LABEL.at + i) v) ≡ saved_of w
  seats-label = seen-out SAVED w (LABEL.at + i) v (inl (omega arith))

  pub labels-seat : label_of (set w (SAVED.at + i) v) ≡ label_of w
  labels-seat = seen-out LABEL w (SAVED.at + i) v (inr (omega arith))

  pub seats-seat : saved_of (set w (SAVED.at + i) v) ≡ put i v (saved_of w)
  seats-seat = seen-in SAVED w i v low (omega arith)

pub scan-on : {w w' w₁ w₂ : List ℕ} {n a l : ℕ} → Large w → n < most_tags → Scanned w w' n a → l ≡ leader_at w' a n → w₁ ≡ set w' (LABEL.at + n) l → w₂ ≡ set w₁ (SAVED.at + n) n → Scanned w w₂ (n + 1) a
scan-on {w} {w'} {w₁} {w₂} {n} {a} {l} long low s e p q = record {
  frame = within-trans {w' = w'} s.frame (within-trans {w' = w₁} (rw p (within-set seating_part w' (LABEL.at + n) l (omega arith) (omega arith))) (rw q (within-set seating_part w₁ (SAVED.at + n) n (omega arith) (omega arith))));
  labelled = λ x k. rw (labels, labelled x k (ℕ_discrete x n)) refl;
  own = λ x k. rw (seats, own x k (ℕ_discrete x n)) refl;
}
  where
    long' : Large w'
    long' = omega (arith, s.frame.size)

    long₁ : Large w₁
    long₁ = rw p (omega (arith, (within-set seating_part w' (LABEL.at + n) l (omega arith) (omega arith)).size))

    labels : label_of w₂ ≡ put n l (label_of w')
    labels = rw (q, labels-seat w₁ n n long₁ low, p) (labels-label w' n l long' low)

    seats : saved_of w₂ ≡ put n n (saved_of w')
    seats = rw (q, seats-seat w₁ n n long₁ low, p, seats-label w' n l long' low) refl

    labelled : (x : ℕ) → x < n + 1 → Dec (x ≡ n) → put n l (label_of w') x ≡ leader_at w a x
    labelled x k (yes z) = rw (z, put-hit n l (label_of w')) (e ∙ leader-kept s.frame a n)
    labelled x k (no z) = rw (put-miss n l (label_of w') x z) (s.labelled x (omega arith))

    own : (x : ℕ) → x < n + 1 → Dec (x ≡ n) → put n n (saved_of w') x ≡ x
    own x k (yes z) = rw (z, put-hit n n (saved_of w')) refl
    own x k (no z) = rw (put-miss n n (saved_of w') x z) (s.own x (omega arith))

-- The units from i on have been seated.
pub record Seating (w w' : List ℕ) (n i : ℕ) : Type 0 where
  pub frame : Within (all_of SAVED) w w'
  pub seats : (l : ℕ) → l < n → Found (label_of w) l i n (saved_of w' l)

pub seat-start : {w : List ℕ} {n u : ℕ} → Seatable w n u → Seating w w n n
seat-start h = record { frame = within-refl _; seats = λ l k. rw (h.own l k) (nowhere (λ z a b. absurd (omega arith))) }

pub seat-labels : {w w' : List ℕ} → Within (all_of SAVED) w w' → label_of w' ≡ label_of w
seat-labels f = seen-within LABEL f (inl (omega arith))

pub seat-on : {w w' w'' : List ℕ} {n u i x : ℕ} → Seatable w n u → Seating w w' n i → x < i → i ≤ n → suc x ≡ i → {l : ℕ} → l ≡ label_of w' x → w'' ≡ set w' (SAVED.at + l) x → Seating w w'' n x
seat-on {w} {w'} {w''} {n} {u} {i} {x} h s k m e {l} q p = rw p (record { frame = within-trans s.frame (within-set (all_of SAVED) w' (SAVED.at + l) x (omega arith) (omega (arith, low))); seats = seats })
  where
    is : l ≡ label_of w x
    is = q ∙ ap (λ (f : ℕ → ℕ). f x) (seat-labels s.frame)

    low : l < most_tags
    low = omega (arith, h.low x (omega arith), is, h.few)

    seats : (y : ℕ) → y < n → Found (label_of w) y x n (saved_of (set w' (SAVED.at + l) x) y)
    seats y b = rw (seats-seat w' l x (omega (arith, h.long, s.frame.size)) low) (go (ℕ_discrete y l))
      where
        go : Dec (y ≡ l) → Found (label_of w) y x n (put l x (saved_of w') y)
        go (yes z) = rw (z, put-hit l x (saved_of w')) (found_here (omega arith) (sym is))
        go (no z) = rw (put-miss l x (saved_of w') y z) (found-on (λ r. z (sym r ∙ sym is)) (rw (← e) at (s.seats y b)))

pub small-records : {N len : ℕ} {w : List ℕ} → Loaded N len w → (i : ℕ) → i < length (records_in len w) → Small N (get_or (records_in len w) i (eq 0 0))
small-records {N} {len} {w} h i l = let k : i < len = rw (length-gather (λ j. rec_at w (suc j)) len) at l in rw (get_or-gather (λ j. rec_at w (suc j)) len i (eq 0 0) k) (h.small i k)

-- At a question: with every tag labelled by the smallest of its class at the age of the question and the units seated, the seat of the label of s is the leader of s.
module _ {N len n R : ℕ} {w : List ℕ} (P : Past N len w n) (k : R ≤ len) where
  tags : {s : ℕ} → s < N → (x : ℕ) → Class (UpTo (records_in len w) R) s x → x < N
  tags l x h = (follows-small N (small-those N (small-records P.loaded)) h).0 l

  seat-leads : {U s a : ℕ} {w' w'' : List ℕ} → s < N → a ≡ age_by w n R → Scanned w w' N a → Seated w' w'' N U → Leader U (UpTo (records_in len w) R) s (leader_in w'' s)
  seat-leads {U} {s} {a} {w'} {w''} l e S T =
      found-leader (P.moments R k).labels (settled_same (P.moments R k)) (tags l) (rw own (found-same is (T.seats (leader_after w n R s) low)))
    where
      is : (z : ℕ) → z < N → label_of w' z ≡ leader_after w n R z
      is z l = S.labelled z l ∙ rw e refl

      own : label_of w'' s ≡ leader_after w n R s
      own = ap (λ (f : ℕ → ℕ). f s) (seat-labels T.frame) ∙ is s l

      low : leader_after w n R s < N
      low = omega (arith, (P.moments R k).labels.low s)

  -- Where no tag is a unit, the links tell the leader.
  pub link-leads : {U s a l : ℕ} → s < N → U ≡ N → a ≡ age_by w n R → l ≡ leader_at w a s → Leader U (UpTo (records_in len w) R) s l
  link-leads {U} {s} {a} {l} b u e f = rw (u, f, e) ((leader-none (tags b)).1 (least-after P R k s))

-- A link leads down: a label is no greater than its tag.
label-low : {w : List ℕ} (a : ℕ) → Forested w → a ≤ most_tags → (x : ℕ) → leader_at w a x ≤ x
label-low {w} a f l = (root-labels (parent_of w) (age_of w) most_tags most_tags f.links a l (omega arith)).low

-- No more joins were made by a moment than there are.
pub age-few : {w : List ℕ} {N U joins a : ℕ} (before : ℕ) → Leadable w N U joins → a ≡ age_by w joins before → a ≤ most_tags
age-few {w} {joins = joins} before h e = omega (arith, e, h.low, count_low (λ i. leb (when_of w i) before) joins)

pub scanned-seatable : {w w' : List ℕ} {N U joins a : ℕ} → Leadable w N U joins → a ≤ most_tags → Scanned w w' N a → Seatable w' N U
scanned-seatable {w} {w'} {N} {U} {joins} {a} h l S = record {
  long = omega (arith, S.frame.size, h.forest.long);
  few = h.few;
  units = h.units;
  low = λ x k. omega (arith, S.labelled x k, label-low a h.forest l x);
  own = S.own;
}

pub seated-led : {w w' w'' : List ℕ} {N U joins a : ℕ} (before : ℕ) → Leadable w N U joins → a ≤ most_tags → a ≡ age_by w joins before → Scanned w w' N a → Seated w' w'' N U → Led w w'' N U joins before
seated-led {w} {w'} {w''} {N} {U} {joins} {a} before h l e S T = record {
  frame = within-trans {w' = w'} S.frame (within_wider seating_part (omega arith) (omega arith) T.frame);
  low = λ x k. omega (arith, ap (λ (f : ℕ → ℕ). f x) (seat-labels T.frame), (scanned-seatable h l S).low x k);
  leads = λ len P k x b. seat-leads P k b e S T;
}
