-- A join while places are added, and a place that need not wait any longer. Assumes nothing.
use Prim.Native.Nat.{ℕ, suc, ◌+◌, ◌-◌, ◌≤◌, ◌<◌}
use lib.Dec.{leb}
use borrow.Author.Tests.{le-leb}
use Rattle.meaning.proofs.Count.{count_low}
use Rattle.meaning.proofs.Relabel.{count-less-one, into-hit, into-miss}
use native.Mathlib.Omega.{arith}
use native.Mathlib.Decide.{ℕ_discrete}
use mathlib.Core.Path.{◌≡◌, refl, sym, ap, ◌∙◌}
use mathlib.Core.Logic.{◌≢◌, ◌⊎◌, inl, inr}
use mathlib.Core.Bool.{Bool, true, false}
use mathlib.Core.List.Memᴰ
use mathlib.Core.List.{List, [], ◌∷◌, Memᴰ}
use lib.ListN.{set}
use Rattle.meaning.specs.Following.{Rec, Follows}
use Rattle.meaning.specs.Joins.{put}
use Rattle.meaning.specs.Labels.{into}
use Rattle.meaning.proofs.Close.{more}
use Rattle.meaning.proofs.Log.{put-hit, put-miss}
use Rattle.meaning.specs.Limits.{most_tags}
use Rattle.table.specs.Places.{EQUATION, FRONT, LABEL, MEMBER, QUEUE, TRAIL, add_part, all_of, before_at, before_halved, end_at, front_size, plain}
use Rattle.table.specs.Map.{left_of, right_of, result_of, label_of, Within, before_of, end_of, member_of, place_of, queue_of, trail_of}
use Rattle.table.proofs.Frame.{ends-between, seen-in, seen-within, within-refl, within-trans, within_wider, within-set}
use Rattle.table.proofs.Kept.{lefts, rights, results, loaded-same, records-same}
use Rattle.list_ways.specs.Rings.{Ring, Apart, none}
use Rattle.list_ways.specs.Adding.{Resting, Uses}
use Rattle.list_ways.proofs.Adding.{rest-join, rest-found, rest-new, sound-join}
use Rattle.list_ways.proofs.Rings.{path-one, grown-trail, grown-then, grown-up}
use Rattle.list_rings.specs.Links.{Standing, Ringed, Linked}
use Rattle.list_rings.proofs.Linking.{standing-classes, ringed-of}
use Rattle.list_add.specs.State.{On, here, later, Filed, In}
use Rattle.list_add.specs.Adding.{Steady}
use Rattle.list_add.specs.Waking.{Line, end, next, Waits, Listed, Falling, Awake, Roused}
use Rattle.list_add.specs.Busy.{InSet, App, Busy, Went, Fits, twin, alone, rank, Turned}
use Rattle.list_add.proofs.Wakes.{uses-same, others_same, line_same, line-waits, line-once, line-same-in}

-- A place on a list of uses is an application, where it was not left out.
pub on-app : {n i : ℕ} {w : List ℕ} (b : Bool) (x : ℕ) → Filed n w → On (before_of b w) i (end_of b w x) → place_of w i ≢ 0 → result_of w (place_of w i) ≢ EQUATION
on-app {n} {i} {w} b x f o d = go (end_of b w x) (f.head-app b x) o
  where
    go : (p : ℕ) → (0 < p → place_of w (p - 1) ≢ 0 → result_of w (place_of w (p - 1)) ≢ EQUATION) → On (before_of b w) i p → result_of w (place_of w i) ≢ EQUATION
    go p h (here e) = let z : p - 1 ≡ i = omega arith in rw z at (h (omega arith)) d
    go p h (later {r = r} e o) = go (before_of b w r) (f.next-app b r) o

-- Those of the class of x are awake.
roused-by : {w w' : List ℕ} {x last last' : ℕ} {f : ℕ → ℕ} → Roused w w' x last last' → Ring f (member_of w) x → (z : ℕ) → f z ≡ x → (b : Bool) → Awake b w w' (end_of b w z)
roused-by {w} {w'} {x} {last} {last'} {f} r g z e b = go (ℕ_discrete z x)
  where
    same : r.list ≡ g.others
    same = path-one r.path g.path (λ i. r.other x i refl) (λ i. (g.inside x i).1 refl)

    go : Dec (z ≡ x) → Awake b w w' (end_of b w z)
    go (yes q) = r.hit z (Memᴰ.head q) b
    go (no q) = r.hit z (Memᴰ.tail (rw same (g.all z e q))) b

rest_in : {P P' W W' : ℕ → Type 0} {a b c f : ℕ → ℕ} → ((i : ℕ) → P' i → P i) → ((i : ℕ) → W i → W' i) → Resting P W a b c f → Resting P' W' a b c f
rest_in h m r = record { agree = λ i j p q u v s t. r.agree i j (h i p) (h j q) (λ w. u (m i w)) (λ w. v (m j w)) s t }

module _ {N len n first last last₁ k x y : ℕ} {w w₁ w₂ : List ℕ} (B : Busy N len n w first last k) (a : Apart most_tags (label_of w) x y) (fol : Follows (InSet len n w) x y) (R : Roused w w₁ x last last₁) (L : Linked w₁ w₂ x y k) where
  whole : Within add_part w w₂
  whole = within-trans (within_wider add_part (omega arith) (omega arith) R.woken.kept) (within_wider add_part (omega arith) (omega arith) L.kept)

  wide : Within before_halved w w₂
  wide = within_wider before_halved (omega arith) (omega arith) whole

  labels₁ : label_of w₁ ≡ label_of w
  labels₁ = seen-within LABEL R.woken.kept (inl (omega arith))

  members₁ : member_of w₁ ≡ member_of w
  members₁ = seen-within MEMBER R.woken.kept (inl (omega arith))

  trail₁ : trail_of w₁ ≡ trail_of w
  trail₁ = seen-within TRAIL R.woken.kept (inl (omega arith))

  labels₂ : label_of w₂ ≡ (λ z. into y x (label_of w z))
  labels₂ = rw labels₁ at L.labels

  queue₂ : queue_of w₂ ≡ queue_of w₁
  queue₂ = seen-within QUEUE L.kept (inr (omega arith))

  places : place_of w₂ ≡ place_of w
  places = seen-within FRONT whole (inl (omega arith))

  uses₂ : (b : Bool) → end_of b w₂ ≡ end_of b w
  uses₂ b = let k = ends-between b in seen-within (plain (end_at b) most_tags) L.kept (inr (omega (arith, k.0))) ∙ uses-same R.woken.kept b

  others₂ : (b : Bool) → before_of b w₂ ≡ before_of b w
  others₂ b = let k = ends-between b in seen-within (plain (before_at b) front_size) L.kept (inr (omega (arith, k.2))) ∙ others_same R.woken.kept b

  steady : Steady k w w₂
  steady = record { uses = uses₂; others = others₂; trail = λ j l. rw (L.trail, trail₁) (put-miss k x (trail_of w) j (λ e. omega arith)) }

  in_on : (j : ℕ) → In w j → In w₂ j
  in_on j i = rw queue₂ (go (ℕ_discrete (queue_of w j) 1))
    where
      go : Dec (queue_of w j ≡ 1) → queue_of w₁ j ≢ 0
      go (yes e) = R.woken.stays j e
      go (no e) = rw (R.woken.same j e) i

  in-back : (j : ℕ) → In w₂ j → In w j
  in-back j i e = (rw queue₂ at i) (R.woken.same j (λ q. omega arith) ∙ e)

  waits-on : (j : ℕ) → Waits w j → Waits w₂ j
  waits-on j h = rw (queue₂, R.woken.same j (λ e. omega arith)) h

  touched : (i : ℕ) → App w i → Uses x (λ j. left_of w (place_of w j)) (λ j. right_of w (place_of w j)) (label_of w) i → Waits w₂ i
  touched i p u = go u
    where
      ring : Ring (label_of w) (member_of w) x
      ring = (standing-classes B.standing).ring x a.x-own

      low : queue_of w₁ i ≢ 1 → Waits w₂ i
      low d = let z : queue_of w₁ i ≢ 0 = rw queue₂ at (in_on i p.0) in rw queue₂ (omega (arith, d, z))

      go : Uses x (λ j. left_of w (place_of w j)) (λ j. right_of w (place_of w j)) (label_of w) i → Waits w₂ i
      go (inl e) = low (roused-by R ring (left_of w (place_of w i)) e false i (B.filed.filed false i (B.in-named i p.0).0 (B.in-named i p.0).1 p.1))
      go (inr e) = low (roused-by R ring (right_of w (place_of w i)) e true i (B.filed.filed true i (B.in-named i p.0).0 (B.in-named i p.0).1 p.1))

  app-back : (j : ℕ) → App w₂ j → App w j
  app-back j p = (in-back j p.0, rw (results wide, places) at p.1)

  resting : Resting (App w₂) (Waits w₂) (λ j. left_of w (place_of w j)) (λ j. right_of w (place_of w j)) (λ j. result_of w (place_of w j)) (λ z. into y x (label_of w z))
  resting = rest_in app-back (λ i h. h) (rest-join x y waits-on touched B.resting)

  filed : Filed n w₂
  filed = record {
    heads = λ b z. rw (uses₂ b) (B.filed.heads b z);
    falls = λ b r. rw (others₂ b) (B.filed.falls b r);
    head-app = λ b z. rw (uses₂ b, results wide, places) (B.filed.head-app b z);
    next-app = λ b r. rw (others₂ b, results wide, places) (B.filed.next-app b r);
    filed = λ b i. rw (uses₂ b, others₂ b, results wide, lefts wide, rights wide, places) (B.filed.filed b i);
  }

  in-set : (q : Rec) → InSet len n w q → InSet len n w₂ q
  in-set q i = (i.0, (i.1.0, i.1.1, in_on i.1.0 i.1.2, rw places i.1.3), rw (records-same wide len) i.2)

  line : (K : List ℕ) × Line (queue_of w₁) last₁ K × ((j : ℕ) → Memᴰ j B.after → Memᴰ j K) × ((j : ℕ) → Waits w₁ j → Waits w j ⊎ Memᴰ j K) × ((j : ℕ) → Memᴰ j K → Memᴰ j B.after ⊎ (queue_of w j ≡ 1))
  line = R.woken.line B.after B.after_line

  pub busy-join : Busy N len n w₂ first last₁ (suc k)
  busy-join = record {
    loaded = loaded-same wide B.loaded;
    short = B.short;
    named = rw places B.named;
    standing = L.standing;
    filed = filed;
    in-named = λ j i. rw places (B.in-named j (in-back j i));
    sound = λ z. rw labels₂ (sound-join (more in-set fol) (λ v. more in-set (B.sound v)) z);
    resting = rw (labels₂, lefts wide, rights wide, results wide, places) resting;
    waits-app = λ j h. apps j h (R.woken.from j (rw queue₂ at h));
    last-low = R.woken.low;
    this = B.this;
    this-line = rw queue₂ (line_same (λ j l. R.woken.same j (λ e. omega arith)) B.this-line);
    after = line.0;
    after_line = rw queue₂ line.1;
    apart = λ j i m. apart j i (line.4 j m);
    all = λ j h. all j (line.3 j (rw queue₂ at h));
  }
    where
      apps : (j : ℕ) → Waits w₂ j → Waits w j ⊎ Listed w j → result_of w₂ (place_of w₂ j) ≢ EQUATION
      apps j h (inl z) = rw (results wide, places) (B.waits-app j z)
      apps j h (inr z) = rw (results wide, places) (on-app z.0 z.1 B.filed z.2 (B.in-named j (in-back j (λ e. omega arith))).1)

      apart : (j : ℕ) → Memᴰ j B.this → Memᴰ j B.after ⊎ (queue_of w j ≡ 1) → ⊥
      apart j i (inl m) = B.apart j i m
      apart j i (inr e) = omega (arith, line-waits B.this-line i)

      all : (j : ℕ) → Waits w j ⊎ Memᴰ j line.0 → Memᴰ j B.this ⊎ Memᴰ j line.0
      all j (inr i) = inr i
      all j (inl h) = elim (B.all j h) [ inl i ↦ inl i | inr i ↦ inr (line.2 j i) ]

  pub one_label : label_of w₂ x ≡ label_of w₂ y
  one_label = rw (labels₂, a.x-own, a.y-own) (into-hit y x ∙ sym (into-miss y x y (λ e. a.differ (sym e))))

  pub went-join : Went w w₂ k (suc k)
  went-join = record { kept = whole; steady = steady; since = rw (labels₁, members₁) at L.grown; ins = λ j. (in-back j, in_on j) }

-- The first of this round's list need not wait any longer.
module _ {N len n first last k j : ℕ} {w w' : List ℕ} (B : Busy N len n w first last k) (f : first ≡ suc j) (F : Fits w j) (s : w' ≡ set w (QUEUE.at + j) 1) where
  record Front (this : List ℕ) : Type 0 where
    rest : List ℕ
    is : this ≡ j ∷ rest
    waits : Waits w j
    line : Line (queue_of w) (queue_of w j - 2) rest

  front : Front B.this
  front = go B.this-line
    where
      go : {T : List ℕ} → Line (queue_of w) first T → Front T
      go (end e) = absurd (omega arith)
      go (next {i = i} {L = L} e l r) = let z : i ≡ j = omega arith in record { rest = L; is = rw z; waits = rw z at l; line = rw z at r }

  low : j < front_size
  low = omega (arith, (B.in-named j (λ e. omega (arith, front.waits))).0, B.short)

  kept : Within (all_of QUEUE) w w'
  kept = rw s (within-set (all_of QUEUE) w (QUEUE.at + j) 1 (omega arith) (omega (arith, low)))

  wide' : Within before_halved w w'
  wide' = within_wider before_halved (omega arith) (omega arith) kept

  queue : queue_of w' ≡ put j 1 (queue_of w)
  queue = rw s (seen-in QUEUE w j 1 low (omega (arith, B.standing.long, low)))

  hit : queue_of w' j ≡ 1
  hit = rw queue (put-hit j 1 (queue_of w))

  miss : (i : ℕ) → i ≢ j → queue_of w' i ≡ queue_of w i
  miss i d = rw queue (put-miss j 1 (queue_of w) i d)

  labels : label_of w' ≡ label_of w
  labels = seen-within LABEL kept (inl (omega arith))

  members : member_of w' ≡ member_of w
  members = seen-within MEMBER kept (inl (omega arith))

  trails : trail_of w' ≡ trail_of w
  trails = seen-within TRAIL kept (inl (omega arith))

  places' : place_of w' ≡ place_of w
  places' = seen-within FRONT kept (inl (omega arith))

  pop-on : (i : ℕ) → In w i → In w' i
  pop-on i h = go (ℕ_discrete i j)
    where
      go : Dec (i ≡ j) → In w' i
      go (yes q) = λ e. let z : queue_of w' i ≡ queue_of w' j = ap (queue_of w') q in omega (arith, hit)
      go (no q) = rw (miss i q) h

  pop-back : (i : ℕ) → In w' i → In w i
  pop-back i h = go (ℕ_discrete i j)
    where
      go : Dec (i ≡ j) → In w i
      go (yes q) = λ e. let z : queue_of w i ≡ queue_of w j = ap (queue_of w) q in omega (arith, front.waits)
      go (no q) = rw (miss i q) at h

  pop-waits : (i : ℕ) → Waits w' i → (i ≢ j) × Waits w i
  pop-waits i h = let d : i ≢ j = λ q. omega (arith, hit, ap (queue_of w') q) in (d, rw (miss i d) at h)

  pop-resting : Resting (App w) (Waits w') (λ i. left_of w (place_of w i)) (λ i. right_of w (place_of w i)) (λ i. result_of w (place_of w i)) (label_of w)
  pop-resting = go F
    where
      others : (i : ℕ) → i ≢ j → Waits w i → Waits w' i
      others i d h = rw (miss i d) h

      go : Fits w j → Resting (App w) (Waits w') (λ i. left_of w (place_of w i)) (λ i. right_of w (place_of w i)) (λ i. result_of w (place_of w i)) (label_of w)
      go (twin q p u x y z) = rest-found j q others p u x y z B.resting
      go (alone h) = rest-new j others h B.resting

  pop-set : (q : Rec) → InSet len n w q → InSet len n w' q
  pop-set q i = (i.0, (i.1.0, i.1.1, pop-on i.1.0 i.1.2, rw places' i.1.3), rw (records-same wide' len) i.2)

  pub busy-pop : Busy N len n w' (queue_of w j - 2) last k
  busy-pop = record {
    loaded = loaded-same wide' B.loaded;
    short = B.short;
    named = rw places' B.named;
    standing = record { long = omega (arith, kept.size, B.standing.long); built = rw (trails, labels, members) B.standing.built };
    filed = rw-filed;
    in-named = λ i h. rw places' (B.in-named i (pop-back i h));
    sound = λ z. rw labels (more pop-set (B.sound z));
    resting = rw (labels, lefts wide', rights wide', results wide', places') (rest_in (λ i p. (pop-back i p.0, rw (results wide', places') at p.1)) (λ i h. h) pop-resting);
    waits-app = λ i h. rw (results wide', places') (B.waits-app i (pop-waits i h).1);
    last-low = B.last-low;
    this = front.rest;
    this-line = line-same-in (λ i m. miss i (λ q. line-once front.waits front.line (rw q at m))) front.line;
    after = B.after;
    after_line = line-same-in (λ i m. miss i (λ q. B.apart i (rw front.is (Memᴰ.head q)) m)) B.after_line;
    apart = λ i m. B.apart i (rw front.is (Memᴰ.tail m));
    all = λ i h. all i (pop-waits i h).0 (B.all i (pop-waits i h).1);
  }
    where
      rw-filed : Filed n w'
      rw-filed = record {
        heads = λ b z. rw (uses-same kept b) (B.filed.heads b z);
        falls = λ b r. rw (others_same kept b) (B.filed.falls b r);
        head-app = λ b z. rw (uses-same kept b, results wide', places') (B.filed.head-app b z);
        next-app = λ b r. rw (others_same kept b, results wide', places') (B.filed.next-app b r);
        filed = λ b i. rw (uses-same kept b, others_same kept b, results wide', lefts wide', rights wide', places') (B.filed.filed b i);
      }

      all : (i : ℕ) → i ≢ j → Memᴰ i B.this ⊎ Memᴰ i B.after → Memᴰ i front.rest ⊎ Memᴰ i B.after
      all i d (inr m) = inr m
      all i d (inl m) = elim (Memᴰ.cases_cons (rw front.is at m)) [ inl q ↦ absurd (d q) | inr z ↦ inl z ]

  pub went-pop : Went w w' k k
  went-pop = record {
    kept = within_wider add_part (omega arith) (omega arith) kept;
    steady = record { uses = uses-same kept; others = others_same kept; trail = λ i l. ap (λ (g : ℕ → ℕ). g i) trails };
    since = none refl labels members;
    ins = λ i. (pop-back i, pop-on i);
  }

pub pop-low : {N len n first last k j : ℕ} {w : List ℕ} → Busy N len n w first last k → first ≡ suc j → (j < front_size) × (2 ≤ queue_of w j)
pop-low {N} {len} {n} {first} {last} {k} {j} {w} B f = go B.this-line
  where
    go : {T : List ℕ} → Line (queue_of w) first T → (j < front_size) × (2 ≤ queue_of w j)
    go (end e) = absurd (omega arith)
    go (next {i = i} {L = L} e l r) =
        let z : i ≡ j = omega arith in
        let m : 2 ≤ queue_of w j = rw z at l in
        (omega (arith, (B.in-named j (λ e. omega arith)).0, B.short), m)

-- From one round to the next; and the end of the last.
pub busy-turn : {N len n last k : ℕ} {w : List ℕ} → Busy N len n w 0 last k → Busy N len n w last 0 k
busy-turn {N} {len} {n} {last} {k} {w} B = record {
  loaded = B.loaded;
  short = B.short;
  named = B.named;
  standing = B.standing;
  filed = B.filed;
  in-named = B.in-named;
  sound = B.sound;
  resting = B.resting;
  waits-app = B.waits-app;
  last-low = omega arith;
  this = B.after;
  this-line = B.after_line;
  after = [];
  after_line = end refl;
  apart = λ j i m. Memᴰ.not-nil m;
  all = λ j h. go j B.this-line (B.all j h);
}
  where
    go : (j : ℕ) {T : List ℕ} → Line (queue_of w) 0 T → Memᴰ j T ⊎ Memᴰ j B.after → Memᴰ j B.after ⊎ Memᴰ j []
    go j (end e) (inl i) = absurd (Memᴰ.not-nil i)
    go j (next e l r) (inl i) = absurd (omega arith)
    go j t (inr i) = inl i

pub busy-idle : {N len n k : ℕ} {w : List ℕ} → Busy N len n w 0 0 k → (j : ℕ) → Waits w j → ⊥
busy-idle {N} {len} {n} {k} {w} B j h = go B.this-line B.after_line (B.all j h)
  where
    empty : {T : List ℕ} → Line (queue_of w) 0 T → Memᴰ j T → ⊥
    empty (end e) i = Memᴰ.not-nil i
    empty (next e l r) i = omega arith

    go : {T U : List ℕ} → Line (queue_of w) 0 T → Line (queue_of w) 0 U → Memᴰ j T ⊎ Memᴰ j U → ⊥
    go t u (inl i) = empty t i
    go t u (inr i) = empty u i

pub rank-join : {k : ℕ} (w w' : List ℕ) → k < most_tags → rank w' (suc k) < rank w k
rank-join {k} w w' l = omega (arith, count_low (λ j. leb 2 (queue_of w' j)) front_size)

pub rank-pop : {N len n first last k j : ℕ} {w w' : List ℕ} → Busy N len n w first last k → first ≡ suc j → w' ≡ set w (QUEUE.at + j) 1 → rank w' k < rank w k
rank-pop {N} {len} {n} {first} {last} {k} {j} {w} {w'} B f s =
    let z = count-less-one (λ i. leb 2 (queue_of w i)) (λ i. leb 2 (queue_of w' i)) j (le-leb 2 (queue_of w j) (pop-low B f).1) (rw (queue, put-hit j 1 (queue_of w))) (λ i d. rw (queue, put-miss j 1 (queue_of w) i d)) front_size (pop-low B f).0 in
    omega arith
  where
    queue : queue_of w' ≡ put j 1 (queue_of w)
    queue = rw s (seen-in QUEUE w j 1 (pop-low B f).0 (omega (arith, B.standing.long, (pop-low B f).0)))

pub went-same : {k : ℕ} (w : List ℕ) → Went w w k k
went-same w = record { kept = within-refl w; steady = record { uses = λ b. refl; others = λ b. refl; trail = λ j l. refl }; since = none refl refl refl; ins = λ j. ((λ i. i), λ i. i) }

pub went_then : {k k₁ k₂ : ℕ} {w w₁ w₂ : List ℕ} → Went w w₁ k k₁ → Went w₁ w₂ k₁ k₂ → Went w w₂ k k₂
went_then f g = record {
  kept = within-trans f.kept g.kept;
  steady = record { uses = λ b. g.steady.uses b ∙ f.steady.uses b; others = λ b. g.steady.others b ∙ f.steady.others b; trail = λ j l. g.steady.trail j (omega (arith, grown-up f.since)) ∙ f.steady.trail j l };
  since = grown-then (grown-trail g.steady.trail f.since) g.since;
  ins = λ j. ((λ i. (f.ins j).0 ((g.ins j).0 i)), λ i. (g.ins j).1 ((f.ins j).1 i));
}

pub turned-busy : {N len n first last first' last' k k' : ℕ} {w : List ℕ} → Turned first last first' last' → k' ≡ k → Busy N len n w first last k → Busy N len n w first' last' k'
turned-busy {N} {len} {n} {first} {last} {first'} {last'} {k} {k'} {w} t e B = go (ℕ_discrete first 0)
  where
    go : Dec (first ≡ 0) → Busy N len n w first' last' k'
    go (yes q) = let z = t.begins q in rw (e, z.0, z.1) (busy-turn (rw q at B))
    go (no q) = let z = t.goes q in rw (e, z.0, z.1) B

pub turned-end : {N len n first last first' last' k k' : ℕ} {w : List ℕ} → Turned first last first' last' → k' ≡ k → first' ≡ 0 → Busy N len n w first last k → Busy N len n w 0 0 k'
turned-end {N} {len} {n} {first} {last} {first'} {last'} {k} {k'} {w} t e o B = go (ℕ_discrete first 0)
  where
    go : Dec (first ≡ 0) → Busy N len n w 0 0 k'
    go (yes q) = let z = t.begins q in let y : last ≡ 0 = sym z.0 ∙ o in rw e (rw (q, y) at B)
    go (no q) = absurd (q (sym (t.goes q).0 ∙ o))

-- What the calls of a join ask for.
pub busy-falling : {N len n first last k : ℕ} {w : List ℕ} → Busy N len n w first last k → Falling w
busy-falling B = record { long = B.standing.long; heads = λ b x. omega (arith, B.filed.heads b x, B.short); falls = B.filed.falls }

pub busy-ringed : {N len n first last k x y : ℕ} {w : List ℕ} → Busy N len n w first last k → Apart most_tags (label_of w) x y → Ringed w x
busy-ringed B a = ringed-of B.standing.long a.x-tag (standing-classes B.standing) a.x-own

pub roused-standing : {N len n first last last₁ k x : ℕ} {w w₁ : List ℕ} → Busy N len n w first last k → Roused w w₁ x last last₁ → Standing w₁ k
roused-standing B R = record {
  long = omega (arith, R.woken.kept.size, B.standing.long);
  built = rw (seen-within TRAIL R.woken.kept (inl (omega arith)), seen-within LABEL R.woken.kept (inl (omega arith)), seen-within MEMBER R.woken.kept (inl (omega arith))) B.standing.built;
}

pub roused-apart : {x y last last₁ : ℕ} {w w₁ : List ℕ} → Roused w w₁ x last last₁ → Apart most_tags (label_of w) x y → Apart most_tags (label_of w₁) x y
roused-apart R a = rw (seen-within LABEL R.woken.kept (inl (omega arith))) a
