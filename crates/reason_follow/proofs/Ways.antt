-- A way is walked join by join: the newest join up to the next known tag waits, its near end is the next known tag, and where the way has come there the join is crossed. What is left weighs
-- less at each step. Assumes nothing.
use Prim.Native.Nat.{ℕ, zero, suc, ◌+◌, ◌-◌, ◌*◌, ◌≤◌, ◌<◌}
use native.Mathlib.Omega.{arith}
use native.Mathlib.Decide.{ℕ_discrete}
use mathlib.Core.Path.{◌≡◌, refl, sym, ◌∙◌, ap}
use mathlib.Core.Logic.{◌≢◌, ◌⊎◌, inl, inr}
use mathlib.Core.Bool.{Bool, true}
use mathlib.Core.List.{List}
use lib.Dec.{T}
use lib.ListN.{set}
use borrow.Author.Tests.{lt-ltb, le-ltb}
use Rattle.meaning.specs.Following.{Rec}
use Rattle.meaning.specs.Joins.{Join, Linked, over, Joined, put}
use Rattle.meaning.specs.Needed.{Crosses, tags, Needed, near-side, far-side, across, itself}
use Rattle.meaning.specs.Limits.{most_tags}
use Rattle.meaning.proofs.Log.{linked-refl, linked-sym, linked-trans, linked-more, linked_up, put-hit, put-miss}
use Rattle.table.specs.Map.{label_of, next_of, join_at, Within}
use Rattle.table.specs.Places.{LABEL, NEXT, Large, list_part}
use Rattle.table.proofs.Frame.{seen_at, seen-in, seen-out, seen-within, within-refl, within-trans, within_wider, within-set}
use Rattle.moment.specs.Meeting.{leader_at, Met}
use Rattle.moment.specs.Deep.{MetBefore}
use Rattle.moment.specs.Holding.{Holds, marked}
use Rattle.moment.proofs.Kept.{kept-joins, kept-marks, holds-fewer}
use Rattle.reason_follow.specs.Shown.{Shown, Remembers, Noted, Taken}
use Rattle.reason_follow.specs.Ways.{follow_part, Entry, age_in, Waits, Waiting, none, after, OnWay, heft, pile, weight, Listed, Read, Put, Turned, Asks, Nearest, Passed}
use Rattle.reason_follow.specs.Tracing.{Together, Crossed, Ended, Sided}
use Rattle.reason_follow.proofs.Crossing.{holds-ranged, wider, kept-leader, kept-still, kept-together, crosses-of, crossed-of}
use Rattle.reason_follow.proofs.Shown.{any, linked-old, shown-join, shown-mark, shown-to}

-- A number stands for one join, crossed in one direction.
entry-one : {e : ℕ → Join} {v b near far b' near' far' : ℕ} → b < most_tags → b' < most_tags → Entry e v b near far → Entry e v b' near' far' → (b ≡ b') × (near ≡ near') × (far ≡ far')
entry-one {e} {v} {b} {near} {far} {b'} {near'} {far'} l l' x y = elim x.either [
  | inl h ↦ elim y.either [
    | inl k ↦ let q : b ≡ b' = omega (arith, h.0, k.0) in (q, h.1 ∙ ap (λ (i : ℕ). (e i).u) q ∙ sym k.1, h.2 ∙ ap (λ (i : ℕ). (e i).v) q ∙ sym k.2)
    | inr k ↦ absurd (omega (arith, h.0, k.0))
  ]
  | inr h ↦ elim y.either [
    | inl k ↦ absurd (omega (arith, h.0, k.0))
    | inr k ↦ let q : b ≡ b' = omega (arith, h.0, k.0) in (q, h.1 ∙ ap (λ (i : ℕ). (e i).v) q ∙ sym k.1, h.2 ∙ ap (λ (i : ℕ). (e i).u) q ∙ sym k.2)
  ]
]

entry-age : {e : ℕ → Join} {v b near far : ℕ} → b < most_tags → Entry e v b near far → age_in v ≡ b
entry-age {v = v} {b = b} l x = elim x.either [
  | inl h ↦ rw (lt-ltb v most_tags (omega (arith, h.0))) h.0
  | inr h ↦ rw (le-ltb v most_tags (omega (arith, h.0))) (omega (arith, h.0))
]

entry-moved : {e e' : ℕ → Join} {v v' b near far : ℕ} → e' ≡ e → v' ≡ v → Entry e v b near far → Entry e' v' b near far
entry-moved p q x = rw (p, q) x

-- What is said of functions and tags, said of equal ones.
mark-to : {f g : ℕ → Bool} → f ≡ g → (a : ℕ) → T (f a) → T (g a)
mark-to q a h = rw (← q) h

linked_to : {e : ℕ → Join} {m m' : ℕ → Bool} {b s t : ℕ} → m ≡ m' → Linked e m b s t → Linked e m' b s t
linked_to q h = rw (← q) h

ends-to : {e e' : ℕ → Join} {b near far : ℕ} → e ≡ e' → ((near ≡ (e b).u) × (far ≡ (e b).v)) ⊎ ((near ≡ (e b).v) × (far ≡ (e b).u)) → ((near ≡ (e' b).u) × (far ≡ (e' b).v)) ⊎ ((near ≡ (e' b).v) × (far ≡ (e' b).u))
ends-to q h = rw (← q) h

waiting-to : {w : List ℕ} {f : ℕ → ℕ} {limit s t n low y y' : ℕ} → y ≡ y' → Waiting w f limit s t n low y → Waiting w f limit s t n low y'
waiting-to q h = rw (← q) h

leaders-to : (g : ℕ → ℕ → ℕ) {b b' x x' y y' : ℕ} → b ≡ b' → x ≡ x' → y ≡ y' → g b x ≡ g b y → g b' x' ≡ g b' y'
leaders-to g p q r h = rw (← p, ← q, ← r) h

needed-to : {rs : List Rec} {e : ℕ → Join} {s t x y x' y' a : ℕ} → x ≡ x' → y ≡ y' → (Needed rs e (tags x y) a → Needed rs e (tags s t) a) → Needed rs e (tags x' y') a → Needed rs e (tags s t) a
needed-to p q f i = f (rw (p, q) i)

-- What waits is read off the first n numbers alone.
waiting-same : {w : List ℕ} {f f' : ℕ → ℕ} {limit s t n low y : ℕ} → ((k : ℕ) → k < n → f' k ≡ f k) → Waiting w f limit s t n low y → Waiting w f' limit s t n low y
waiting-same q none = none
waiting-same q (after {n = n} {low = low} {y = y} {b = b} {near = near} {far = far} h x) = after {n = n} {low = low} {y = y} {b = b} {near = near} {far = far} (waiting-same (λ k l. q k (omega arith)) h) (rw (q n (omega arith)) x)

waiting-room : {w : List ℕ} {f : ℕ → ℕ} {limit s t n low y : ℕ} → Waiting w f limit s t n low y → n + low ≤ limit
waiting-room none = omega arith
waiting-room (after h x) = omega (arith, waiting-room h, x.older)

waiting_none : {w : List ℕ} {f : ℕ → ℕ} {limit s t n low y : ℕ} → Waiting w f limit s t n low y → n ≡ 0 → y ≡ t
waiting_none none q = refl
waiting_none (after h x) q = absurd (omega arith)

-- The last that waits, and those before it.
record Top (w : List ℕ) (f : ℕ → ℕ) (limit s t m low y : ℕ) : Type 0 where
  low' : ℕ
  y' : ℕ
  far : ℕ
  rest : Waiting w f limit s t m low' y'
  last : Waits w s t (f m) low' y' low y far

top-moved : {w : List ℕ} {f : ℕ → ℕ} {limit s t n m low y : ℕ} → n ≡ m → Top w f limit s t n low y → Top w f limit s t m low y
top-moved q x = rw (← q) x

waiting-last : {w : List ℕ} {f : ℕ → ℕ} {limit s t n low y : ℕ} → Waiting w f limit s t n low y → (m : ℕ) → n ≡ suc m → Top w f limit s t m low y
waiting-last none m q = absurd (omega arith)
waiting-last (after {n = n} {low = low} {y = y} {far = far} h x) m q = let e : n ≡ m = omega arith in top-moved e (record { low' = low; y' = y; far = far; rest = h; last = x })

-- A join weighs more than three times any that is older.
heft-some : (b : ℕ) → 1 ≤ heft b
heft-some zero = omega arith
heft-some (suc b) = omega (arith, heft-some b)

heft-less : (b c : ℕ) → b < c → 4 * heft b ≤ heft c
heft-less b zero l = absurd (omega arith)
heft-less b (suc c) l = go (ℕ_discrete b c) (heft-less b c)
  where
    go : Dec (b ≡ c) → (b < c → 4 * heft b ≤ heft c) → 4 * heft b ≤ heft (suc c)
    go (yes q) f = rw q (omega arith)
    go (no q) f = omega (arith, f (omega arith))

pile-same : (f f' : ℕ → ℕ) (n : ℕ) → ((k : ℕ) → k < n → f' k ≡ f k) → pile f' n ≡ pile f n
pile-same f f' zero q = refl
pile-same f f' (suc n) q = rw (q n (omega arith), pile-same f f' n (λ k l. q k (omega arith)))

-- What is said of the table as it is, said of the table as it was.
module _ {w₀ w : List ℕ} (k : Within follow_part w₀ w) where
  sided-before : {x y b near far : ℕ} → Sided w x y b near far → Sided w₀ x y b near far
  sided-before {x} {y} {b} {near} {far} d = record {
    near-tag = d.near-tag;
    far-tag = d.far-tag;
    from = sym (kept-leader k b x) ∙ d.from ∙ kept-leader k b near;
    onto = sym (kept-leader k b far) ∙ d.onto ∙ kept-leader k b y;
    either = ends-to (kept-joins (wider k)) d.either;
  }

  met_at : {x y b : ℕ} → Met w x y b → Met w₀ x y b
  met_at {x} {y} {b} m = record {
    most = m.most;
    joined = λ l. sym (kept-leader k (suc b) x) ∙ m.joined l ∙ kept-leader k (suc b) y;
    apart = λ a l q. m.apart a l (kept-leader k a x ∙ q ∙ sym (kept-leader k a y));
  }

-- Reading and writing one place of those that wait.
pub read_first : {w : List ℕ} {n v : ℕ} → Listed w n → v ≡ next_of w n → v < most_tags → Holds w (suc v)
read_first {w} {n} {v} l q h = elim l.entry.either [ inl k ↦ let e : v ≡ l.b = omega (arith, k.0) in rw e l.holds | inr k ↦ absurd (omega (arith, k.0)) ]

pub read-second : {w : List ℕ} {n v : ℕ} → Listed w n → v ≡ next_of w n → most_tags ≤ v → Holds w (suc (v - most_tags))
read-second {w} {n} {v} l q h = elim l.entry.either [ inl k ↦ absurd (omega (arith, k.0, (holds-ranged l.holds).age)) | inr k ↦ let e : v - most_tags ≡ l.b = omega (arith, k.0) in rw e l.holds ]

pub read-over : {w : List ℕ} {n v near far : ℕ} → v ≡ next_of w n → v < most_tags → Ended w v near far → Read w n v near far
read-over q h e = record { age = h; entry = record { either = inl (sym q, e.near-is, e.far-is) } }

pub read_back : {w : List ℕ} {n v near far : ℕ} → Listed w n → v ≡ next_of w n → most_tags ≤ v → Ended w (v - most_tags) near far → Read w n (v - most_tags) far near
read_back l q h e = record { age = (holds-ranged (read-second l q h)).age; entry = record { either = inr (omega arith, e.far-is, e.near-is) } }

pub put-over : {w w' : List ℕ} {n b near far u v : ℕ} → Turned w n b near far → Ended w b u v → near ≡ u → w' ≡ set w (NEXT.at + n) b → Put w w' n b near far
put-over {b = b} k e q z = record {
  v = b;
  is = z;
  entry = record { either = inl (refl, q ∙ e.near-is, elim k.either [ inl h ↦ h.1 | inr h ↦ h.1 ∙ sym (q ∙ e.near-is) ∙ h.0 ]) };
}

pub put_back : {w w' : List ℕ} {n b near far u v : ℕ} → Turned w n b near far → Ended w b u v → near ≢ u → w' ≡ set w (NEXT.at + n) (most_tags + b) → Put w w' n b near far
put_back {b = b} k e q z = record {
  v = most_tags + b;
  is = z;
  entry = record { either = elim k.either [ inl h ↦ absurd (q (h.0 ∙ sym e.near-is)) | inr h ↦ inr (refl, h.0, h.1) ] };
}

pub nearest-first : (w : List ℕ) (t n : ℕ) → n ≡ 0 → Nearest w t n t
nearest-first w t n z = record { first = λ q. refl; far = 0; b = 0; last = λ m q. absurd (omega arith) }

pub nearest-last : {w : List ℕ} {n b y far : ℕ} (t : ℕ) → n ≢ 0 → Read w (n - 1) b y far → Nearest w t n y
nearest-last {w} {n} {b} {y} {far} t d r = record { first = λ q. absurd (d q); far = far; b = b; last = λ m q. let e : n - 1 ≡ m = omega arith in rw e at r }

-- What joins older than b connect is linked by marked ones of these, where the labels tell that it is shown.
shown-old : {e : ℕ → Join} {m : ℕ → Bool} {f : ℕ → ℕ} {b n x y : ℕ} → Shown e m n f → b ≤ n → x < most_tags → y < most_tags → Joined e b x y → f x ≡ f y → Linked e m b x y
shown-old {b = b} {n = n} {x = x} {y = y} s l i k j q = linked-old n b x y s.useful l j (s.linked x y i k q)

joined_at : {w : List ℕ} {limit b x y : ℕ} → Holds w limit → b ≤ limit → leader_at w b x ≡ leader_at w b y → Joined (join_at w) b x y
joined_at {b = b} {x = x} {y = y} h l q = (h.past.history.then b (omega (arith, h.reach))).joins x y q

pub way-start : {w : List ℕ} {s t limit : ℕ} → Together w s t limit → Remembers w limit → OnWay w w limit s t s t limit 0
way-start {w} {s} {t} {limit} h r = record {
  kept = within-refl w;
  holds = h.holds;
  x-tag = h.from;
  y-tag = h.to;
  low = limit;
  waiting = none;
  under = omega arith;
  equal = h.equal;
  linked = linked-refl limit s;
  top = r.top;
  reach = r.reach;
  shown = r.shown;
  needed = λ rs a i. i;
  more = λ a i. i;
  fresh = λ a i. inl i;
}

-- What following remembers, said of the table as it is.
way-remembers : {w₀ w : List ℕ} {limit s t x y below n : ℕ} → OnWay w₀ w limit s t x y below n → Remembers w limit
way-remembers o = record { top = o.top; reach = o.reach; shown = shown-to (sym (kept-joins (wider o.kept))) refl refl o.shown }

pub way_end : {w₀ w : List ℕ} {limit s t x y below n : ℕ} → Together w₀ s t limit → OnWay w₀ w limit s t x y below n → label_of w x ≡ label_of w t → Passed w₀ w limit s t
way_end {limit = limit} h o q = record {
  kept = o.kept;
  linked = linked-trans o.linked (shown-old o.shown o.reach o.x-tag h.to (linked-trans (linked-sym (any o.linked)) (joined_at h.holds (omega arith) h.equal)) q);
  remembers = way-remembers o;
  more = o.more;
  fresh = o.fresh;
}

module _ {w₀ w : List ℕ} {limit s t x y below n : ℕ} (o : OnWay w₀ w limit s t x y below n) where
  pub way-low : below ≤ limit
  way-low = omega (arith, o.under, waiting-room o.waiting)

  pub way-limit : limit ≤ most_tags
  way-limit = omega (arith, o.holds.reach, o.holds.past.history.room)

  pub way_long : Large w
  way_long = omega (arith, o.holds.past.loaded.long, o.kept.size)

  pub way-together : Together w x y below
  way-together = kept-together o.kept (record { holds = holds-fewer way-low o.holds; from = o.x-tag; to = o.y-tag; equal = o.equal })

  -- A join that waits at place m is there.
  way-listed : {m low b near far y' : ℕ} → m < most_tags → low ≤ limit → Waits w₀ s t (next_of w m) low y' b near far → Listed w m
  way-listed {m} {b = b} {near = near} {far = far} l h x = record {
    place = omega arith;
    b = b;
    near = near;
    far = far;
    holds = kept-still o.kept (holds-fewer (omega (arith, x.older)) o.holds);
    entry = entry-moved (kept-joins (wider o.kept)) refl x.entry;
  }

  pub way-crossed : {b : ℕ} → MetBefore w below x y b → (b < below) × Crossed w x y b
  way-crossed M = crossed-of way-together M

  module _ {b near far : ℕ} (M : MetBefore w below x y b) (D : Sided w x y b near far) where
    pub split-room : n < most_tags
    split-room = omega (arith, waiting-room o.waiting, o.under, (way-crossed M).0, way-limit)

    pub split-turned : Turned w n b near far
    split-turned = record { place = split-room; holds = (way-crossed M).1.holds; either = D.either }

    crosses : Crosses (join_at w₀) x y b near far
    crosses = crosses-of (met_at o.kept (way-crossed M).1.met) (sided-before o.kept D) o.holds.tags o.holds.len o.holds.joins o.holds.past
        (omega (arith, (way-crossed M).0, way-low, o.holds.reach))

    module _ {w' : List ℕ} (Q : Put w w' n b near far) where
      put-at : next_of w' ≡ put n Q.v (next_of w)
      put-at = ap next_of Q.is ∙ seen-in NEXT w n Q.v (omega (arith, split-room)) (omega (arith, split-room, way_long))

      first-same : (k : ℕ) → k < n → next_of w' k ≡ next_of w k
      first-same k l = ap (λ (f : ℕ → ℕ). f k) put-at ∙ put-miss n Q.v (next_of w) k (omega arith)

      last-is : next_of w' n ≡ Q.v
      last-is = ap (λ (f : ℕ → ℕ). f n) put-at ∙ put-hit n Q.v (next_of w)

      pub split-kept : Within follow_part w w'
      split-kept = rw Q.is (within-set follow_part w (NEXT.at + n) Q.v (omega arith) (omega (arith, split-room)))

      marks : marked w' ≡ marked w
      marks = kept-marks (rw Q.is (within-set list_part w (NEXT.at + n) Q.v (omega arith) (omega (arith, split-room))))

      labels : label_of w' ≡ label_of w
      labels = ap label_of Q.is ∙ seen-out LABEL w (NEXT.at + n) Q.v (inr (omega arith))

      -- A join that was made earlier between its ends would have been one between the two tags.
      ends-apart : Joined (join_at w₀) b (join_at w₀ b).u (join_at w₀ b).v → ⊥
      ends-apart j = elim crosses.either [
        | inl h ↦ crosses.apart (linked-trans crosses.from (linked-trans (rw (h.0, h.1) j) crosses.onto))
        | inr h ↦ crosses.apart (linked-trans crosses.from (linked-trans (rw (h.0, h.1) (linked-sym j)) crosses.onto))
      ]

      entry : Entry (join_at w₀) (next_of w' n) b near far
      entry = entry-moved (sym (kept-joins (wider o.kept))) last-is Q.entry

      pub split-way : OnWay w₀ w' limit s t x near b (suc n)
      split-way = record {
        kept = within-trans o.kept split-kept;
        holds = o.holds;
        x-tag = o.x-tag;
        y-tag = D.near-tag;
        low = b;
        waiting = after {low = o.low} {y = y} {b = b} {near = near} {far = far} (waiting-same first-same o.waiting) (record {
          older = omega (arith, (way-crossed M).0, o.under);
          entry = entry;
          apart = ends-apart;
          y-tag = o.y-tag;
          onto = (sided-before o.kept D).onto;
          beyond = λ rs a i. o.needed rs a (far-side crosses i);
          itself = λ rs a i. o.needed rs a (across crosses i);
        });
        under = omega arith;
        equal = (sided-before o.kept D).from;
        linked = linked_to (sym marks) o.linked;
        top = o.top;
        reach = o.reach;
        shown = shown-to refl (sym marks) (sym labels) o.shown;
        needed = λ rs a i. o.needed rs a (near-side crosses i);
        more = λ a h. mark-to (sym marks) a (o.more a h);
        fresh = λ a h. o.fresh a (mark-to marks a h);
      }

      pub split-falls : weight w' b (suc n) < weight w below n
      split-falls =
          let p : pile (next_of w') n ≡ pile (next_of w) n = pile-same (next_of w) (next_of w') n first-same in
          let a : age_in (next_of w' n) ≡ b = entry-age (omega (arith, (way-crossed M).0, way-low, way-limit)) entry in
          let h : heft (age_in (next_of w' n)) ≡ heft b = ap heft a in
          omega (arith, p, h, heft-less b below (way-crossed M).0, heft-some b)

  pub cross-some : label_of w x ≡ label_of w y → label_of w x ≢ label_of w t → 1 ≤ n
  cross-some q d = go n refl
    where
      go : (i : ℕ) → n ≡ i → 1 ≤ n
      go zero z = absurd (d (q ∙ ap (label_of w) (waiting_none o.waiting z)))
      go (suc i) z = omega arith

  module _ {m : ℕ} (e : n ≡ suc m) where
    top : Top w₀ (next_of w) limit s t m o.low y
    top = waiting-last o.waiting m e

    few : suc m + o.low ≤ limit
    few = omega (arith, waiting-room top.rest, top.last.older)

    pub cross-listed : Listed w m
    cross-listed = way-listed (omega (arith, few, way-limit)) (omega (arith, waiting-room top.rest)) top.last

    pub cross-asks : Asks w m
    cross-asks = record { last = λ i q. let u = waiting-last top.rest i q in way-listed (omega (arith, few, way-limit, q)) (omega (arith, waiting-room u.rest)) u.last }

    module _ {b near far : ℕ} (R : Read w m b near far) where
      near-far : (near < most_tags) × (far < most_tags)
      near-far = elim R.entry.either [ inl h ↦ (omega (arith, h.1, (tag cross-listed.holds).0), omega (arith, h.2, (tag cross-listed.holds).1)) | inr h ↦ (omega (arith, h.1, (tag cross-listed.holds).1), omega (arith, h.2, (tag cross-listed.holds).0)) ]
        where
          tag : Holds w (suc cross-listed.b) → ((join_at w b).u < most_tags) × ((join_at w b).v < most_tags)
          tag h = let z : b ≡ cross-listed.b = (entry-one R.age (omega (arith, few, way-limit)) R.entry cross-listed.entry).0 in rw z ((holds-ranged h).u-tag, (holds-ranged h).v-tag)

      pub cross-notes : {w₁ : List ℕ} → Taken w w₁ b → Large w₁ × (near < most_tags) × (far < most_tags)
      cross-notes E = (omega (arith, way_long, E.kept.size), near-far.0, near-far.1)

    module _ {y₁ : ℕ} (K : Nearest w t m y₁) where
      next : y₁ ≡ top.y'
      next = go m refl
        where
          go : (i : ℕ) → m ≡ i → y₁ ≡ top.y'
          go zero z = K.first z ∙ sym (waiting_none top.rest z)
          go (suc i) z =
              let u = waiting-last top.rest i z in
              let r = K.last i z in
              (entry-one r.age (omega (arith, waiting-room top.rest, z, way-limit)) r.entry (entry-moved (kept-joins (wider o.kept)) refl u.last.entry)).1

      pub cross-known : y₁ < most_tags
      cross-known = rw next top.last.y-tag

    module _ {b near far y₁ : ℕ} {w₁ w' : List ℕ} (q : label_of w x ≡ label_of w y) (R : Read w m b near far) (K : Nearest w t m y₁) (E : Taken w w₁ b) (F : Noted w₁ w' near far) where
      one : (b ≡ o.low) × (near ≡ y) × (far ≡ top.far)
      one = entry-one R.age (omega (arith, few, way-limit)) R.entry (entry-moved (kept-joins (wider o.kept)) refl top.last.entry)

      marked-then : marked w' ≡ marked w₁
      marked-then = kept-marks (within_wider list_part (omega arith) (omega arith) F.kept)

      now-marked : marked w' ≡ put b true (marked w)
      now-marked = marked-then ∙ E.marks

      -- The order stands behind those that wait.
      nexts : (k : ℕ) → k < most_tags → next_of w' k ≡ next_of w k
      nexts k l = ap (λ (f : ℕ → ℕ). f k) (seen-within NEXT F.kept (inr (omega arith))) ∙ seen_at NEXT w₁ k (omega arith) ∙ E.kept.same (NEXT.at + k) (inl (omega arith)) ∙ sym (seen_at NEXT w k (omega arith))

      labels-first : label_of w₁ ≡ label_of w
      labels-first = seen-within LABEL E.kept (inl (omega arith))

      old : (a : ℕ) → T (marked w a) → T (marked w' a)
      old a h = mark-to (sym now-marked) a (go (ℕ_discrete a b))
        where
          go : Dec (a ≡ b) → T (put b true (marked w) a)
          go (yes z) = rw (z, put-hit b true (marked w)) tt
          go (no z) = rw (put-miss b true (marked w) a z) h

      itself-marked : T (marked w' b)
      itself-marked = mark-to (sym now-marked) b (rw (put-hit b true (marked w)) tt)

      pub cross-kept : Within follow_part w w'
      cross-kept = within-trans (within_wider follow_part (omega arith) (omega arith) E.kept) (within_wider follow_part (omega arith) (omega arith) F.kept)

      over-it : Linked (join_at w₀) (marked w') (suc b) near far
      over-it = elim R.entry.either [
        | inl h ↦ let e₀ = kept-joins (wider o.kept) in
            rw (h.1 ∙ ap (λ (f : ℕ → Join). (f b).u) e₀, h.2 ∙ ap (λ (f : ℕ → Join). (f b).v) e₀) (over {n = b} itself-marked (linked-refl b (join_at w₀ b).u) (linked-refl b (join_at w₀ b).v))
        | inr h ↦ let e₀ = kept-joins (wider o.kept) in
            rw (h.1 ∙ ap (λ (f : ℕ → Join). (f b).v) e₀, h.2 ∙ ap (λ (f : ℕ → Join). (f b).u) e₀) (linked-sym (over {n = b} itself-marked (linked-refl b (join_at w₀ b).u) (linked-refl b (join_at w₀ b).v)))
      ]

      -- Up to the near end the way is shown, by what is remembered.
      up-to-near : Linked (join_at w₀) (marked w) limit x near
      up-to-near = rw one.1 (linked_up limit way-low (shown-old o.shown (omega (arith, way-low, o.reach)) o.x-tag o.y-tag (joined_at o.holds way-low o.equal) q))

      apart-there : Joined (join_at w₀) b (join_at w₀ b).u (join_at w₀ b).v → ⊥
      apart-there = rw one.0 top.last.apart

      shown-then : Shown (join_at w₀) (marked w') o.top (label_of w')
      shown-then = shown-join (near-far R).0 (near-far R).1 F.labels (linked_up o.top (omega (arith, one.0, few, o.reach)) over-it)
          (shown-to refl (sym marked-then) (sym labels-first) (shown-mark E.marks apart-there o.shown))

      pub cross-way : OnWay w₀ w' limit s t far y₁ b m
      cross-way = record {
        kept = within-trans o.kept cross-kept;
        holds = o.holds;
        x-tag = (near-far R).1;
        y-tag = cross-known K;
        low = top.low';
        waiting = waiting-to (sym (next K)) (waiting-same (λ k l. nexts k (omega (arith, l, few, way-limit))) top.rest);
        under = omega (arith, one.0, top.last.older);
        equal = leaders-to (leader_at w₀) (sym one.0) (sym one.2) (sym (next K)) top.last.onto;
        linked = linked-trans (linked-more old (linked-trans o.linked up-to-near)) (linked_up limit (omega (arith, one.0, few)) over-it);
        top = o.top;
        reach = o.reach;
        shown = shown-then;
        needed = λ rs a. needed-to (sym one.2) (sym (next K)) (top.last.beyond rs a);
        more = λ a h. old a (o.more a h);
        fresh = λ a h. got a (mark-to now-marked a h) (ℕ_discrete a b);
      }
        where
          got : (a : ℕ) → T (put b true (marked w) a) → Dec (a ≡ b) → T (marked w₀ a) ⊎ ((a < limit) × ((rs : List Rec) → Needed rs (join_at w₀) (tags s t) a))
          got a h (yes z) = inr (omega (arith, z, one.0, few), λ rs. rw (z ∙ one.0) (top.last.itself rs o.low itself))
          got a h (no z) = o.fresh a (rw (put-miss b true (marked w) a z) at h)

      pub cross-falls : weight w' b m < weight w below n
      cross-falls =
          let p : pile (next_of w') m ≡ pile (next_of w) m = pile-same (next_of w) (next_of w') m (λ k l. nexts k (omega (arith, l, few, way-limit))) in
          let h : heft (age_in (next_of w m)) ≡ heft b = ap heft (entry-age R.age R.entry) in
          rw e (omega (arith, p, h, heft-some below))
