-- A place comes in, and the labels are closed again. Assumes nothing.
use Prim.Native.Nat.{ℕ, suc, ◌+◌, ◌-◌, ◌≤◌, ◌<◌}
use native.Mathlib.Omega.{arith}
use native.Mathlib.Decide.{ℕ_discrete, dec_lt}
use mathlib.Core.Path.{◌≡◌, refl, sym, ap, ◌∙◌}
use mathlib.Core.Logic.{◌≢◌, ◌⊎◌, inl, inr}
use mathlib.Core.Bool.{true≢false}
use mathlib.Core.List.Memᴰ
use mathlib.Core.List.{List, [], ◌∷◌, Memᴰ}
use lib.Dec.{eqb}
use lib.ListN.{set}
use borrow.Author.Tests.{eq-eqb, ne_eqb, eqb-true}
use Rattle.meaning.specs.Following.{Rec, eq, app, At, Follows, flip, chain, given, congruent}
use Rattle.meaning.specs.Joins.{put}
use Rattle.meaning.proofs.Close.{more}
use Rattle.meaning.proofs.Log.{put-hit, put-miss}
use Rattle.meaning.specs.Limits.{most_records, most_tags}
use Rattle.table.specs.Places.{EQUATION, FRONT, LABEL, MEMBER, QUEUE, TRAIL, add_part, all_of, before_halved, front_size}
use Rattle.table.specs.Map.{left_of, right_of, result_of, label_of, rec_at, records_in, Within, member_of, place_of, queue_of, trail_of}
use Rattle.table.proofs.Frame.{seen-in, seen-within, length-gather, get_or-gather, within-refl, within-trans, within_wider, within-set}
use Rattle.table.proofs.Kept.{lefts, rights, results, loaded-same, records-same}
use Rattle.table_labels.proofs.Rows.{at-rec, eq-parts, app-parts}
use Rattle.list_ways.specs.Halves.{Outside}
use Rattle.list_ways.specs.Rings.{Apart, none}
use Rattle.list_ways.specs.Adding.{Resting}
use Rattle.list_ways.proofs.Adding.{rest-add, rest-closed, decides}
use Rattle.list_ways.proofs.Rings.{grown-trail, grown-then, grown-up, grown-level}
use Rattle.list_rings.proofs.Linking.{standing-classes}
use Rattle.list_add.specs.State.{Filed, In, Rested}
use Rattle.list_add.specs.Adding.{Adding, Added}
use Rattle.list_add.specs.Waking.{Line, end, next, Waits}
use Rattle.list_add.specs.Busy.{InSet, App, Busy, Went}
use Rattle.list_add.proofs.Wakes.{uses-same, others_same}
use Rattle.list_add.proofs.Turns.{busy-idle}
use Rattle.list_add.proofs.Looks.{tags-of, labels_apart}

-- The record of a place that is in.
module _ {len n : ℕ} (w : List ℕ) (named : (j : ℕ) → j < n → place_of w j ≤ len) (in-named : (j : ℕ) → In w j → (j < n) × (place_of w j ≢ 0)) where
  at_place : (j : ℕ) (i : In w j) → At (records_in len w) (place_of w j) (rec_at w (place_of w j))
  at_place j i =
      let p = in-named j i in
      let l = named j p.0 in
      let e : suc (place_of w j - 1) ≡ place_of w j = omega (arith, p.1) in
      let h : place_of w j - 1 < len = omega (arith, p.1) in
      record { place = place_of w j - 1; number = sym e; stands = rw (length-gather (λ k. rec_at w (suc k)) len) h; is = get_or-gather (λ k. rec_at w (suc k)) len (place_of w j - 1) (eq 0 0) h ∙ ap (rec_at w) e }

  app-in : (j : ℕ) → App w j → InSet len n w (app (left_of w (place_of w j)) (right_of w (place_of w j)) (result_of w (place_of w j)))
  app-in j g = (place_of w j, (j, (in-named j g.0).0, g.0, refl), let z : rec_at w (place_of w j) ≡ app (left_of w (place_of w j)) (right_of w (place_of w j)) (result_of w (place_of w j)) = rw (ne_eqb (result_of w (place_of w j)) EQUATION g.1) in rw z at (at_place j g.0))

  eqn-in : (j : ℕ) → In w j → result_of w (place_of w j) ≡ EQUATION → InSet len n w (eq (left_of w (place_of w j)) (right_of w (place_of w j)))
  eqn-in j g q = (place_of w j, (j, (in-named j g).0, g, refl), let z : rec_at w (place_of w j) ≡ eq (left_of w (place_of w j)) (right_of w (place_of w j)) = rw (eq-eqb (result_of w (place_of w j)) EQUATION q) in rw z at (at_place j g))

-- Equations that are in are level.
abbrev pub Level : List ℕ → (ℕ → Type 0) → Type 0
Level w P = (j : ℕ) → P j → In w j → result_of w (place_of w j) ≡ EQUATION → label_of w (left_of w (place_of w j)) ≡ label_of w (right_of w (place_of w j))

pub rested-level : {N len n k : ℕ} {w : List ℕ} → Rested N len n w k → Level w (λ j. Unit {0})
rested-level {w = w} r j u i q = (r.exact _ _).1 (given (eqn-in w r.named r.in-named j i q))

pub went-level : {k k' : ℕ} {w w' : List ℕ} {P : ℕ → Type 0} → Went w w' k k' → Level w P → Level w' P
went-level {k} {k'} {w} {w'} g h j p i e = rw (lefts wide, rights wide, places) (grown-level g.since (h j p ((g.ins j).0 i) (rw (results wide, places) at e)))
  where
    wide : Within before_halved w w'
    wide = within_wider before_halved (omega arith) (omega arith) g.kept

    places : place_of w' ≡ place_of w
    places = seen-within FRONT g.kept (inl (omega arith))

-- What rests is busy with nothing.
pub rested-busy : {N len n k : ℕ} {w : List ℕ} → Rested N len n w k → Busy N len n w 0 0 k
rested-busy {N} {len} {n} {k} {w} r = record {
  loaded = r.loaded;
  short = r.short;
  named = r.named;
  standing = r.standing;
  filed = r.filed;
  in-named = r.in-named;
  sound = λ x. (r.exact x (label_of w x)).0 (sym ((standing-classes r.standing).flat x));
  resting = record { agree = λ i j p q u v s t. (r.exact _ _).1 (congruent (app-in w r.named r.in-named i p) (app-in w r.named r.in-named j q) ((r.exact _ _).0 s) ((r.exact _ _).0 t)) };
  waits-app = λ j h. absurd (omega (arith, r.idle j));
  last-low = omega arith;
  this = [];
  this-line = end refl;
  after = [];
  after_line = end refl;
  apart = λ j i m. Memᴰ.not-nil m;
  all = λ j h. absurd (omega (arith, r.idle j));
}

-- And back.
pub busy-rested : {N len n k : ℕ} {w : List ℕ} → Busy N len n w 0 0 k → Level w (λ j. Unit {0}) → Rested N len n w k
busy-rested {N} {len} {n} {k} {w} B level = record {
  loaded = B.loaded;
  short = B.short;
  named = B.named;
  standing = B.standing;
  filed = B.filed;
  idle = λ j. elim (dec_lt (queue_of w j) 2) [ yes l ↦ omega arith | no l ↦ absurd (busy-idle B j (omega arith)) ];
  in-named = B.in-named;
  exact = λ x y. decides B.sound (rest-closed (busy-idle B) equal apps B.resting) x y;
}
  where
    equal : (x y : ℕ) → InSet len n w (eq x y) → label_of w x ≡ label_of w y
    equal x y i =
        let j = i.1.0 in
        let p = eq-parts (eqb (result_of w (place_of w j)) EQUATION) (left_of w (place_of w j)) (right_of w (place_of w j)) (result_of w (place_of w j)) x y (rw i.1.3 (at-rec len w i.0 (eq x y) i.2)) in
        rw (← p.1, ← p.2) (level j tt i.1.2 (eqb-true _ _ p.0))

    apps : (x y z : ℕ) → InSet len n w (app x y z) → (j : ℕ) × App w j × (left_of w (place_of w j) ≡ x) × (right_of w (place_of w j) ≡ y) × (result_of w (place_of w j) ≡ z)
    apps x y z i =
        let j = i.1.0 in
        let p = app-parts (eqb (result_of w (place_of w j)) EQUATION) (left_of w (place_of w j)) (right_of w (place_of w j)) (result_of w (place_of w j)) x y z (rw i.1.3 (at-rec len w i.0 (app x y z) i.2)) in
        (j, (i.1.2, λ e. true≢false (sym (eq-eqb _ _ e) ∙ p.0.0)), p.0.1, p.1.0, p.1.1)

-- One place comes in.
module _ {N len n k i v : ℕ} {w w₁ : List ℕ} (r : Rested N len n w k) (l : i < n) (d : place_of w i ≢ 0) (o : queue_of w i ≡ 0) (s : w₁ ≡ set w (QUEUE.at + i) v) (nz : v ≢ 0) where
  B : Busy N len n w 0 0 k
  B = rested-busy r

  low : i < front_size
  low = omega (arith, r.short)

  pub come-kept : Within (all_of QUEUE) w w₁
  come-kept = rw s (within-set (all_of QUEUE) w (QUEUE.at + i) v (omega arith) (omega (arith, low)))

  wide : Within before_halved w w₁
  wide = within_wider before_halved (omega arith) (omega arith) come-kept

  queue : queue_of w₁ ≡ put i v (queue_of w)
  queue = rw s (seen-in QUEUE w i v low (omega (arith, r.standing.long, low)))

  pub come-hit : queue_of w₁ i ≡ v
  come-hit = rw queue (put-hit i v (queue_of w))

  pub come-miss : (j : ℕ) → j ≢ i → queue_of w₁ j ≡ queue_of w j
  come-miss j h = rw queue (put-miss i v (queue_of w) j h)

  pub come-labels : label_of w₁ ≡ label_of w
  come-labels = seen-within LABEL come-kept (inl (omega arith))

  pub come-members : member_of w₁ ≡ member_of w
  come-members = seen-within MEMBER come-kept (inl (omega arith))

  pub come-trail : trail_of w₁ ≡ trail_of w
  come-trail = seen-within TRAIL come-kept (inl (omega arith))

  pub come-places : place_of w₁ ≡ place_of w
  come-places = seen-within FRONT come-kept (inl (omega arith))

  on : (j : ℕ) → In w j → In w₁ j
  on j h = rw (come-miss j (λ q. h (ap (queue_of w) q ∙ o))) h

  old : (j : ℕ) → j ≢ i → In w₁ j → In w j
  old j q h = rw (come-miss j q) at h

  in-set : (q : Rec) → InSet len n w q → InSet len n w₁ q
  in-set q x = (x.0, (x.1.0, x.1.1, on x.1.0 x.1.2, rw come-places x.1.3), rw (records-same wide len) x.2)

  pub come-level : Level w₁ (λ j. j ≢ i)
  come-level j q h e = rw (come-labels, lefts wide, rights wide, come-places) (rested-level r j tt (old j q h) (rw (results wide, come-places) at e))

  filed : Filed n w₁
  filed = record {
    heads = λ b z. rw (uses-same come-kept b) (B.filed.heads b z);
    falls = λ b q. rw (others_same come-kept b) (B.filed.falls b q);
    head-app = λ b z. rw (uses-same come-kept b, results wide, come-places) (B.filed.head-app b z);
    next-app = λ b q. rw (others_same come-kept b, results wide, come-places) (B.filed.next-app b q);
    filed = λ b j. rw (uses-same come-kept b, others_same come-kept b, results wide, lefts wide, rights wide, come-places) (B.filed.filed b j);
  }

  in-named : (j : ℕ) → In w₁ j → (j < n) × (place_of w₁ j ≢ 0)
  in-named j h = rw come-places (elim (ℕ_discrete j i) [ yes q ↦ rw q (l, d) | no q ↦ r.in-named j (old j q h) ])

  no-waits : (j : ℕ) → Waits w₁ j → j ≡ i
  no-waits j h = elim (ℕ_discrete j i) [ yes q ↦ q | no q ↦ absurd (omega (arith, come-miss j q, r.idle j)) ]

  module _ (first : ℕ) (T : List ℕ) (line : Line (queue_of w₁) first T) (all : (j : ℕ) → Waits w₁ j → Memᴰ j T) (apps : Waits w₁ i → result_of w (place_of w i) ≢ EQUATION)
      (rest : Resting (App w₁) (Waits w₁) (λ j. left_of w (place_of w j)) (λ j. right_of w (place_of w j)) (λ j. result_of w (place_of w j)) (label_of w)) where
    come-busy : Busy N len n w₁ first 0 k
    come-busy = record {
      loaded = loaded-same wide r.loaded;
      short = r.short;
      named = rw come-places r.named;
      standing = record { long = omega (arith, come-kept.size, r.standing.long); built = rw (come-trail, come-labels, come-members) r.standing.built };
      filed = filed;
      in-named = in-named;
      sound = λ x. rw come-labels (more in-set (B.sound x));
      resting = rw (come-labels, lefts wide, rights wide, results wide, come-places) rest;
      waits-app = λ j h. let q = no-waits j h in rw (results wide, come-places, q) (apps (rw q at h));
      last-low = omega arith;
      this = T;
      this-line = line;
      after = [];
      after_line = end refl;
      apart = λ j x m. Memᴰ.not-nil m;
      all = λ j h. inl (all j h);
    }

  -- An application waits.
  pub come-application : v ≡ 2 → result_of w (place_of w i) ≢ EQUATION → Busy N len n w₁ (i + 1) 0 k
  come-application e a = come-busy (i + 1) (i ∷ []) (next {p = i + 1} {i = i} {L = []} (omega arith) (omega (arith, come-hit)) (end (omega (arith, come-hit)))) (λ j h. Memᴰ.head (no-waits j h)) (λ h. a)
      (rest-add i (λ j q h. (old j q h.0, rw (results wide, come-places) at h.1)) (λ j h. absurd (omega (arith, r.idle j))) (omega (arith, come-hit)) B.resting)

  -- An equation does not.
  pub come-equation : v ≡ 1 → result_of w (place_of w i) ≡ EQUATION → Busy N len n w₁ 0 0 k
  come-equation e a = come-busy 0 [] (end refl) (λ j h. absurd (idle j h)) (λ h. absurd (idle i h))
      (record { agree = λ x y p q u u' s t. B.resting.agree x y (back x p) (back y q) (λ h. omega (arith, r.idle x)) (λ h. omega (arith, r.idle y)) s t })
    where
      idle : (j : ℕ) → Waits w₁ j → ⊥
      idle j h = let q = no-waits j h in let z : queue_of w₁ j ≡ queue_of w₁ i = ap (queue_of w₁) q in omega (arith, come-hit)

      back : (j : ℕ) → App w₁ j → App w j
      back j p = let h : result_of w (place_of w j) ≢ EQUATION = rw (results wide, come-places) at p.1 in (old j (λ q. h (ap (λ (z : ℕ). result_of w (place_of w z)) q ∙ a)) p.0, h)

  -- What came in, closed.
  pub come-added : {k' : ℕ} {w' : List ℕ} → Went w₁ w' k k' → Rested N len n w' k' → Added N len n w w' i (suc i) k k'
  come-added {k'} {w'} g q = record {
    kept = within-trans (within_wider add_part (omega arith) (omega arith) come-kept) g.kept;
    steady = record { uses = λ b. g.steady.uses b ∙ uses-same come-kept b; others = λ b. g.steady.others b ∙ others_same come-kept b; trail = λ j x. g.steady.trail j x ∙ ap (λ (f : ℕ → ℕ). f j) come-trail };
    rested = q;
    since = rw (come-labels, come-members) at g.since;
    added = λ j x y z. (g.ins j).1 (let e : j ≡ i = omega arith in λ h. nz (sym come-hit ∙ sym (ap (queue_of w₁) e) ∙ h));
    else = λ j x. same j (apart j x);
  }
    where
      apart : (j : ℕ) → Outside i (suc i) j ⊎ (place_of w j ≡ 0) → j ≢ i
      apart j (inl (inl x)) e = omega arith
      apart j (inl (inr x)) e = omega arith
      apart j (inr x) e = d (sym (ap (place_of w) e) ∙ x)

      same : (j : ℕ) → j ≢ i → queue_of w' j ≡ queue_of w j
      same j x = go (ℕ_discrete (queue_of w j) 0) (ℕ_discrete (queue_of w' j) 0)
        where
          go : Dec (queue_of w j ≡ 0) → Dec (queue_of w' j ≡ 0) → queue_of w' j ≡ queue_of w j
          go (yes a) (yes b) = b ∙ sym a
          go (no a) (no b) = omega (arith, r.idle j, q.idle j)
          go (yes a) (no b) = absurd ((g.ins j).0 b (come-miss j x ∙ a))
          go (no a) (yes b) = absurd ((g.ins j).1 (rw (come-miss j x) a) b)

  module _ {k' : ℕ} {w' : List ℕ} (g : Went w₁ w' k k') (B' : Busy N len n w' 0 0 k') where
    wide' : Within before_halved w w'
    wide' = within-trans wide (within_wider before_halved (omega arith) (omega arith) g.kept)

    places' : place_of w' ≡ place_of w
    places' = seen-within FRONT g.kept (inl (omega arith)) ∙ come-places

    closed : Level w' (λ j. j ≡ i) → Added N len n w w' i (suc i) k k'
    closed h = come-added g (busy-rested B' (λ j u. elim (ℕ_discrete j i) [ yes q ↦ h j q | no q ↦ went-level g come-level j q ]))

    pub application-added : result_of w (place_of w i) ≢ EQUATION → Added N len n w w' i (suc i) k k'
    application-added a = closed (λ j q h e. absurd (a (rw (results wide', places', q) at e)))

    pub equation-added : label_of w' (left_of w (place_of w i)) ≡ label_of w' (right_of w (place_of w i)) → Added N len n w w' i (suc i) k k'
    equation-added a = closed (λ j q h e. rw (lefts wide', rights wide', places', q) a)

  -- What is read of it.
  pub side_left : {r x : ℕ} → r ≡ place_of w i → x ≡ left_of w₁ r → x ≡ left_of w (place_of w i)
  side_left p q = q ∙ rw (p, lefts wide) refl

  pub side_right : {r x : ℕ} → r ≡ place_of w i → x ≡ right_of w₁ r → x ≡ right_of w (place_of w i)
  side_right p q = q ∙ rw (p, rights wide) refl

  -- The two sides of an equation that came in.
  module _ (e : v ≡ 1) (a : result_of w (place_of w i) ≡ EQUATION) where
    pub equation-busy : Busy N len n w₁ 0 0 k
    equation-busy = come-equation e a

    in₁ : In w₁ i
    in₁ h = nz (sym come-hit ∙ h)

    pub equation-tags : (place_of w i ≤ most_records) × (left_of w (place_of w i) < most_tags) × (right_of w (place_of w i) < most_tags)
    equation-tags =
        let t = tags-of equation-busy i in₁ in
        let l : left_of w (place_of w i) < most_tags = rw (come-places, lefts wide) at t.1 in
        let r : right_of w (place_of w i) < most_tags = rw (come-places, rights wide) at t.2 in
        (rw come-places at t.0, l, r)

    module _ {x y : ℕ} (p : x ≡ label_of w₁ (left_of w (place_of w i))) (q : y ≡ label_of w₁ (right_of w (place_of w i))) where
      pub equation-apart : x ≢ y → Apart most_tags (label_of w₁) x y
      equation-apart d = labels_apart equation-busy _ _ equation-tags.1 equation-tags.2 p q d

      pub equation-follows : Follows (InSet len n w₁) x y
      equation-follows =
          let h : Follows (InSet len n w₁) (left_of w₁ (place_of w₁ i)) (right_of w₁ (place_of w₁ i)) = given (eqn-in w₁ equation-busy.named equation-busy.in-named i in₁ (rw (results wide, come-places) a)) in
          let g : Follows (InSet len n w₁) (left_of w (place_of w i)) (right_of w (place_of w i)) = rw (← lefts wide, ← rights wide, ← come-places) h in
          rw (p, q) (chain (flip (equation-busy.sound _)) (chain g (equation-busy.sound _)))

      -- Their labels are joined.
      pub equation-level : {k₂ k₃ : ℕ} {w₂ w₃ : List ℕ} → Went w₁ w₂ k k₂ → label_of w₂ x ≡ label_of w₂ y → Went w₂ w₃ k₂ k₃ → label_of w₃ (left_of w (place_of w i)) ≡ label_of w₃ (right_of w (place_of w i))
      equation-level {w₂ = w₂} g one h = grown-level h.since (side _ p ∙ one ∙ sym (side _ q))
        where
          side : {z : ℕ} (u : ℕ) → z ≡ label_of w₁ u → label_of w₂ u ≡ label_of w₂ z
          side u r = grown-level g.since (rw r (sym ((standing-classes equation-busy.standing).flat u)))

-- Nothing to add; and one after another.
pub added_none : {N len n i k : ℕ} {w : List ℕ} → Rested N len n w k → place_of w i ≡ 0 → Added N len n w w i (suc i) k k
added_none {i = i} {w = w} r e = record {
  kept = within-refl w;
  steady = record { uses = λ b. refl; others = λ b. refl; trail = λ j l. refl };
  rested = r;
  since = none refl refl refl;
  added = λ j x y z. absurd (z (let q : j ≡ i = omega arith in ap (place_of w) q ∙ e));
  else = λ j x. refl;
}

pub added-start : {N len n lo k : ℕ} {w : List ℕ} → Rested N len n w k → Added N len n w w lo lo k k
added-start {w = w} r = record { kept = within-refl w; steady = record { uses = λ b. refl; others = λ b. refl; trail = λ j l. refl }; rested = r; since = none refl refl refl; added = λ j x y z. absurd (omega arith); else = λ j x. refl }

pub added_then : {N len n lo i k k₁ k₂ : ℕ} {w w₁ w₂ : List ℕ} → lo ≤ i → Added N len n w w₁ lo i k k₁ → Added N len n w₁ w₂ i (suc i) k₁ k₂ → Added N len n w w₂ lo (suc i) k k₂
added_then {N} {len} {n} {lo} {i} {k} {k₁} {k₂} {w} {w₁} {w₂} l f g = record {
  kept = within-trans f.kept g.kept;
  steady = record { uses = λ b. g.steady.uses b ∙ f.steady.uses b; others = λ b. g.steady.others b ∙ f.steady.others b; trail = λ j h. g.steady.trail j (omega (arith, grown-up f.since)) ∙ f.steady.trail j h };
  rested = g.rested;
  since = grown-then (grown-trail g.steady.trail f.since) g.since;
  added = λ j x y z. added j x z (ℕ_discrete j i) y;
  else = λ j x. g.else j (next j x) ∙ f.else j (before j x);
}
  where
    places : place_of w₁ ≡ place_of w
    places = seen-within FRONT f.kept (inl (omega arith))

    added : (j : ℕ) → lo ≤ j → place_of w j ≢ 0 → Dec (j ≡ i) → j < suc i → In w₂ j
    added j x z (yes q) y = g.added j (omega arith) y (rw places z)
    added j x z (no q) y = let h : In w₁ j = f.added j x (omega arith) z in rw (g.else j (inl (inl (omega arith)))) h

    next : (j : ℕ) → Outside lo (suc i) j ⊎ (place_of w j ≡ 0) → Outside i (suc i) j ⊎ (place_of w₁ j ≡ 0)
    next j (inl (inl x)) = inl (inl (omega arith))
    next j (inl (inr x)) = inl (inr x)
    next j (inr x) = inr (rw places x)

    before : (j : ℕ) → Outside lo (suc i) j ⊎ (place_of w j ≡ 0) → Outside lo i j ⊎ (place_of w j ≡ 0)
    before j (inl (inl x)) = inl (inl x)
    before j (inl (inr x)) = inl (inr (omega arith))
    before j (inr x) = inr x

-- Where some were added, the next can be.
pub adding-one : {N len n lo hi i k k₁ : ℕ} {w w₁ : List ℕ} → Adding N len n w lo hi k → lo ≤ i → i < hi → Added N len n w w₁ lo i k k₁ → Adding N len n w₁ i (suc i) k₁
adding-one {i = i} a l m b = record { rested = b.rested; order = omega arith; top = omega (arith, a.top); outs = λ j x y. b.else j (inl (inr x)) ∙ a.outs j (omega arith) (omega arith) }
