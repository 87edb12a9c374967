-- What one half's round leaves: the labels come back, so what holds before it holds after it but for what was left out. Assumes nothing.
use Prim.Native.Nat.{ℕ, suc, ◌+◌, ◌-◌, ◌≤◌, ◌<◌}
use native.Mathlib.Omega.{arith}
use native.Mathlib.Decide.{dec_lt}
use mathlib.Core.Path.{◌≡◌, refl, sym, ap, ◌∙◌, fun_ext}
use mathlib.Core.Logic.{◌≢◌, ◌⊎◌, inl, inr}
use mathlib.Core.Bool.{Bool, true, false, true≢false}
use mathlib.Core.List.{List, ◌++◌}
use lib.Dec.{eqb}
use lib.ListN.{length, take, drop}
use borrow.Author.Tests.{eq-eqb, eqb-true}
use Rattle.meaning.specs.Following.{Rec, Those}
use Rattle.meaning.proofs.Close.{more}
use Rattle.meaning.specs.Limits.{most_tags}
use Rattle.table.specs.Places.{ENDS, EQUATION, FRONT, LABEL, LIST, Large, MEMBER, Part, QUEUE, TRAIL, add_part, before_at, before_halved, end_at, from_to, front_size, halve_part, plain}
use Rattle.table.specs.Map.{seen, result_of, label_of, records_in, Within, before_of, end_of, member_of, place_of, queue_of, trail_of}
use Rattle.table_labels.specs.Parts.{Fills}
use Rattle.table_labels.proofs.Views.{lent-within, lent_at}
use Rattle.table.proofs.Frame.{ends-between, seen_at, seen-past, seen-within, within-refl, within-trans, within_wider}
use Rattle.table.proofs.Kept.{lefts, rights, results, loaded-same, records-same}
use Rattle.list_ways.specs.Halves.{Picked, Outside, Every}
use Rattle.list_ways.proofs.Halves.{halved_none, halved-one, halved_both}
use Rattle.list_ways.proofs.Rings.{grown-trail, grown-up}
use Rattle.list_rings.specs.Links.{Since, Standing, Returned}
use Rattle.list_add.specs.State.{Filed, In, Rested}
use Rattle.list_add.specs.Adding.{Steady, Adding, Added}
use Rattle.list_add.specs.Filing.{Listing, Begun}
use Rattle.list_halve.specs.Halving.{Backed, Ready, Done, Blanked, Sifting, Sifted, Entailing}

-- What the library leaves where a part of a region is filled with noughts.
module _ {at lo hi : ℕ} (w w' v : List ℕ) (long : Large w) (a : at ≤ QUEUE.at) (l : lo ≤ hi) (m : hi ≤ front_size) (s : length v ≡ length (take (at + hi - (at + lo)) (drop (at + lo) w)))
    (e : w' ≡ take (at + lo) w ++ (v ++ drop (at + hi - (at + lo)) (drop (at + lo) w))) (h : Fills v 0) where
  abbrev size : ℕ
  size = at + hi - (at + lo)

  frame : Within (from_to (at + lo) (at + lo + size)) w w'
  frame = lent-within (at + lo) size w w' v (omega arith) s e

  pub blanked : Blanked at w w' lo hi
  blanked = record { kept = within_wider (from_to at (at + front_size)) (omega arith) (omega arith) frame; outs = outs; else = λ i o. other i o (dec_lt i front_size) }
    where
      outs : (i : ℕ) → lo ≤ i → i < hi → seen (plain at front_size) w' i ≡ 0
      outs i x y =
          let q : at + i ≡ at + lo + (i - lo) = omega arith in
          seen_at (plain at front_size) w' i (omega arith) ∙ rw q (lent_at (at + lo) size w w' v (omega arith) s e (λ j. 0) h (i - lo) (omega arith))

      side : (i : ℕ) → Outside lo hi i → (at + i < at + lo) ⊎ (at + lo + size ≤ at + i)
      side i (inl o) = inl (omega arith)
      side i (inr o) = inr (omega arith)

      other : (i : ℕ) → Outside lo hi i → Dec (i < front_size) → seen (plain at front_size) w' i ≡ seen (plain at front_size) w i
      other i o (yes k) = seen_at (plain at front_size) w' i k ∙ frame.same (at + i) (side i o) ∙ sym (seen_at (plain at front_size) w i k)
      other i o (no k) = seen-past (plain at front_size) w' i (omega arith) ∙ sym (seen-past (plain at front_size) w i (omega arith))

-- Regions that a frame leaves.
module _ {r : Part} {w w' : List ℕ} (f : Within r w w') where
  uses-out : (QUEUE.at ≤ r.from) ⊎ (r.upto ≤ ENDS.at) → (b : Bool) → (end_of b w' ≡ end_of b w) × (before_of b w' ≡ before_of b w)
  uses-out (inl l) b = let k = ends-between b in (seen-within (plain (end_at b) most_tags) f (inl (omega (arith, k.1))), seen-within (plain (before_at b) front_size) f (inl (omega (arith, k.3))))
  uses-out (inr l) b = let k = ends-between b in (seen-within (plain (end_at b) most_tags) f (inr (omega (arith, k.0))), seen-within (plain (before_at b) front_size) f (inr (omega (arith, k.2))))

pub steady-trans : {k k' : ℕ} {w w₁ w₂ : List ℕ} → k ≤ k' → Steady k w w₁ → Steady k' w₁ w₂ → Steady k w w₂
steady-trans l f g = record { uses = λ b. g.uses b ∙ f.uses b; others = λ b. g.others b ∙ f.others b; trail = λ j i. g.trail j (omega arith) ∙ f.trail j i }

-- Going back.
pub backed : {w w₁ w₂ : List ℕ} {lo hi k j : ℕ} → Blanked QUEUE.at w w₁ lo hi → Returned w₁ w₂ k j → Backed w w₂ lo hi k j
backed {w} {w₁} {w₂} {lo} {hi} {k} {j} b r = record {
  kept = within-trans (within_wider add_part (omega arith) (omega arith) b.kept) (within_wider add_part (omega arith) (omega arith) r.kept);
  steady = record {
    uses = λ c. (uses-out r.kept (inr (omega arith)) c).0 ∙ (uses-out b.kept (inl (omega arith)) c).0;
    others = λ c. (uses-out r.kept (inr (omega arith)) c).1 ∙ (uses-out b.kept (inl (omega arith)) c).1;
    trail = λ i l. ap (λ (f : ℕ → ℕ). f i) (seen-within TRAIL r.kept (inr (omega arith)) ∙ trails);
  };
  outs = λ i x y. rw queue (b.outs i x y);
  else = λ i o. rw queue (b.else i o);
  back = λ w₀ s g. r.back w₀ s (rw (trails, labels, members) g);
}
  where
    trails : trail_of w₁ ≡ trail_of w
    trails = seen-within TRAIL b.kept (inl (omega arith))

    labels : label_of w₁ ≡ label_of w
    labels = seen-within LABEL b.kept (inl (omega arith))

    members : member_of w₁ ≡ member_of w
    members = seen-within MEMBER b.kept (inl (omega arith))

    queue : queue_of w₂ ≡ queue_of w₁
    queue = seen-within QUEUE r.kept (inr (omega arith))

pub blank-standing : {w w₁ : List ℕ} {lo hi j : ℕ} → Standing w j → Blanked QUEUE.at w w₁ lo hi → Standing w₁ j
blank-standing {w} {w₁} s b = record {
  long = omega (arith, b.kept.size, s.long);
  built = rw (seen-within TRAIL b.kept (inl (omega arith)), seen-within LABEL b.kept (inl (omega arith)), seen-within MEMBER b.kept (inl (omega arith))) s.built;
}

-- What holds at rest holds where labels, rings, queue and uses are the same and some that are out were left out.
module _ {N len n k lo hi : ℕ} {w w' : List ℕ} (r : Rested N len n w k) (f : Within halve_part w w') (st : Steady k w w') (labels : label_of w' ≡ label_of w) (members : member_of w' ≡ member_of w) (queue : queue_of w' ≡ queue_of w)
    (same : (j : ℕ) → Outside lo hi j → place_of w' j ≡ place_of w j) (fewer : (j : ℕ) → (place_of w' j ≡ place_of w j) ⊎ (place_of w' j ≡ 0)) (outs : (j : ℕ) → lo ≤ j → j < hi → queue_of w j ≡ 0) where
  wide : Within before_halved w w'
  wide = within_wider before_halved (omega arith) (omega arith) f

  -- A place that is in is outside.
  in-out : (j : ℕ) → In w j → Outside lo hi j
  in-out j i = elim (dec_lt j lo) [
    | yes l ↦ inl l
    | no l ↦ elim (dec_lt j hi) [ yes m ↦ absurd (i (outs j (omega arith) m)) | no m ↦ inr (omega arith) ]
  ]

  still : (j : ℕ) → place_of w' j ≢ 0 → place_of w' j ≡ place_of w j
  still j d = go (fewer j)
    where
      go : (place_of w' j ≡ place_of w j) ⊎ (place_of w' j ≡ 0) → place_of w' j ≡ place_of w j
      go (inl e) = e
      go (inr e) = absurd (d e)

  app-still : (j : ℕ) → (place_of w j ≢ 0 → result_of w (place_of w j) ≢ EQUATION) → place_of w' j ≢ 0 → result_of w' (place_of w' j) ≢ EQUATION
  app-still j h d = rw (results wide, still j d) (h (rw (still j d) at d))

  filed : Filed n w'
  filed = record {
    heads = λ b x. rw (st.uses b) (r.filed.heads b x);
    falls = λ b x. rw (st.others b) (r.filed.falls b x);
    head-app = λ b x l d. app-still (end_of b w' x - 1) (rw (st.uses b) (r.filed.head-app b x (rw (st.uses b) at l))) d;
    next-app = λ b x l d. app-still (before_of b w' x - 1) (rw (st.others b) (r.filed.next-app b x (rw (st.others b) at l))) d;
    filed = λ b i l d e. rw (st.uses b, st.others b, lefts wide, rights wide, still i d) (r.filed.filed b i l (rw (still i d) at d) (rw (results wide, still i d) at e));
  }

  pub rested-still : Rested N len n w' k
  rested-still = record {
    loaded = loaded-same wide r.loaded;
    short = r.short;
    named = λ j l. low j l (fewer j);
    standing = record { long = omega (arith, f.size, r.standing.long); built = rw (labels, members) (grown-trail st.trail r.standing.built) };
    filed = filed;
    idle = rw queue r.idle;
    in-named = λ j i. let p = r.in-named j (rw queue at i) in (p.0, rw (same j (in-out j (rw queue at i))) p.1);
    exact = λ x y. rw (labels, records-same wide len) ((λ e. more there ((r.exact x y).0 e)), λ h. (r.exact x y).1 (more back h));
  }
    where
      low : (j : ℕ) → j < n → (place_of w' j ≡ place_of w j) ⊎ (place_of w' j ≡ 0) → place_of w' j ≤ len
      low j l (inl e) = rw e (r.named j l)
      low j l (inr e) = rw e (omega arith)

      there : (q : Rec) → Those (records_in len w) (Picked (place_of w) n (In w)) q → Those (records_in len w) (Picked (place_of w') n (In w')) q
      there q i = (i.0, (i.1.0, i.1.1, rw queue i.1.2, same i.1.0 (in-out i.1.0 i.1.2) ∙ i.1.3), i.2)

      back : (q : Rec) → Those (records_in len w) (Picked (place_of w') n (In w')) q → Those (records_in len w) (Picked (place_of w) n (In w)) q
      back q i = let z : In w i.1.0 = rw queue at i.1.2 in (i.0, (i.1.0, i.1.1, z, sym (same i.1.0 (in-out i.1.0 z)) ∙ i.1.3), i.2)

-- Of the places lo..hi, a..b are added and c..d are halved.
pub record Parts (lo hi a b c d : ℕ) : Type 0 where
  pub add-order : a ≤ b
  pub add_low : lo ≤ a
  pub add-top : b ≤ hi
  pub order : c ≤ d
  pub low : lo ≤ c
  pub top : d ≤ hi
  pub apart : (j : ℕ) → c ≤ j → j < d → Outside a b j
  pub cover : (j : ℕ) → Outside c d j → Outside lo hi j ⊎ ((a ≤ j) × (j < b))

pub parts_first : {lo mid hi : ℕ} → lo < mid → mid < hi → Parts lo hi lo mid mid hi
parts_first {lo} {mid} {hi} l m = record {
  add-order = omega arith;
  add_low = omega arith;
  add-top = omega arith;
  order = omega arith;
  low = omega arith;
  top = omega arith;
  apart = λ j x y. inr x;
  cover = λ j o. go j o (dec_lt j lo);
}
  where
    go : (j : ℕ) → Outside mid hi j → Dec (j < lo) → Outside lo hi j ⊎ ((lo ≤ j) × (j < mid))
    go j o (yes x) = inl (inl x)
    go j (inl o) (no x) = inr (omega arith, o)
    go j (inr o) (no x) = inl (inr o)

pub parts-second : {lo mid hi : ℕ} → lo < mid → mid < hi → Parts lo hi mid hi lo mid
parts-second {lo} {mid} {hi} l m = record {
  add-order = omega arith;
  add_low = omega arith;
  add-top = omega arith;
  order = omega arith;
  low = omega arith;
  top = omega arith;
  apart = λ j x y. inl y;
  cover = λ j o. go j o (dec_lt j hi);
}
  where
    go : (j : ℕ) → Outside lo mid j → Dec (j < hi) → Outside lo hi j ⊎ ((mid ≤ j) × (j < hi))
    go j (inl o) x = inl (inl o)
    go j (inr o) (yes x) = inr (o, x)
    go j (inr o) (no x) = inl (inr (omega arith))

outer : {lo hi a b : ℕ} → lo ≤ a → b ≤ hi → (j : ℕ) → Outside lo hi j → Outside a b j
outer l m j (inl o) = inl (omega arith)
outer l m j (inr o) = inr (omega arith)

pub adding-of : {N len n s t lo hi a b c d k : ℕ} {w : List ℕ} → Parts lo hi a b c d → Ready N len n s t w lo hi k → Adding N len n w a b k
adding-of p r = record {
  rested = r.adding.rested;
  order = p.add-order;
  top = omega (arith, p.add-top, r.adding.top);
  outs = λ j x y. r.adding.outs j (omega (arith, p.add_low)) (omega (arith, p.add-top));
}

-- After an addition the other part can be halved.
module _ {N len n s t lo hi a b c d k k₁ : ℕ} {w w₁ : List ℕ} (p : Parts lo hi a b c d) (r : Ready N len n s t w lo hi k) (A : Added N len n w w₁ a b k k₁) where
  places₁ : place_of w₁ ≡ place_of w
  places₁ = seen-within FRONT A.kept (inl (omega arith))

  records₁ : records_in len w₁ ≡ records_in len w
  records₁ = records-same (within_wider before_halved (omega arith) (omega arith) A.kept) len

  pub ready-add : Ready N len n s t w₁ c d k₁
  ready-add = record {
    adding = record {
      rested = A.rested;
      order = p.order;
      top = omega (arith, p.top, r.adding.top);
      outs = λ j x y. A.else j (inl (p.apart j x y)) ∙ r.adding.outs j (omega (arith, p.low)) (omega (arith, p.top));
    };
    ins = λ j l o x. ins j l x (p.cover j o);
    entails = rw (records₁, places₁) r.entails;
    s-tag = r.s-tag;
    t-tag = r.t-tag;
  }
    where
      ins : (j : ℕ) → j < n → place_of w₁ j ≢ 0 → Outside lo hi j ⊎ ((a ≤ j) × (j < b)) → In w₁ j
      ins j l x (inr i) = A.added j i.0 i.1 (rw places₁ at x)
      ins j l x (inl o) = rw (A.else j (inl (outer p.add_low p.add-top j o))) (r.ins j l o (rw places₁ at x))

  -- Then the labels come back.
  module _ {w₂ : List ℕ} (D : Done len n s t w₁ w₂ c d k₁) where
    pub done-standing : Standing w₂ k₁
    done-standing = record {
      long = omega (arith, D.kept.size, A.rested.standing.long);
      built = rw (D.labels, D.members) (grown-trail D.steady.trail A.rested.standing.built);
    }

    pub done-up : k ≤ k₁
    done-up = grown-up A.since

    module _ {w₃ : List ℕ} (B : Backed w₂ w₃ a b k k₁) where
      since : Since (trail_of w₂) k w k₁ w₂
      since = rw (D.labels, D.members) (grown-trail D.steady.trail A.since)

      pub round-done : Done len n s t w w₃ c d k
      round-done = record {
        kept = within-trans (within_wider halve_part (omega arith) (omega arith) A.kept) (within-trans D.kept (within_wider halve_part (omega arith) (omega arith) B.kept));
        steady = steady-trans (omega arith) (steady-trans done-up A.steady D.steady) B.steady;
        labels = (B.back w r.adding.rested.standing since).0;
        members = (B.back w r.adding.rested.standing since).1;
        queue = fun_ext (λ j. queue j (dec_lt j a) (dec_lt j b));
        halved = rw (seen-within FRONT B.kept (inl (omega arith))) (rw (records₁, places₁) at D.halved);
      }
        where
          far : (j : ℕ) → Outside a b j → queue_of w₃ j ≡ queue_of w j
          far j o = B.else j o ∙ ap (λ (f : ℕ → ℕ). f j) D.queue ∙ A.else j (inl o)

          queue : (j : ℕ) → Dec (j < a) → Dec (j < b) → queue_of w₃ j ≡ queue_of w j
          queue j (yes x) y = far j (inl x)
          queue j (no x) (no y) = far j (inr (omega arith))
          queue j (no x) (yes y) = B.outs j (omega arith) y ∙ sym (r.adding.outs j (omega (arith, p.add_low)) (omega (arith, p.add-top)))

-- After one half, what the other half needs.
pub ready-done : {N len n s t lo hi c d k : ℕ} {w w' : List ℕ} → lo ≤ c → d ≤ hi → Ready N len n s t w lo hi k → Done len n s t w w' c d k → Ready N len n s t w' lo hi k
ready-done {N} {len} {n} {s} {t} {lo} {hi} {c} {d} {k} {w} {w'} l m r D = record {
  adding = record {
    rested = rested-still {lo = c} {hi = d} r.adding.rested D.kept D.steady D.labels D.members D.queue D.halved.same D.halved.fewer (λ j x y. r.adding.outs j (omega arith) (omega arith));
    order = r.adding.order;
    top = r.adding.top;
    outs = rw D.queue r.adding.outs;
  };
  ins = λ j x o y. rw D.queue (r.ins j x o (λ e. y (still j e (D.halved.fewer j))));
  entails = rw (records-same (within_wider before_halved (omega arith) (omega arith) D.kept) len) D.halved.entails;
  s-tag = r.s-tag;
  t-tag = r.t-tag;
}
  where
    still : (j : ℕ) → place_of w j ≡ 0 → (place_of w' j ≡ place_of w j) ⊎ (place_of w' j ≡ 0) → place_of w' j ≡ 0
    still j e (inl q) = q ∙ e
    still j e (inr q) = q

pub done-both : {len n s t lo mid hi k : ℕ} {w w₁ w₂ : List ℕ} → lo ≤ mid → mid ≤ hi → Done len n s t w w₁ mid hi k → Done len n s t w₁ w₂ lo mid k → Done len n s t w w₂ lo hi k
done-both {len} l m g h = record {
  kept = within-trans g.kept h.kept;
  steady = steady-trans (omega arith) g.steady h.steady;
  labels = h.labels ∙ g.labels;
  members = h.members ∙ g.members;
  queue = h.queue ∙ g.queue;
  halved = halved_both l m g.halved (rw (records-same (within_wider before_halved (omega arith) (omega arith) g.kept) len) at h.halved);
}

-- All of lo..hi goes; and one stays.
module _ {N len n s t lo hi k : ℕ} {w : List ℕ} (r : Ready N len n s t w lo hi k) where
  inner : (j : ℕ) → In w j → Outside lo hi j
  inner j i = elim (dec_lt j lo) [
    | yes l ↦ inl l
    | no l ↦ elim (dec_lt j hi) [ yes m ↦ absurd (i (r.adding.outs j (omega arith) m)) | no m ↦ inr (omega arith) ]
  ]

  there : (q : Rec) → Those (records_in len w) (Picked (place_of w) n (In w)) q → Those (records_in len w) (Picked (place_of w) n (Outside lo hi)) q
  there q i = (i.0, (i.1.0, i.1.1, inner i.1.0 i.1.2, i.1.3), i.2)

  back : (q : Rec) → Those (records_in len w) (Picked (place_of w) n (Outside lo hi)) q → Those (records_in len w) (Picked (place_of w) n (In w)) q
  back q i = (i.0, (i.1.0, i.1.1, r.ins i.1.0 i.1.1 i.1.2 (λ e. omega (arith, i.1.3, i.2.number)), i.1.3), i.2)

  pub done_none : {w' : List ℕ} {a : Bool} → a ≡ eqb (label_of w s) (label_of w t) → a ≡ true → Blanked LIST.at w w' lo hi → Done len n s t w w' lo hi k
  done_none {w'} {a} q e b = record {
    kept = within_wider halve_part (omega arith) (omega arith) b.kept;
    steady = record {
      uses = λ c. (uses-out b.kept (inr (omega arith)) c).0;
      others = λ c. (uses-out b.kept (inr (omega arith)) c).1;
      trail = λ j l. ap (λ (f : ℕ → ℕ). f j) (seen-within TRAIL b.kept (inr (omega arith)));
    };
    labels = seen-within LABEL b.kept (inr (omega arith));
    members = seen-within MEMBER b.kept (inr (omega arith));
    queue = seen-within QUEUE b.kept (inr (omega arith));
    halved = halved_none b.else b.outs (more there ((r.adding.rested.exact s t).0 (eqb-true _ _ (sym q ∙ e))));
  }

  pub done-one : {a : Bool} → a ≡ eqb (label_of w s) (label_of w t) → a ≡ false → hi ≤ suc lo → Done len n s t w w lo hi k
  done-one {a} q e l = record {
    kept = within-refl w;
    steady = record { uses = λ c. refl; others = λ c. refl; trail = λ j i. refl };
    labels = refl;
    members = refl;
    queue = refl;
    halved = halved-one l r.entails (λ h. true≢false (sym (eq-eqb _ _ ((r.adding.rested.exact s t).1 (more back h))) ∙ sym q ∙ e));
  }

-- From the start to the end.
module _ {N len n s t : ℕ} {w w₁ : List ℕ} (S : Sifting N len n s t w) (B : Begun N len n w w₁) where
  begun-records : records_in len w₁ ≡ records_in len w
  begun-records = records-same (within_wider before_halved (omega arith) (omega arith) B.kept) len

  begun-places : place_of w₁ ≡ place_of w
  begun-places = seen-within FRONT B.kept (inl (omega arith))

  pub sift-ready : Ready N len n s t w₁ 0 n 0
  sift-ready = record {
    adding = record { rested = B.rested; order = omega arith; top = omega arith; outs = λ j x y. B.outs j };
    ins = λ j l o. absurd (inside j l o);
    entails = rw (begun-records, begun-places) S.entails;
    s-tag = S.s-tag;
    t-tag = S.t-tag;
  }
    where
      inside : (j : ℕ) → j < n → Outside 0 n j → ⊥
      inside j l (inl o) = omega arith
      inside j l (inr o) = omega arith

  pub sifted : {w₂ : List ℕ} → Done len n s t w₁ w₂ 0 n 0 → Sifted len n s t w w₂
  sifted D = record { kept = within-trans (within_wider halve_part (omega arith) (omega arith) B.kept) D.kept; halved = rw (begun-records, begun-places) at D.halved }

-- All places are in: the labels tell what they entail.
pub entailing : {N len n s t k : ℕ} {w w₁ w₂ : List ℕ} {answer : Bool} → Listing N len n w → Begun N len n w w₁ → Added N len n w₁ w₂ 0 n 0 k → answer ≡ eqb (label_of w₂ s) (label_of w₂ t) → Entailing len n s t w w₂ answer
entailing {N} {len} {n} {s} {t} {k} {w} {w₁} {w₂} {answer} L B A q = record {
  kept = whole;
  exact = ((λ e. more there ((A.rested.exact s t).0 (eqb-true _ _ (sym q ∙ e)))), λ f. q ∙ eq-eqb _ _ ((A.rested.exact s t).1 (more back f)));
}
  where
    whole : Within add_part w w₂
    whole = within-trans B.kept A.kept

    places : place_of w₂ ≡ place_of w
    places = seen-within FRONT whole (inl (omega arith))

    places₁ : place_of w₁ ≡ place_of w
    places₁ = seen-within FRONT B.kept (inl (omega arith))

    records : records_in len w₂ ≡ records_in len w
    records = records-same (within_wider before_halved (omega arith) (omega arith) whole) len

    there : (r : Rec) → Those (records_in len w₂) (Picked (place_of w₂) n (In w₂)) r → Those (records_in len w) (Picked (place_of w) n Every) r
    there r i = (i.0, (i.1.0, i.1.1, tt, rw places at i.1.3), rw records at i.2)

    back : (r : Rec) → Those (records_in len w) (Picked (place_of w) n Every) r → Those (records_in len w₂) (Picked (place_of w₂) n (In w₂)) r
    back r i = (i.0, (i.1.0, i.1.1, A.added i.1.0 (omega arith) i.1.1 (λ e. omega (arith, (L.named i.1.0 i.1.1).0, ap (λ (f : ℕ → ℕ). f i.1.0) places₁)), rw places i.1.3), rw records i.2)
