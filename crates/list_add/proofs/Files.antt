-- Applications are filed one by one: links only fall, so a list that begins at a later place leads through the one that was. Assumes nothing.
use Prim.Native.Nat.{ℕ, suc, ◌+◌, ◌-◌, ◌≤◌, ◌<◌}
use native.Mathlib.Omega.{arith}
use native.Mathlib.Numerals.{add-one}
use native.Mathlib.Decide.{ℕ_discrete}
use mathlib.Core.Path.{◌≡◌, refl, sym, ap, ◌∙◌}
use mathlib.Core.Logic.{◌≢◌, ◌⊎◌, inl, inr}
use mathlib.Core.Bool.{Bool, true, false, not}
use mathlib.Core.List.Memᴰ
use mathlib.Core.List.{List, [], ◌++◌}
use lib.ListN.{length, get_or, set, take, drop, length-set}
use Rattle.meaning.specs.Following.{same}
use Rattle.meaning.specs.Joins.{put}
use Rattle.meaning.proofs.Log.{put-hit, put-miss}
use Rattle.meaning.proofs.Reference.{Small}
use Rattle.meaning.specs.Limits.{most_records, most_tags}
use Rattle.table.specs.Places.{BEFORE, ENDS, EQUATION, FRONT, LABEL, Large, MEMBER, PRIOR, Part, QUEUE, Region, TAILS, TRAIL, WEIGHT, add_part, all_of, before_at, before_halved, end_at, front_size, plain, uses_part, wipe_part}
use Rattle.table.specs.Map.{seen, left_of, right_of, result_of, label_of, rec_at, Within, before_of, end_of, place_of}
use Rattle.table.proofs.Frame.{ends-between, seen-in, seen-out, seen-within, within-trans, within_wider, within-set}
use Rattle.table.proofs.Kept.{lefts, rights, results, loaded-same}
use Rattle.table_labels.specs.Parts.{Fills}
use Rattle.table_labels.proofs.Views.{lent-within, lent_at, seen-zero}
use Rattle.list_ways.proofs.Rings.{grown-none}
use Rattle.list_rings.specs.Links.{Standing, Scattered}
use Rattle.list_add.specs.State.{arg_of, On, here, later, Rested}
use Rattle.list_add.specs.Waking.{end}
use Rattle.list_add.specs.Busy.{Busy}
use Rattle.list_add.specs.Filing.{Used, Listing, Lists, Filing, Wiped, Begun}
use Rattle.list_add.proofs.Looks.{small-tags}
use Rattle.list_add.proofs.Adds.{busy-rested}

-- A link that is put in leaves the lists from earlier places alone.
on-put : {o : ℕ → ℕ} {i j p : ℕ} (v : ℕ) → ((r : ℕ) → o r ≤ r) → p ≤ i → On o j p → On (put i v o) j p
on-put v f l (here e) = here e
on-put {o} {i} {j} {p} v f l (later {r = r} e t) = later {p = p} {r = r} e (rw (put-miss i v o r (λ q. omega arith)) (on-put v f (omega (arith, f r)) t))

lists-skip : {i : ℕ} {u o g : ℕ → ℕ} {A : ℕ → Type 0} → (A i → ⊥) → Lists i u o A g → Lists (suc i) u o A g
lists-skip {i} {u} {o} {g} {A} d l = record { heads = λ x. omega (arith, l.heads x); falls = l.falls; head-app = l.head-app; next-app = l.next-app; filed = λ j h a. go j h a (ℕ_discrete j i) }
  where
    go : (j : ℕ) → j < suc i → A j → Dec (j ≡ i) → On o j (u (g j))
    go j h a (yes e) = absurd (d (rw e at a))
    go j h a (no e) = l.filed j (omega arith) a

lists-more : {i : ℕ} {u o g : ℕ → ℕ} {A : ℕ → Type 0} → A i → Lists i u o A g → Lists (suc i) (put (g i) (suc i) u) (put i (u (g i)) o) A g
lists-more {i} {u} {o} {g} {A} a l = record {
  heads = λ x. heads x (ℕ_discrete x (g i));
  falls = λ r. falls r (ℕ_discrete r i);
  head-app = λ x. head-app x (ℕ_discrete x (g i));
  next-app = λ r. next-app r (ℕ_discrete r i);
  filed = λ j h b. filed j h b (ℕ_discrete j i) (ℕ_discrete (g j) (g i));
}
  where
    u' : ℕ → ℕ
    u' = put (g i) (suc i) u

    o' : ℕ → ℕ
    o' = put i (u (g i)) o

    heads : (x : ℕ) → Dec (x ≡ g i) → u' x ≤ suc i
    heads x (yes e) = let z : u' x ≡ suc i = rw e (put-hit (g i) (suc i) u) in omega arith
    heads x (no e) = let z : u' x ≡ u x = put-miss (g i) (suc i) u x e in omega (arith, l.heads x)

    falls : (r : ℕ) → Dec (r ≡ i) → o' r ≤ r
    falls r (yes e) = let z : o' r ≡ u (g i) = rw e (put-hit i (u (g i)) o) in omega (arith, l.heads (g i))
    falls r (no e) = let z : o' r ≡ o r = put-miss i (u (g i)) o r e in omega (arith, l.falls r)

    head-app : (x : ℕ) → Dec (x ≡ g i) → 0 < u' x → A (u' x - 1)
    head-app x (yes e) h = let z : u' x ≡ suc i = rw e (put-hit (g i) (suc i) u) in let y : u' x - 1 ≡ i = omega arith in rw y a
    head-app x (no e) h = let z : u' x ≡ u x = put-miss (g i) (suc i) u x e in rw z (l.head-app x (omega arith))

    next-app : (r : ℕ) → Dec (r ≡ i) → 0 < o' r → A (o' r - 1)
    next-app r (yes e) h = let z : o' r ≡ u (g i) = rw e (put-hit i (u (g i)) o) in rw z (l.head-app (g i) (omega arith))
    next-app r (no e) h = let z : o' r ≡ o r = put-miss i (u (g i)) o r e in rw z (l.next-app r (omega arith))

    filed : (j : ℕ) → j < suc i → A j → Dec (j ≡ i) → Dec (g j ≡ g i) → On o' j (u' (g j))
    filed j h b (yes e) d = let z : u' (g j) ≡ suc j = rw e (put-hit (g i) (suc i) u) in rw z (here refl)
    filed j h b (no e) (yes d) =
        let z : u' (g j) ≡ suc i = rw d (put-hit (g i) (suc i) u) in
        let y : o' i ≡ u (g j) = put-hit i (u (g i)) o ∙ ap u (sym d) in
        rw z (later {p = suc i} {r = i} refl (rw y (on-put (u (g i)) l.falls (l.heads (g j)) (l.filed j (omega arith) b))))
    filed j h b (no e) (no d) = let z : u' (g j) ≡ u (g j) = put-miss (g i) (suc i) u (g j) d in rw z (on-put (u (g i)) l.falls (l.heads (g j)) (l.filed j (omega arith) b))

-- In the table, for either argument.
module _ {i x p : ℕ} (b : Bool) (w : List ℕ) (long : Large w) (lx : x < most_tags) (li : i < front_size) (e : p ≡ end_of b w x) where
  abbrev w₁ : List ℕ
  w₁ = set w (before_at b + i) p

  abbrev w₂ : List ℕ
  w₂ = set (set w (before_at b + i) p) (end_at b + x) (suc i)

  kept : Within uses_part w w₂
  kept = let k = ends-between b in within-trans (within-set uses_part w (before_at b + i) p (omega (arith, k.2)) (omega (arith, k.3))) (within-set uses_part w₁ (end_at b + x) (suc i) (omega (arith, k.0)) (omega (arith, k.1)))

  long₁ : length w₁ ≡ length w
  long₁ = length-set w (before_at b + i) p

  both : (r : Region) → (before_at b + i < r.at) ⊎ (r.at + r.size ≤ before_at b + i) → (end_at b + x < r.at) ⊎ (r.at + r.size ≤ end_at b + x) → seen r w₂ ≡ seen r w
  both r g h = seen-out r w₁ (end_at b + x) (suc i) h ∙ seen-out r w (before_at b + i) p g

  pub used : Used b w w₂ x i
  used = let k = ends-between b in record {
    kept = kept;
    uses = seen-in (plain (end_at b) most_tags) w₁ x (suc i) lx (omega (arith, long₁, k.1)) ∙ ap (put x (suc i)) (seen-out (plain (end_at b) most_tags) w (before_at b + i) p (inr (omega (arith, k.1, k.2))));
    others = seen-out (plain (before_at b) front_size) w₁ (end_at b + x) (suc i) (inl (omega (arith, k.1, k.2))) ∙ seen-in (plain (before_at b) front_size) w i p li (omega (arith, k.3)) ∙ ap (λ (v : ℕ). put i v (before_of b w)) e;
    uses-else = uses b refl;
    others-else = others b refl;
  }
    where
      uses : (d : Bool) → d ≡ b → end_of (not d) w₂ ≡ end_of (not d) w
      uses true q = both ENDS (inr (rw (← q) (omega arith))) (inr (rw (← q) (omega arith)))
      uses false q = both TAILS (inr (rw (← q) (omega arith))) (inl (rw (← q) (omega arith)))

      others : (d : Bool) → d ≡ b → before_of (not d) w₂ ≡ before_of (not d) w
      others true q = both BEFORE (inr (rw (← q) (omega arith))) (inl (rw (← q) (omega arith)))
      others false q = both PRIOR (inl (rw (← q) (omega arith))) (inl (rw (← q) (omega arith)))

-- As the code has it.
pub use-stored : {v : List ℕ} (b : Bool) (w : List ℕ) (x i : ℕ) → Large w → x < most_tags → i < front_size → v ≡ set (set w (before_at b + i) (end_of b w x)) (end_at b + x) (i + 1) → Used b w v x i
use-stored b w x i long lx li e = rw (e, add-one) (used b w long lx li refl)

-- The record of a place.
pub listed-tags : {N len n : ℕ} {w : List ℕ} → Listing N len n w → (j : ℕ) → j < n → (place_of w j ≤ most_records) × (left_of w (place_of w j) < most_tags) × (right_of w (place_of w j) < most_tags)
listed-tags {N} {len} {n} {w} g j l =
    let p = g.named j l in
    let e : place_of w j ≡ suc (place_of w j - 1) = omega (arith, p.0) in
    let s : Small N (rec_at w (place_of w j)) = rw e (g.loaded.small (place_of w j - 1) (omega (arith, p.0, p.1))) in
    let t = small-tags N w (place_of w j) s in
    (omega (arith, p.1, g.loaded.most), omega (arith, t.0, g.loaded.few), omega (arith, t.1, g.loaded.few))

-- What is filed stays so where only lists of uses are written, or weights.
module _ {r : Part} {w w' : List ℕ} (f : Within r w w') (o : (MEMBER.at ≤ r.from) × (r.upto ≤ add_part.upto)) where
  wide : Within before_halved w w'
  wide = within_wider before_halved (omega (arith, o.0)) o.1 f

  places : place_of w' ≡ place_of w
  places = seen-within FRONT f (inl (omega (arith, o.0)))

  pub listing-same : {N len n : ℕ} → Listing N len n w → Listing N len n w'
  listing-same g = record { loaded = loaded-same wide g.loaded; short = g.short; named = rw places g.named }

standing-same : {k : ℕ} {r : Part} {w w' : List ℕ} → Within r w w' → (ENDS.at ≤ r.from) ⊎ ((WEIGHT.at ≤ r.from) × (r.upto ≤ LABEL.at)) → Standing w k → Standing w' k
standing-same f (inl l) s = record {
  long = omega (arith, f.size, s.long);
  built = rw (seen-within TRAIL f (inl (omega arith)), seen-within LABEL f (inl (omega arith)), seen-within MEMBER f (inl (omega arith))) s.built;
}
standing-same f (inr l) s = record {
  long = omega (arith, f.size, s.long);
  built = rw (seen-within TRAIL f (inr (omega (arith, l.1))), seen-within LABEL f (inr (omega (arith, l.1))), seen-within MEMBER f (inl (omega (arith, l.0)))) s.built;
}

-- One place is filed.
pub filing-skip : {N len n i : ℕ} {w : List ℕ} → result_of w (place_of w i) ≡ EQUATION → Filing N len n w i → Filing N len n w (suc i)
filing-skip e f = record { listing = f.listing; standing = f.standing; idle = f.idle; filed = λ b. lists-skip (λ d. d e) (f.filed b) }

module _ {N len n i x y : ℕ} {w w₁ w₂ : List ℕ} (f : Filing N len n w i) (a : result_of w (place_of w i) ≢ EQUATION) (p : x ≡ left_of w (place_of w i)) (q : y ≡ right_of w (place_of w i)) (u : Used false w w₁ x i) (v : Used true w₁ w₂ y i) where
  pub filing-kept : Within uses_part w w₂
  filing-kept = within-trans u.kept v.kept

  now-places : place_of w₂ ≡ place_of w
  now-places = places filing-kept (omega arith, omega arith)

  all : Within before_halved w w₂
  all = within_wider before_halved (omega arith) (omega arith) filing-kept

  uses-now : (b : Bool) → end_of b w₂ ≡ put (arg_of b w (place_of w i)) (suc i) (end_of b w)
  uses-now false = v.uses-else ∙ rw (← p) u.uses
  uses-now true = v.uses ∙ rw (← q) (ap (put y (suc i)) u.uses-else)

  others-now : (b : Bool) → before_of b w₂ ≡ put i (end_of b w (arg_of b w (place_of w i))) (before_of b w)
  others-now false = v.others-else ∙ rw (← p) u.others
  others-now true = v.others ∙ rw (← q, u.uses-else, u.others-else) refl

  pub filing-more : Filing N len n w₂ (suc i)
  filing-more = record {
    listing = listing-same filing-kept (omega arith, omega arith) f.listing;
    standing = standing-same filing-kept (inl (omega arith)) f.standing;
    idle = rw (seen-within QUEUE filing-kept (inr (omega arith))) f.idle;
    filed = λ b. rw (uses-now b, others-now b, now-places, results all, lefts all, rights all) (lists-more {g = λ j. arg_of b w (place_of w j)} a (f.filed b));
  }

-- Nothing is filed yet.
abbrev wiped-count : ℕ
wiped-count = wipe_part.upto - wipe_part.from

module _ (w w' v : List ℕ) (long : Large w) (s : length v ≡ length (take wiped-count (drop ENDS.at w))) (e : w' ≡ take ENDS.at w ++ (v ++ drop wiped-count (drop ENDS.at w))) (h : Fills v 0) where
  zero-at : (x : ℕ) → x < wiped-count → get_or w' (ENDS.at + x) 0 ≡ 0
  zero-at = lent_at ENDS.at wiped-count w w' v (omega arith) s e (λ i. 0) h

  zero_in : (at n : ℕ) → ENDS.at ≤ at → at + n ≤ wipe_part.upto → (x : ℕ) → seen (plain at n) w' x ≡ 0
  zero_in at n l m x = seen-zero at n w' x (λ y k. let q : at + y ≡ ENDS.at + (at - ENDS.at + y) = omega arith in rw q (zero-at (at - ENDS.at + y) (omega arith)))

  pub wiped : Wiped w w'
  wiped = record {
    kept = lent-within ENDS.at wiped-count w w' v (omega arith) s e;
    uses = λ b. let k = ends-between b in zero_in (end_at b) most_tags k.0 (omega (arith, k.1));
    others = λ b. let k = ends-between b in zero_in (before_at b) front_size (omega (arith, k.2)) (omega (arith, k.3));
    idle = zero_in QUEUE.at front_size (omega arith) (omega arith);
  }

pub filing-start : {N len n : ℕ} {w w₁ w₂ : List ℕ} → Listing N len n w → Scattered w w₁ → Wiped w₁ w₂ → Filing N len n w₂ 0
filing-start {w₂ = w₂} g s t = record {
  listing = listing-same t.kept (omega arith, omega arith) (listing-same s.kept (omega arith, omega arith) g);
  standing = standing-same t.kept (inl (omega arith)) s.standing;
  idle = t.idle;
  filed = λ b. record { heads = λ x. omega (arith, t.uses b x); falls = λ r. omega (arith, t.others b r); head-app = λ x h. absurd (omega (arith, t.uses b x)); next-app = λ r h. absurd (omega (arith, t.others b r)); filed = λ i h a. absurd (omega arith) };
}

pub weighed : {N len n : ℕ} {w w' : List ℕ} → Within (all_of WEIGHT) w w' → Filing N len n w n → Filing N len n w' n
weighed {N} {len} {n} {w} {w'} f g = record {
  listing = listing-same f (omega arith, omega arith) g.listing;
  standing = standing-same f (inr (omega arith, omega arith)) g.standing;
  idle = rw (seen-within QUEUE f (inr (omega arith))) g.idle;
  filed = λ b. rw (uses b, others b, places f (omega arith, omega arith), results all, lefts all, rights all) (g.filed b);
}
  where
    all : Within before_halved w w'
    all = within_wider before_halved (omega arith) (omega arith) f

    uses : (b : Bool) → end_of b w' ≡ end_of b w
    uses b = seen-within (plain (end_at b) most_tags) f (inr (omega (arith, (ends-between b).0)))

    others : (b : Bool) → before_of b w' ≡ before_of b w
    others b = seen-within (plain (before_at b) front_size) f (inr (omega (arith, (ends-between b).2)))

-- With nothing in, each tag follows equal to itself alone.
pub filing-rested : {N len n : ℕ} {w : List ℕ} → Filing N len n w n → Rested N len n w 0
filing-rested {N} {len} {n} {w} f = busy-rested busy (λ j u i. absurd (i (f.idle j)))
  where
    own : label_of w ≡ (λ x. x)
    own = (grown-none f.standing.built).0

    busy : Busy N len n w 0 0 0
    busy = record {
      loaded = f.listing.loaded;
      short = f.listing.short;
      named = λ j l. (f.listing.named j l).1;
      standing = f.standing;
      filed = record { heads = λ b. (f.filed b).heads; falls = λ b. (f.filed b).falls; head-app = λ b x h d. (f.filed b).head-app x h; next-app = λ b x h d. (f.filed b).next-app x h; filed = λ b j h d. (f.filed b).filed j h };
      in-named = λ j i. absurd (i (f.idle j));
      sound = λ x. rw own same;
      resting = record { agree = λ i j p. absurd (p.0 (f.idle i)) };
      waits-app = λ j h. absurd (omega (arith, f.idle j));
      last-low = omega arith;
      this = [];
      this-line = end refl;
      after = [];
      after_line = end refl;
      apart = λ j i m. Memᴰ.not-nil m;
      all = λ j h. absurd (omega (arith, f.idle j));
    }

pub begun : {N len n : ℕ} {w w₁ w₂ w₃ w₄ : List ℕ} → Scattered w w₁ → Wiped w₁ w₂ → Within uses_part w₂ w₃ → Filing N len n w₃ n → Within (all_of WEIGHT) w₃ w₄ → Begun N len n w w₄
begun s t f g h = record {
  kept = within-trans (within_wider add_part (omega arith) (omega arith) s.kept) (within-trans (within_wider add_part (omega arith) (omega arith) t.kept) (within-trans (within_wider add_part (omega arith) (omega arith) f) (within_wider add_part (omega arith) (omega arith) h)));
  rested = filing-rested (weighed h g);
  outs = (weighed h g).idle;
}
