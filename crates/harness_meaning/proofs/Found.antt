-- The search level by level, to its end: where equality follows, the other tag is found within N - 1 levels, and the records of the way back from it, in rising order, are
-- the harness reason. Assumes nothing.
use Prim.Native.Nat.{ℕ, zero, suc, ◌≤◌, ◌<◌}
use native.Mathlib.Omega.{arith}
use native.Mathlib.Decide.{ℕ_discrete, dec_le}
use mathlib.Core.Path.{◌≡◌, refl, sym, ◌∙◌, ap}
use mathlib.Core.Logic.{◌⊎◌, inl, inr}
use mathlib.Core.List.{List, [], ◌∷◌, Memᴰ}
use lib.ListN.{length, get_or}
use Rattle.meaning.specs.Following.{Rec, eq, At, Follows, UpTo}
use Rattle.meaning.specs.Reasons.{Above}
use Rattle.meaning.specs.Joins.{put}
use Rattle.meaning.proofs.Log.{put-hit, put-miss}
use Rattle.meaning.proofs.Close.{more}
use Rattle.meaning.proofs.Rising.{above-all, numbers, numbers-rise, numbers-in}
use Rattle.meaning.proofs.Reference.{Small}
use Rattle.meaning.proofs.Short.{among, among_in, in-among}
use Rattle.meaning.proofs.Decide.{dec_up_to}
use Rattle.harness_meaning.specs.Harness.{Smaller, Shows, Harness}
use Rattle.harness_meaning.specs.Search.{Ends, forth, back, Way, start, step, Same, NotAfter, climb, Within, Levels, During, State, offer, scan, levels}
use Rattle.harness_meaning.proofs.Order.{same_refl, same-sym, same-trans, ahead-same, rising-same, ahead-smaller, rising-distinct, distinct-short, distinct-all}
use Rattle.harness_meaning.proofs.Unique.{harness-of, harness-one, harness-follows}
use Rattle.harness_meaning.proofs.Ways.{way-length, way-more, way_in, way-neat, neat-way, neat-distinct, neat-short, way-follows, follows-way, shows-neat}
use Rattle.harness_meaning.proofs.Levels.{way-level, way-distinct, climb-way}
use Rattle.harness_meaning.proofs.Offers.{With, offered, level-done}

-- A level begins with nothing tried ..
pub level-begins : {a b : ℕ → ℕ} {R s d top : ℕ} {lev last : ℕ → ℕ} → Levels a b R s d top lev last → suc d < top → During a b R s d top (λ k v. ⊥) lev last
level-begins {a} {b} {R} {s} {d} {top} {lev} {last} h l = record {
  tree = h.tree;
  best = h.best;
  room = l;
  high = λ v. elim (h.high v) [ inl o ↦ inl (omega arith) | inr q ↦ inr q ];
  within = λ v q. absurd (none v q (h.high v));
  ends = λ v q. absurd (none v q (h.high v));
  down = λ v q. absurd (none v q (h.high v));
  chosen = λ k u v i w e o q. absurd i;
  reached = λ k u v i w e o. absurd i;
}
  where
    none : (v : ℕ) → lev v ≡ suc d → (lev v ≤ d) ⊎ (lev v ≡ top) → ⊥
    none v q (inl o) = omega arith
    none v q (inr o) = omega arith

-- .. and ends with every record tried.
pub level-ends : {a b : ℕ → ℕ} {R s d top : ℕ} {Seen : ℕ → ℕ → Type 0} {lev last : ℕ → ℕ} → During a b R s d top Seen lev last → ((k u v : ℕ) → Within R k → Ends a b k u v → lev u ≡ d → Seen k v)
    → Levels a b R s (suc d) top lev last
level-ends h all = let r = level-done h all in record { tree = r.0; best = r.1; high = h.high }

-- What was tried may be told in other words.
pub during-said : {a b : ℕ → ℕ} {R s d top : ℕ} {Seen Said : ℕ → ℕ → Type 0} {lev last : ℕ → ℕ} → ((k u v : ℕ) → Within R k → Ends a b k u v → Said k v → Seen k v)
    → During a b R s d top Seen lev last → During a b R s d top Said lev last
during-said f h = record {
  tree = h.tree;
  best = h.best;
  room = h.room;
  high = h.high;
  within = h.within;
  ends = h.ends;
  down = h.down;
  chosen = λ k u v i w e o q. h.chosen k u v (f k u v w e i) w e o q;
  reached = λ k u v i w e o. h.reached k u v (f k u v w e i) w e o;
}

-- One record more, in both directions.
pub tried-both : {a b : ℕ → ℕ} {R s d top : ℕ} (k : ℕ) (st : State) → suc k ≤ R → During a b R s d top (λ j v. j ≤ k) st.lev st.last
    → let r = offer a b d top (suc k) (b (suc k)) (a (suc k)) (offer a b d top (suc k) (a (suc k)) (b (suc k)) st) in During a b R s d top (λ j v. j ≤ suc k) r.lev r.last
tried-both {a} {b} {R} {s} {d} {top} k st l h =
    let w : Within R (suc k) = (omega arith, l) in
    let one = offered st h (suc k) (a (suc k)) (b (suc k)) w (forth refl refl) in
    let two = offered (offer a b d top (suc k) (a (suc k)) (b (suc k)) st) one (suc k) (b (suc k)) (a (suc k)) w (back refl refl) in
    during-said (λ j u v x e i. said j u v e i (dec_le j k)) two
  where
    said : (j u v : ℕ) → Ends a b j u v → j ≤ suc k → Dec (j ≤ k) → With (With (λ j v. j ≤ k) (suc k) (b (suc k))) (suc k) (a (suc k)) j v
    said j u v e i (yes o) = inl (inl o)
    said j u v (forth p q) i (no o) = let r : j ≡ suc k = omega arith in inl (inr (r, q ∙ ap b r))
    said j u v (back p q) i (no o) = let r : j ≡ suc k = omega arith in inr (r, q ∙ ap a r)

-- All records up to k.
pub scanned : {a b : ℕ → ℕ} {R s d top : ℕ} (k : ℕ) (st : State) → k ≤ R → Levels a b R s d top st.lev st.last → suc d < top
    → During a b R s d top (λ j v. j ≤ k) (scan a b d top k st).lev (scan a b d top k st).last
scanned zero st l h m = during-said (λ j u v w e i. omega (arith, w.0)) (level-begins h m)
scanned {a} {b} {R} {s} {d} {top} (suc k) st l h m = tried-both k (scan a b d top k st) l (scanned k st (omega arith) h m)

-- The beginning: s alone.
way-none : {a b : ℕ → ℕ} {P : ℕ → Type 0} {s v n : ℕ} {L : List ℕ} → Way a b P s v L n → n ≡ 0 → L ≡ []
way-none start q = refl
way-none (step w p e) q = absurd (omega arith)

pub begun-right : (a b : ℕ → ℕ) (R s top : ℕ) (last : ℕ → ℕ) → 0 < top → Levels a b R s 0 top (put s 0 (λ v. top)) last
begun-right a b R s top last l = record {
  tree = record {
    root = put-hit s 0 (λ v. top);
    only = λ v q. only v q (ℕ_discrete v s);
    within = λ v n o q. absurd (omega arith);
    ends = λ v n o q. absurd (omega arith);
    down = λ v n o q. absurd (omega arith);
    near = λ k u v w e o. absurd (omega arith);
  };
  best = λ v L o w. let q : lev v ≡ 0 = omega arith in let r : L ≡ [] = way-none w q in rw (q, r) (inl same_refl);
  high = λ v. high v (ℕ_discrete v s);
}
  where
    lev : ℕ → ℕ
    lev = put s 0 (λ v. top)

    only : (v : ℕ) → lev v ≡ 0 → Dec (v ≡ s) → v ≡ s
    only v q (yes e) = e
    only v q (no e) = absurd (omega (arith, put-miss s 0 (λ v. top) v e))

    high : (v : ℕ) → Dec (v ≡ s) → (lev v ≤ 0) ⊎ (lev v ≡ top)
    high v (yes e) = inl (omega (arith, ap lev e, put-hit s 0 (λ v. top)))
    high v (no e) = inr (put-miss s 0 (λ v. top) v e)

-- d levels.
pub levels-right : (a b : ℕ → ℕ) (R s top d : ℕ) → suc d < top → Levels a b R s d top (levels a b R top s d).lev (levels a b R top s d).last
levels-right a b R s top zero l = begun-right a b R s top (λ v. 0) (omega arith)
levels-right a b R s top (suc d) l =
    level-ends (scanned R (levels a b R top s d) (omega arith) (levels-right a b R s top d (omega arith)) (omega arith)) (λ k u v w e q. w.1)

-- Two lists of numbers are one or not.
list-decided : (L M : List ℕ) → Dec (L ≡ M)
list-decided [] [] = yes refl
list-decided [] (m ∷ M) = no (λ q. let z : ◌≡◌ {A = ℕ} 0 1 = cc q in omega arith)
list-decided (k ∷ L) [] = no (λ q. let z : ◌≡◌ {A = ℕ} 0 1 = cc q in omega arith)
list-decided (k ∷ L) (m ∷ M) = go (ℕ_discrete k m) (list-decided L M)
  where
    go : Dec (k ≡ m) → Dec (L ≡ M) → Dec (k ∷ L ≡ m ∷ M)
    go (yes p) (yes q) = yes (cc)
    go (no p) d = no (λ e. p (cc e))
    go (yes p) (no q) = no (λ e. q (cc e))

module _ (rs : List Rec) (R : ℕ) (a b : ℕ → ℕ) (plain : (k : ℕ) → Within R k → At rs k (eq (a k) (b k))) (s t : ℕ) where
  -- Where equality follows there is a way of fewer records than tags, ..
  pub near-way : (N : ℕ) → ((k : ℕ) → Within R k → (a k < N) × (b k < N)) → s < N → Follows (UpTo rs R) s t → (n : ℕ) × (L : List ℕ) × (n < N) × Way a b (Within R) s t L n
  near-way N small l f =
      let r = follows-way rs R a b plain (Within R) (λ k w. w.1) (more (λ c i. (i.0, (omega (arith, i.2.number), i.1), i.2)) f) in
      let q = way-neat r.2 in
      (length q.0, q.0, neat-short N small l q.2, neat-way q.2)

  module _ {d top : ℕ} {lev last : ℕ → ℕ} (h : Levels a b R s d top lev last) where
    -- .. so t is found by then, ..
    pub not_yet : {n : ℕ} {L : List ℕ} → d < top → lev t ≡ top → Way a b (Within R) s t L n → d < n
    not_yet {n} l q w = go (dec_le n d)
      where
        go : Dec (n ≤ d) → d < n
        go (yes o) = absurd (omega (arith, way-level h.tree w o))
        go (no o) = omega arith

    -- .. and what is found follows.
    pub found-follows : lev t ≤ d → Follows (UpTo rs R) s t
    found-follows l = let w = climb-way h.tree (lev t) t l refl in way-follows rs R a b plain (λ n. n ≤ R) w (λ k i. (way_in w k i).1)

    -- The records of the way back from t, in rising order, are the harness reason.
    module _ (l : lev t ≤ d) (L : List ℕ) (rises : Above 0 L) (these : Same L (climb a b last (lev t) t)) where
      abbrev W : List ℕ
      W = climb a b last (lev t) t

      way : Way a b (Within R) s t W (lev t)
      way = climb-way h.tree (lev t) t l refl

      found-length : length L ≡ lev t
      found-length = omega (arith, way-length way, distinct-short W (rising-distinct 0 L rises) (λ n. (these n).0), distinct-short L (way-distinct h.tree way l refl) (λ n. (these n).1))

      pub found-shows : Shows rs R s t L
      found-shows = record {
        rising = rises;
        stand = λ k i. (way_in way k ((these k).0 i)).1;
        entails = way-follows rs R a b plain (λ n. Memᴰ n L) way (λ k i. (these k).1 i);
      }

      -- Of a list that entails: a way among its records is no shorter.
      module _ (M : List ℕ) (g : Shows rs R s t M) where
        abbrev K : List ℕ
        K = (shows-neat rs R a b plain g).0

        inside : (k : ℕ) → Memᴰ k K → Memᴰ k M
        inside k i = way_in (neat-way (shows-neat rs R a b plain g).2) k i

        within : (k : ℕ) → Memᴰ k M → Within R k
        within k i = (above-all 0 M g.rising k i, g.stand k i)

        other : Way a b (Within R) s t K (length K)
        other = way-more within (neat-way (shows-neat rs R a b plain g).2)

        shorter : length K ≤ length M
        shorter = distinct-short M (neat-distinct (shows-neat rs R a b plain g).2) inside

        longer : lev t ≤ length K
        longer = go (dec_le (length K) d)
          where
            go : Dec (length K ≤ d) → lev t ≤ length K
            go (yes o) = way-level h.tree other o
            go (no o) = omega arith

        found-fewest : length L ≤ length M
        found-fewest = omega (arith, found-length, shorter, longer)

        found-smallest : length M ≡ length L → (M ≡ L) ⊎ Smaller L M
        found-smallest q = pick (h.best t K l (rw e at other))
          where
            e : length K ≡ lev t
            e = omega (arith, found-length, shorter, longer)

            full : Same K M
            full = distinct-all (neat-distinct (shows-neat rs R a b plain g).2) inside (omega (arith, e, found-length))

            pick : NotAfter W K → (M ≡ L) ⊎ Smaller L M
            pick (inl f) = inl (rising-same 0 L M rises g.rising (same-trans these (same-trans f full)))
            pick (inr f) = inr (ahead-smaller 0 L M rises g.rising (sym q) (ahead-same (same-sym these) full f))

      pub found-harness : (N : ℕ) → ((i : ℕ) → i < length rs → Small N (get_or rs i (eq 0 0))) → Harness N rs R s t L
      found-harness N small = harness-of found-shows found-fewest N small found-smallest

  -- The numbers of a set that has them, in rising order.
  pub listed_same : (W : List ℕ) → ((k : ℕ) → Memᴰ k W → Within R k) → Same (numbers (among W) R) W
  listed_same W f j = (λ i. among_in W j ((numbers-in (among W) R j).0 i).2, λ i. (numbers-in (among W) R j).1 ((f j i).0, (f j i).1, in-among W j i))

  -- The search as a whole: where equality follows, N - 1 levels or more give the harness reason; ..
  pub search-right : (N top d : ℕ) → ((i : ℕ) → i < length rs → Small N (get_or rs i (eq 0 0))) → s < N → N ≤ suc d → suc d < top → Follows (UpTo rs R) s t
      → let st = levels a b R top s d in Harness N rs R s t (numbers (among (climb a b st.last (st.lev t) t)) R)
  search-right N top d small l m o f = found-harness h found (numbers (among W) R) (numbers-rise (among W) R).0 (listed_same W (λ k i. way_in (climb-way h.tree (st.lev t) t found refl) k i)) N small
    where
      st : State
      st = levels a b R top s d

      W : List ℕ
      W = climb a b st.last (st.lev t) t

      h : Levels a b R s d top st.lev st.last
      h = levels-right a b R s top d o

      below : (k : ℕ) → Within R k → (a k < N) × (b k < N)
      below k w = let i = plain k w in let z : Small N (eq (a k) (b k)) = rw i.is at (small i.place i.stands) in z

      found : st.lev t ≤ d
      found = elim (h.high t) [
        | inl q ↦ q
        | inr q ↦ let r = near-way N below l f in absurd (omega (arith, r.2, not_yet h (omega arith) q r.3))
      ]

  -- .. so there is one.
  pub harness-there : (N : ℕ) → ((i : ℕ) → i < length rs → Small N (get_or rs i (eq 0 0))) → s < N → Follows (UpTo rs R) s t → (L : List ℕ) × Harness N rs R s t L
  harness-there N small l f =
      let st = levels a b R (suc (suc N)) s N in
      (numbers (among (climb a b st.last (st.lev t) t)) R, search-right N (suc (suc N)) N small l (omega arith) (omega arith) f)

  -- So it is decided whether a list is the harness reason: one compares with the one that is found.
  pub harness-decided : (N : ℕ) → ((i : ℕ) → i < length rs → Small N (get_or rs i (eq 0 0))) → s < N → (L : List ℕ) → Dec (Harness N rs R s t L)
  harness-decided N small l L = go (dec_up_to rs R s t)
    where
      with : (M : List ℕ) × Harness N rs R s t M → Dec (Harness N rs R s t L)
      with h = same (list-decided L h.0)
        where
          same : Dec (L ≡ h.0) → Dec (Harness N rs R s t L)
          same (yes q) = yes (rw q h.1)
          same (no q) = no (λ g. q (harness-one h.1 g))

      go : Dec (Follows (UpTo rs R) s t) → Dec (Harness N rs R s t L)
      go (yes f) = with (harness-there N small l f)
      go (no f) = no (λ g. f (harness-follows g))
