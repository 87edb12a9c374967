-- Trying a record from a tag of level d keeps everything that is done, and afterwards the tag it leads to has the best last record of all that were tried; when every record
-- was tried, the next level is done. Assumes nothing.
use Prim.Native.Nat.{ℕ, zero, suc, ◌≤◌, ◌<◌}
use native.Mathlib.Omega.{arith}
use native.Mathlib.Decide.{ℕ_discrete, dec_lt, dec_le}
use mathlib.Core.Path.{◌≡◌, refl, sym, ◌∙◌, ap}
use mathlib.Core.Logic.{◌≢◌, ◌⊎◌, inl, inr}
use mathlib.Core.Bool.{Bool, true, false, cond}
use mathlib.Core.List.Memᴰ
use mathlib.Core.List.{List, [], ◌∷◌}
use lib.Dec.{eqb}
use borrow.Author.Tests.{eqb-true, eqb-false}
use Rattle.meaning.specs.Joins.{put}
use Rattle.meaning.proofs.Log.{put-hit, put-miss}
use Rattle.harness_meaning.specs.Search.{Ends, Way, start, step, NotAfter, Wins, far, climb, sooner, Within, Tree, Best, During, State, offer}
use Rattle.harness_meaning.proofs.Order.{after-refl, after-trans, after-cons}
use Rattle.harness_meaning.proofs.Levels.{ends-other, far-other, least-one, way-before, way-fresh, climb-way, sooner-wins}

-- What was tried before, and record k towards v.
abbrev pub With : (ℕ → ℕ → Type 0) → ℕ → ℕ → ℕ → ℕ → Type 0
With Seen k v k' v' = Seen k' v' ⊎ ((k' ≡ k) × (v' ≡ v))

-- A last record of a higher tag changes no way of the levels that are done.
pub climb-put : {a b : ℕ → ℕ} {R s d : ℕ} {lev last : ℕ → ℕ} → Tree a b R s d lev last → (v k : ℕ) → d < lev v → (n x : ℕ) → n ≤ d → lev x ≡ n → climb a b (put v k last) n x ≡ climb a b last n x
climb-put tr v k h zero x l q = refl
climb-put {a} {b} {R} {s} {d} {lev} {last} tr v k h (suc n) x l q =
    let m : put v k last x ≡ last x = put-miss v k last x (λ e. omega (arith, ap lev e)) in
    rw m (ap (λ (L : List ℕ). last x ∷ L) (climb-put tr v k h n (far a b (last x) x) (omega arith) (tr.down x n l q)))

-- Record k becomes v's last, from u.
module _ {a b : ℕ → ℕ} {R s d top : ℕ} {Seen : ℕ → ℕ → Type 0} {lev last : ℕ → ℕ} (st : During a b R s d top Seen lev last) (lev' : ℕ → ℕ) (k u v : ℕ) (p : Within R k) (e : Ends a b k u v) (lu : lev u ≡ d)
    (hit : lev' v ≡ suc d) (miss : (x : ℕ) → x ≢ v → lev' x ≡ lev x) (high : d < lev v) (ahead : (k' u' : ℕ) → Seen k' v → Within R k' → Ends a b k' u' v → lev u' ≡ d → NotAfter (k ∷ climb a b last d u) (k' ∷ climb a b last d u')) where
  abbrev tr : Tree a b R s d lev last
  tr = st.tree

  abbrev last' : ℕ → ℕ
  last' = put v k last

  -- What is done stays.
  old : (x : ℕ) → lev x ≤ d → lev' x ≡ lev x
  old x l = miss x (λ q. omega (arith, ap lev q))

  back-old : (x : ℕ) → lev' x ≤ d → lev' x ≡ lev x
  back-old x l = miss x (λ q. omega (arith, ap lev' q))

  same-last : (x : ℕ) → x ≢ v → last' x ≡ last x
  same-last x h = put-miss v k last x h

  low-last : (x : ℕ) → lev' x ≤ d → last' x ≡ last x
  low-last x l = same-last x (λ q. omega (arith, ap lev' q))

  same-climb : (n x : ℕ) → n ≤ d → lev x ≡ n → climb a b last' n x ≡ climb a b last n x
  same-climb = climb-put tr v k high

  tree-put : Tree a b R s d lev' last'
  tree-put = record {
    root = old s (omega (arith, tr.root)) ∙ tr.root;
    only = λ x q. tr.only x (sym (back-old x (omega arith)) ∙ q);
    within = λ x n l q. rw (low-last x (omega arith)) (tr.within x n l (level x n l q));
    ends = λ x n l q. rw (low-last x (omega arith)) (tr.ends x n l (level x n l q));
    down = λ x n l q. rw (low-last x (omega arith)) (let h = tr.down x n l (level x n l q) in old (far a b (last x) x) (omega (arith, h)) ∙ h);
    near = λ j x y w f l. let o = back-old x (omega arith) in let h = tr.near j x y w f (omega (arith, o)) in omega (arith, h, o, old y (omega (arith, h, o)));
  }
    where
      level : (x n : ℕ) → n < d → lev' x ≡ suc n → lev x ≡ suc n
      level x n l q = sym (back-old x (omega arith)) ∙ q

  best-put : Best a b R s d lev' last'
  best-put x L l w =
      let o = back-old x l in
      let m : lev x ≤ d = omega (arith, o) in
      rw (o, same-climb (lev x) x m refl) (st.best x L m (rw o at w))

  -- At the next level.
  at_next : (x : ℕ) → x ≢ v → lev' x ≡ suc d → lev x ≡ suc d
  at_next x h q = sym (miss x h) ∙ q

  next-climb : (x : ℕ) → x ≢ v → lev' x ≡ suc d → climb a b last' d (far a b (last' x) x) ≡ climb a b last d (far a b (last x) x)
  next-climb x h q = rw (same-last x h) (same-climb d (far a b (last x) x) (omega arith) (st.down x (at_next x h q)))

  pub taken : During a b R s d top (With Seen k v) lev' last'
  taken = record {
    tree = tree-put;
    best = best-put;
    room = st.room;
    high = λ x. tops x (ℕ_discrete x v);
    within = λ x q. ins x q (ℕ_discrete x v);
    ends = λ x q. ons x q (ℕ_discrete x v);
    down = λ x q. downs x q (ℕ_discrete x v);
    chosen = λ j x y i w f l q. picks j x y i w f (sym (back-old x (omega arith)) ∙ l) q (ℕ_discrete y v);
    reached = λ j x y i w f l. ups j x y i w f (sym (back-old x (omega arith)) ∙ l) (ℕ_discrete y v);
  }
    where
      at-v : last' v ≡ k
      at-v = put-hit v k last

      tops : (x : ℕ) → Dec (x ≡ v) → (lev' x ≤ suc d) ⊎ (lev' x ≡ top)
      tops x (yes h) = inl (omega (arith, ap lev' h))
      tops x (no h) = rw (miss x h) (st.high x)

      ins : (x : ℕ) → lev' x ≡ suc d → Dec (x ≡ v) → Within R (last' x)
      ins x q (yes h) = rw (h, at-v) p
      ins x q (no h) = rw (same-last x h) (st.within x (at_next x h q))

      from : far a b k v ≡ u
      from = far-other e

      ons : (x : ℕ) → lev' x ≡ suc d → Dec (x ≡ v) → Ends a b (last' x) (far a b (last' x) x) x
      ons x q (yes h) = rw (h, at-v, from) e
      ons x q (no h) = rw (same-last x h) (st.ends x (at_next x h q))

      downs : (x : ℕ) → lev' x ≡ suc d → Dec (x ≡ v) → lev' (far a b (last' x) x) ≡ d
      downs x q (yes h) = rw (h, at-v, from) (old u (omega arith) ∙ lu)
      downs x q (no h) = rw (same-last x h) (let g = st.down x (at_next x h q) in old (far a b (last x) x) (omega (arith, g)) ∙ g)

      picks : (j x y : ℕ) → With Seen k v j y → Within R j → Ends a b j x y → lev x ≡ d → lev' y ≡ suc d → Dec (y ≡ v) → NotAfter (last' y ∷ climb a b last' d (far a b (last' y) y)) (j ∷ climb a b last' d x)
      picks j x y (inl i) w f l q (yes h) = rw (h, at-v, from, same-climb d u (omega arith) lu, same-climb d x (omega arith) l) (ahead j x (rw h at i) w (rw h at f) l)
      picks j x y (inr i) w f l q (yes h) =
          let o : x ≡ u = ends-other e (rw (i.0, h) at f) in
          rw (h, at-v, from, o, i.0) after-refl
      picks j x y (inl i) w f l q (no h) = rw (next-climb y h q, same-last y h, same-climb d x (omega arith) l) (st.chosen j x y i w f l (at_next y h q))
      picks j x y (inr i) w f l q (no h) = absurd (h i.1)

      ups : (j x y : ℕ) → With Seen k v j y → Within R j → Ends a b j x y → lev x ≡ d → Dec (y ≡ v) → lev' y ≤ suc d
      ups j x y i w f l (yes h) = omega (arith, ap lev' h)
      ups j x y (inl i) w f l (no h) = rw (miss y h) (st.reached j x y i w f l)
      ups j x y (inr i) w f l (no h) = absurd (h i.1)

-- Nothing changes, and record k towards v has been tried.
pub kept : {a b : ℕ → ℕ} {R s d top : ℕ} {Seen : ℕ → ℕ → Type 0} {lev last : ℕ → ℕ} → During a b R s d top Seen lev last → (k v : ℕ)
    → ((u : ℕ) → Within R k → Ends a b k u v → lev u ≡ d → lev v ≤ suc d)
    → ((u : ℕ) → Within R k → Ends a b k u v → lev u ≡ d → lev v ≡ suc d → NotAfter (last v ∷ climb a b last d (far a b (last v) v)) (k ∷ climb a b last d u))
    → During a b R s d top (With Seen k v) lev last
kept {a} {b} {R} {s} {d} {top} {Seen} {lev} {last} st k v f g = record {
  tree = st.tree;
  best = st.best;
  room = st.room;
  high = st.high;
  within = st.within;
  ends = st.ends;
  down = st.down;
  chosen = λ j x y i w e l q. picks j x y i w e l q;
  reached = λ j x y i w e l. ups j x y i w e l;
}
  where
    picks : (j x y : ℕ) → With Seen k v j y → Within R j → Ends a b j x y → lev x ≡ d → lev y ≡ suc d → NotAfter (last y ∷ climb a b last d (far a b (last y) y)) (j ∷ climb a b last d x)
    picks j x y (inl i) w e l q = st.chosen j x y i w e l q
    picks j x y (inr i) w e l q = rw (i.0, i.1) (g x (rw i.0 at w) (rw (i.0, i.1) at e) l (rw i.1 at q))

    ups : (j x y : ℕ) → With Seen k v j y → Within R j → Ends a b j x y → lev x ≡ d → lev y ≤ suc d
    ups j x y (inl i) w e l = st.reached j x y i w e l
    ups j x y (inr i) w e l = rw i.1 (f x (rw i.0 at w) (rw (i.0, i.1) at e) l)

-- Two ways to v by different records, compared.
module _ {a b : ℕ → ℕ} {R s d top : ℕ} {Seen : ℕ → ℕ → Type 0} {lev last : ℕ → ℕ} (st : During a b R s d top Seen lev last) (k u v : ℕ) (p : Within R k) (e : Ends a b k u v) (lu : lev u ≡ d) (lv : lev v ≡ suc d) where
  apart-wins : k ≢ last v → Wins (sooner a b last d u (far a b (last v) v) k (last v)) (k ∷ climb a b last d u) (last v ∷ climb a b last d (far a b (last v) v))
  apart-wins h = sooner-wins st.tree d u (far a b (last v) v) k (last v) (k ∷ []) (last v ∷ []) (omega arith) lu (st.down v lv) (least-one k) (least-one (last v))
      (λ z i j. h (sym (Memᴰ.eq_of_singleton i) ∙ Memᴰ.eq_of_singleton j)) (λ z i. (u, v, rw (Memᴰ.eq_of_singleton i) e, omega arith))
      (λ z i. (far a b (last v) v, v, rw (Memᴰ.eq_of_singleton i) (st.ends v lv), omega arith))

  same_way : k ≡ last v → NotAfter (last v ∷ climb a b last d (far a b (last v) v)) (k ∷ climb a b last d u)
  same_way q =
      let o : far a b (last v) v ≡ u = ends-other (rw q at e) (st.ends v lv) in
      rw (o, q) after-refl

  pub beaten : sooner a b last d u (far a b (last v) v) k (last v) ≡ true → NotAfter (k ∷ climb a b last d u) (last v ∷ climb a b last d (far a b (last v) v))
  beaten t = go (ℕ_discrete k (last v))
    where
      go : Dec (k ≡ last v) → NotAfter (k ∷ climb a b last d u) (last v ∷ climb a b last d (far a b (last v) v))
      go (yes q) =
          let o : far a b (last v) v ≡ u = ends-other (rw q at e) (st.ends v lv) in
          rw (o, q) after-refl
      go (no h) = inr (rw t at (apart-wins h))

  pub unbeaten : sooner a b last d u (far a b (last v) v) k (last v) ≡ false → NotAfter (last v ∷ climb a b last d (far a b (last v) v)) (k ∷ climb a b last d u)
  unbeaten t = go (ℕ_discrete k (last v))
    where
      go : Dec (k ≡ last v) → NotAfter (last v ∷ climb a b last d (far a b (last v) v)) (k ∷ climb a b last d u)
      go (yes q) = same_way q
      go (no h) = inr (rw t at (apart-wins h))

-- Trying a record.
pub offered : {a b : ℕ → ℕ} {R s d top : ℕ} {Seen : ℕ → ℕ → Type 0} (st : State) → During a b R s d top Seen st.lev st.last → (k u v : ℕ) → Within R k → Ends a b k u v
    → During a b R s d top (With Seen k v) (offer a b d top k u v st).lev (offer a b d top k u v st).last
offered {a} {b} {R} {s} {d} {top} {Seen} st h k u v p e = here (eqb (st.lev u) d) refl
  where
    Goal : State → Type 0
    Goal r = During a b R s d top (With Seen k v) r.lev r.last

    tried : (t : Bool) → sooner a b st.last d u (far a b (st.last v) v) k (st.last v) ≡ t → st.lev u ≡ d → st.lev v ≡ suc d → Goal (cond t (record { lev = st.lev; last = put v k st.last }) st)
    tried true t lu lv = taken h st.lev k u v p e lu lv (λ x o. refl) (omega arith) (λ j x i w f l. after-trans (beaten h k u v p e lu lv t) (h.chosen j x v i w f l lv))
    tried false t lu lv = kept h k v (λ x w f l. omega arith) (λ x w f l q. let o : x ≡ u = ends-other e f in rw o (unbeaten h k u v p e lu lv t))

    there : (t : Bool) → eqb (st.lev v) (suc d) ≡ t → st.lev u ≡ d → st.lev v ≢ top → Goal (cond t (cond (sooner a b st.last d u (far a b (st.last v) v) k (st.last v)) (record { lev = st.lev; last = put v k st.last }) st) st)
    there true t lu n = tried (sooner a b st.last d u (far a b (st.last v) v) k (st.last v)) refl lu (eqb-true (st.lev v) (suc d) t)
    there false t lu n = kept h k v (λ x w f l. elim (h.high v) [ inl o ↦ o | inr o ↦ absurd (n o) ]) (λ x w f l q. absurd (eqb-false (st.lev v) (suc d) t q))

    new : (t : Bool) → eqb (st.lev v) top ≡ t → st.lev u ≡ d
        → Goal (cond t (record { lev = put v (suc d) st.lev; last = put v k st.last })
        (cond (eqb (st.lev v) (suc d)) (cond (sooner a b st.last d u (far a b (st.last v) v) k (st.last v)) (record { lev = st.lev; last = put v k st.last }) st) st))
    new true t lu =
        let q : st.lev v ≡ top = eqb-true (st.lev v) top t in
        taken h (put v (suc d) st.lev) k u v p e lu (put-hit v (suc d) st.lev) (λ x o. put-miss v (suc d) st.lev x o) (omega (arith, h.room))
        (λ j x i w f l. absurd (omega (arith, h.reached j x v i w f l, h.room)))
    new false t lu = there (eqb (st.lev v) (suc d)) refl lu (eqb-false (st.lev v) top t)

    here : (t : Bool) → eqb (st.lev u) d ≡ t
        → Goal (cond t (cond (eqb (st.lev v) top) (record { lev = put v (suc d) st.lev; last = put v k st.last })
        (cond (eqb (st.lev v) (suc d)) (cond (sooner a b st.last d u (far a b (st.last v) v) k (st.last v)) (record { lev = st.lev; last = put v k st.last }) st) st)) st)
    here true t = new (eqb (st.lev v) top) refl (eqb-true (st.lev u) d t)
    here false t = let n = eqb-false (st.lev u) d t in
        kept h k v (λ x w f l. absurd (n (ap st.lev (sym (ends-other e f)) ∙ l))) (λ x w f l q. absurd (n (ap st.lev (sym (ends-other e f)) ∙ l)))

-- Every record was tried from every tag of level d: the next level is done.
pub level-done : {a b : ℕ → ℕ} {R s d top : ℕ} {Seen : ℕ → ℕ → Type 0} {lev last : ℕ → ℕ} → During a b R s d top Seen lev last → ((k u v : ℕ) → Within R k → Ends a b k u v → lev u ≡ d → Seen k v)
    → Tree a b R s (suc d) lev last × Best a b R s (suc d) lev last
level-done {a} {b} {R} {s} {d} {top} {Seen} {lev} {last} st all = (up, best)
  where
    split : (n : ℕ) → n < suc d → Dec (n < d) → (n < d) ⊎ (n ≡ d)
    split n l (yes h) = inl h
    split n l (no h) = inr (omega arith)

    ins : (v n : ℕ) → lev v ≡ suc n → (n < d) ⊎ (n ≡ d) → Within R (last v)
    ins v n q (inl l) = st.tree.within v n l q
    ins v n q (inr e) = st.within v (rw e at q)

    ons : (v n : ℕ) → lev v ≡ suc n → (n < d) ⊎ (n ≡ d) → Ends a b (last v) (far a b (last v) v) v
    ons v n q (inl l) = st.tree.ends v n l q
    ons v n q (inr e) = st.ends v (rw e at q)

    downs : (v n : ℕ) → lev v ≡ suc n → (n < d) ⊎ (n ≡ d) → lev (far a b (last v) v) ≡ n
    downs v n q (inl l) = st.tree.down v n l q
    downs v n q (inr e) = st.down v (rw e at q) ∙ sym e

    nears : (k u v : ℕ) → Within R k → Ends a b k u v → (lev u < d) ⊎ (lev u ≡ d) → lev v ≤ suc (lev u)
    nears k u v w e (inl l) = st.tree.near k u v w e l
    nears k u v w e (inr q) = omega (arith, st.reached k u v (all k u v w e q) w e q)

    up : Tree a b R s (suc d) lev last
    up = record {
      root = st.tree.root;
      only = st.tree.only;
      within = λ v n l q. ins v n q (split n l (dec_lt n d));
      ends = λ v n l q. ons v n q (split n l (dec_lt n d));
      down = λ v n l q. downs v n q (split n l (dec_lt n d));
      near = λ k u v w e l. nears k u v w e (split (lev u) l (dec_lt (lev u) d));
    }

    last_step : (v n : ℕ) (L : List ℕ) → lev v ≡ suc d → n ≡ suc d → Way a b (Within R) s v L n → NotAfter (climb a b last (suc d) v) L
    last_step v n L q r start = absurd (omega (arith, r))
    last_step v n L q r (step {u = u} {k = k} {n = m} {L = M} w p e) =
        let o : m ≡ d = omega arith in
        let x : Way a b (Within R) s u M d = rw o at w in
        let lu : lev u ≡ d = way-before st.tree x (omega arith) p e q in
        let y : NotAfter (climb a b last d u) M = rw lu at (st.best u M (omega arith) (rw lu x)) in
        after-trans (st.chosen k u v (all k u v p e lu) p e lu q)
        (after-cons k (way-fresh st.tree (climb-way st.tree d u (omega arith) lu) (omega arith) e (omega arith)) (way-fresh st.tree x (omega arith) e (omega arith)) y)

    best : Best a b R s (suc d) lev last
    best v L l w = go (dec_le (lev v) d)
      where
        go : Dec (lev v ≤ d) → NotAfter (climb a b last (lev v) v) L
        go (yes h) = st.best v L h w
        go (no h) = let q : lev v ≡ suc d = omega arith in rw q (last_step v (lev v) L q q w)
