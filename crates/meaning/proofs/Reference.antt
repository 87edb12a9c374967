-- Closing a set of records, on paper: two records that the labels contradict ask for a join, each join lowers the number of classes, and when no two clash the labels are
-- closed. So every finite set of records has a log that joins exactly what follows from it. Assumes nothing.
use Prim.Native.Nat.{ℕ, zero, suc, ◌≤◌, ◌<◌, ◌+◌}
use native.Mathlib.Omega.{arith}
use native.Mathlib.Decide.{ℕ_discrete, dec_lt}
use mathlib.Core.Path.{◌≡◌, refl, sym}
use mathlib.Core.Logic.Dec
use mathlib.Core.Logic.{◌≢◌, ◌↔◌, inl, inr}
use mathlib.Core.Bool.{Bool, true, false}
use mathlib.Core.List.Memᴰ
use mathlib.Core.List.{List, Memᴰ}
use lib.Dec.{T}
use lib.ListN.{length, get_or}
use Rattle.meaning.specs.Following.{Rec, eq, app, At, Follows, Those}
use Rattle.meaning.specs.Joins.{by, cong, Join, Joined, Grounds, equation, applications, Justified, used, all, numbers_of, put}
use Rattle.meaning.specs.Labels.{Labels, into, classes, Agree}
use Rattle.meaning.proofs.Close.{Closed, complete}
use Rattle.meaning.proofs.Log.{linked-follows, linked-same, put-hit, put-miss, grounds-more, used-same}
use Rattle.meaning.proofs.Relabel.{relabel-labels, relabel-agree, relabel-classes, agree_same, Ends, start-agree, start-classes}

-- A search below n.
unfoldable pub any_below : (Q : ℕ → Type 0) → ((i : ℕ) → Dec (Q i)) → (n : ℕ) → Dec ((i : ℕ) × (i < n) × Q i)
any_below Q d zero = no (λ h. omega (arith, h.1))
any_below Q d (suc n) = go (d n) (any_below Q d n)
  where
    below : (Q n → ⊥) → (i : ℕ) → i < suc n → Q i → Dec (i ≡ n) → i < n
    below q i l x (yes p) = absurd (q (rw p at x))
    below q i l x (no p) = omega arith

    go : Dec (Q n) → Dec ((i : ℕ) × (i < n) × Q i) → Dec ((i : ℕ) × (i < suc n) × Q i)
    go (yes q) r = yes (n, omega arith, q)
    go (no q) (yes r) = yes (r.0, omega (arith, r.1), r.2)
    go (no q) (no r) = no (λ h. r (h.0, below q h.0 h.1 h.2 (ℕ_discrete h.0 n), h.2))

pub stable : {A : Type 0} → (¬ A → ⊥) → Dec A → A
stable h (yes a) = a
stable h (no a) = absurd (h a)

-- The labelling f contradicts the first record, or the two together.
abbrev pub Clash : (ℕ → ℕ) → Rec → Rec → Type 0
Clash f (eq a b) r = f a ≢ f b
Clash f (app a b c) (eq a' b') = ⊥
Clash f (app a b c) (app a' b' c') = (f a ≡ f a') × (f b ≡ f b') × (f c ≢ f c')

unfoldable pub dec-clash : (f : ℕ → ℕ) (r r' : Rec) → Dec (Clash f r r')
unfolding ℕ_discrete Dec.not
dec-clash f (eq a b) r = Dec.not (ℕ_discrete (f a) (f b))
dec-clash f (app a b c) (eq a' b') = no (λ x. x)
dec-clash f (app a b c) (app a' b' c') = go (ℕ_discrete (f a) (f a')) (ℕ_discrete (f b) (f b')) (ℕ_discrete (f c) (f c'))
  where
    go : Dec (f a ≡ f a') → Dec (f b ≡ f b') → Dec (f c ≡ f c') → Dec ((f a ≡ f a') × (f b ≡ f b') × (f c ≢ f c'))
    go (no p) q r = no (λ h. p h.0)
    go (yes p) (no q) r = no (λ h. q h.1)
    go (yes p) (yes q) (yes r) = no (λ h. h.2 r)
    go (yes p) (yes q) (no r) = yes (p, q, r)

-- The join that two clashing records ask for.
abbrev pub join_of : ℕ → ℕ → Rec → Rec → Join
join_of k k' (eq a b) r = record { u = a; v = b; why = by k }
join_of k k' (app a b c) (eq a' b') = record { u = c; v = c; why = by k }
join_of k k' (app a b c) (app a' b' c') = record { u = c; v = c'; why = cong k k' }

-- Every tag of a record is below N.
abbrev pub Small : ℕ → Rec → Type 0
Small N (eq a b) = (a < N) × (b < N)
Small N (app a b c) = (a < N) × (b < N) × (c < N)

module _ (N : ℕ) (rs : List Rec) (small : (i : ℕ) → i < length rs → Small N (get_or rs i (eq 0 0))) (p : ℕ → Bool) where
  pub record State : Type 0 where
    pub e : ℕ → Join
    pub n : ℕ
    pub f : ℕ → ℕ
    pub labels : Labels f
    pub agree : Agree e n f
    pub total : n + classes f N ≡ N
    pub sound : Justified rs e n
    pub within : (k : ℕ) → Memᴰ k (used e all n) → T (p k)

  abbrev pub Two : (ℕ → ℕ) → ℕ → ℕ → Type 0
  Two f i i' = T (p (suc i)) × T (p (suc i')) × Clash f (get_or rs i (eq 0 0)) (get_or rs i' (eq 0 0))

  pub clash-ends : (f : ℕ → ℕ) (k k' : ℕ) (r r' : Rec) → Clash f r r' → f (join_of k k' r r').u ≢ f (join_of k k' r r').v
  clash-ends f k k' (eq a b) r' c = c
  clash-ends f k k' (app a b c) (eq a' b') h = absurd h
  clash-ends f k k' (app a b c) (app a' b' c') h = h.2

  pub clash-small : (f : ℕ → ℕ) (k k' : ℕ) (r r' : Rec) → Clash f r r' → Small N r → Small N r' → ((join_of k k' r r').u < N) × ((join_of k k' r r').v < N)
  clash-small f k k' (eq a b) r' c s s' = s
  clash-small f k k' (app a b c) (eq a' b') h s s' = absurd h
  clash-small f k k' (app a b c) (app a' b' c') h s s' = (s.2, s'.2)

  pub clash-grounds : (e : ℕ → Join) (n : ℕ) (f : ℕ → ℕ) → Agree e n f → (k k' : ℕ) (r r' : Rec) → Clash f r r' → At rs k r → At rs k' r'
      → Grounds rs (Joined e n) (join_of k k' r r').u (join_of k k' r r').v (join_of k k' r r').why
  clash-grounds e n f A k k' (eq a b) r' c i i' = equation i
  clash-grounds e n f A k k' (app a b c) (eq a' b') h i i' = absurd h
  clash-grounds e n f A k k' (app a b c) (app a' b' c') h i i' = applications i i' (A.joins a a' h.0) (A.joins b b' h.1)

  pub clash-within : (f : ℕ → ℕ) (k k' : ℕ) (r r' : Rec) → Clash f r r' → T (p k) → T (p k') → (n : ℕ) → Memᴰ n (numbers_of (join_of k k' r r').why) → T (p n)
  clash-within f k k' (eq a b) r' c t t' n i = rw (Memᴰ.eq_of_singleton i) t
  clash-within f k k' (app a b c) (eq a' b') h t t' n i = absurd h
  clash-within f k k' (app a b c) (app a' b' c') h t t' n i = elim (Memᴰ.cases_cons i) [ inl e ↦ rw e t | inr j ↦ rw (Memᴰ.eq_of_singleton j) t' ]

  add : (s : State) (j : Join) (lo hi : ℕ) → s.f lo ≡ lo → s.f hi ≡ hi → lo < hi → hi < N → Ends s.f lo hi j
      → Grounds rs (Joined s.e s.n) j.u j.v j.why → ((k : ℕ) → Memᴰ k (numbers_of j.why) → T (p k)) → State
  add s j lo hi own own' less small h g w = record {
    e = e';
    n = suc s.n;
    f = λ x. into lo hi (s.f x);
    labels = relabel-labels s.f lo hi s.labels own own' less;
    agree = relabel-agree e' s.n s.f (agree_same old (λ x. refl) s.agree) lo hi less (rw new h);
    total = omega (arith, relabel-classes s.f lo hi s.labels own own' less N small, s.total);
    sound = λ a l o. sound a l (ℕ_discrete a s.n);
    within = λ k i. elim (Memᴰ.append_cases (numbers_of (e' s.n).why) i) [ inl q ↦ w k (rw new at q) | inr q ↦ s.within k (rw (used-same s.e e' all s.n old) q) ];
  }
    where
      e' : ℕ → Join
      e' = put s.n j s.e

      new : e' s.n ≡ j
      new = put-hit s.n j s.e

      old : (a : ℕ) → a < s.n → s.e a ≡ e' a
      old a l = sym (put-miss s.n j s.e a (omega arith))

      sound : (a : ℕ) → a < suc s.n → Dec (a ≡ s.n) → Grounds rs (Joined e' a) (e' a).u (e' a).v (e' a).why
      sound a l (yes q) = rw (q, new) (grounds-more (λ x y. linked-same old) g)
      sound a l (no q) = rw (← (old a (omega arith))) (grounds-more (λ x y. linked-same (λ b k. old b (omega arith))) (s.sound a (omega arith) tt))

  -- A clash is mended by one more join.
  mend : (s : State) (i i' : ℕ) → i < length rs → i' < length rs → Two s.f i i' → (s' : State) × (s'.n ≡ suc s.n)
  unfolding add dec_lt
  mend s i i' l l' c = go (dec_lt (s.f j.u) (s.f j.v))
    where
      r : Rec
      r = get_or rs i (eq 0 0)

      r' : Rec
      r' = get_or rs i' (eq 0 0)

      j : Join
      j = join_of (suc i) (suc i') r r'

      apart : s.f j.u ≢ s.f j.v
      apart = clash-ends s.f (suc i) (suc i') r r' c.2

      tags : (j.u < N) × (j.v < N)
      tags = clash-small s.f (suc i) (suc i') r r' c.2 (small i l) (small i' l')

      g : Grounds rs (Joined s.e s.n) j.u j.v j.why
      g = clash-grounds s.e s.n s.f s.agree (suc i) (suc i') r r' c.2
          (record { place = i; number = refl; stands = l; is = refl }) (record { place = i'; number = refl; stands = l'; is = refl })

      w : (n : ℕ) → Memᴰ n (numbers_of j.why) → T (p n)
      w = clash-within s.f (suc i) (suc i') r r' c.2 c.0 c.1

      go : Dec (s.f j.u < s.f j.v) → (s' : State) × (s'.n ≡ suc s.n)
      go (yes h) = (add s j (s.f j.u) (s.f j.v) (s.labels.flat j.u) (s.labels.flat j.v) h (omega (arith, s.labels.low j.v, tags)) (inl (refl, refl)) g w, refl)
      go (no h) = (add s j (s.f j.v) (s.f j.u) (s.labels.flat j.v) (s.labels.flat j.u) (omega (arith, apart)) (omega (arith, s.labels.low j.u, tags)) (inr (refl, refl)) g w, refl)

  pub record Done : Type 0 where
    pub state : State
    pub closed : Closed (Those rs (λ k. T (p k))) state.f

  abbrev pub Any : State → Type 0
  Any s = (i : ℕ) × (i < length rs) × ((i' : ℕ) × (i' < length rs) × Two s.f i i')

  look : (s : State) → Dec (Any s)
  unfolding any_below dec-clash
  look s = any_below (λ i. (i' : ℕ) × (i' < length rs) × Two s.f i i') (λ i. any_below (λ i'. Two s.f i i') (λ i'. two i i') (length rs)) (length rs)
    where
      two : (i i' : ℕ) → Dec (Two s.f i i')
      two i i' = go (p (suc i)) (p (suc i')) (dec-clash s.f (get_or rs i (eq 0 0)) (get_or rs i' (eq 0 0)))
        where
          go : (b b' : Bool) → {C : Type 0} → Dec C → Dec (T b × T b' × C)
          go true true (yes c) = yes (tt, tt, c)
          go true true (no c) = no (λ h. c h.2)
          go true false d = no (λ h. h.1)
          go false b' d = no (λ h. h.0)

  no-clash : (s : State) → (Any s → ⊥) → (r r' : Rec) → Those rs (λ k. T (p k)) r → Those rs (λ k. T (p k)) r' → Clash s.f r r' → ⊥
  no-clash s h r r' i i' c = h (i.2.place, i.2.stands, (i'.2.place, i'.2.stands, (rw i.2.number at i.1, rw i'.2.number at i'.1, rw (i.2.is, i'.2.is) c)))

  pub none-closed : (s : State) → (Any s → ⊥) → Closed (Those rs (λ k. T (p k))) s.f
  none-closed s h = record { equal = λ i. equal _ _ i; apart = λ i i' e e'. apart _ _ _ _ _ _ i i' e e' }
    where
      equal : (a b : ℕ) → Those rs (λ k. T (p k)) (eq a b) → s.f a ≡ s.f b
      equal a b i = stable (no-clash s h (eq a b) (eq a b) i i) (ℕ_discrete (s.f a) (s.f b))

      apart : (a b c a' b' c' : ℕ) → Those rs (λ k. T (p k)) (app a b c) → Those rs (λ k. T (p k)) (app a' b' c') → s.f a ≡ s.f a' → s.f b ≡ s.f b' → s.f c ≡ s.f c'
      apart a b c a' b' c' i i' e e' = stable (λ n. no-clash s h (app a b c) (app a' b' c') i i' (e, e', n)) (ℕ_discrete (s.f c) (s.f c'))

  unfoldable pub run : (n : ℕ) (s : State) → N ≤ s.n + n → Done
  unfolding look mend
  run zero s l = go (look s)
    where
      go : Dec (Any s) → Done
      go (yes c) = let r = mend s c.0 c.2.0 c.1 c.2.1 c.2.2 in absurd (omega (arith, r.1, r.0.total))
      go (no c) = record { state = s; closed = none-closed s c }
  run (suc n) s l = go (look s) (λ s' l'. run n s' l')
    where
      go : Dec (Any s) → ((s' : State) → N ≤ s'.n + n → Done) → Done
      go (yes c) f = let r = mend s c.0 c.2.0 c.1 c.2.1 c.2.2 in f r.0 (omega (arith, r.1))
      go (no c) f = record { state = s; closed = none-closed s c }

  unfoldable pub done : Done
  unfolding run
  done = run N start (omega arith)
    where
      start : State
      start = record {
        e = λ a. record { u = 0; v = 0; why = by 0 };
        n = 0;
        f = λ x. x;
        labels = record { low = λ x. omega arith; flat = λ x. refl };
        agree = start-agree _;
        total = rw start-classes (omega arith);
        sound = λ a l. absurd (omega arith);
        within = λ k i. absurd (Memᴰ.not-nil i);
      }

  -- Its labels are equal exactly where equality follows.
  pub done-same : (d : Done) (s t : ℕ) → Follows (Those rs (λ k. T (p k))) s t ↔ (d.state.f s ≡ d.state.f t)
  done-same d s t = (λ h. complete d.closed h, λ e. linked-follows rs d.state.e all (λ k. T (p k)) d.state.n d.state.sound d.state.within s t (d.state.agree.joins s t e))
