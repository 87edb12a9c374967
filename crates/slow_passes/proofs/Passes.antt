-- A pass on labels: the old ones stay as they are, and the new ones, which begin as the old, are joined at the ends of each equation and at the results of each application and of the
-- last one that has its old labels for arguments. So each pass is decided, each that changes something leaves a class fewer, there are at most N-1 of them, and after them
-- the classes are those of what follows. Assumes nothing.
use Prim.Native.Nat.{ℕ, zero, suc, min, ◌+◌, ◌-◌, ◌≤◌, ◌<◌}
use native.Mathlib.Omega.{arith}
use native.Mathlib.Decide.{ℕ_discrete, dec_lt}
use mathlib.Core.Path.{◌≡◌, refl, sym, ◌∙◌, ap, ap₂, fun_ext, subst}
use mathlib.Core.Logic.Dec
use mathlib.Core.Logic.{◌≢◌, ◌↔◌, ◌⊎◌, inl, inr}
use mathlib.Core.Bool.{Bool, true, false, cond, ◌&&◌}
use mathlib.Core.List.{List}
use lib.Dec.{T, eqb, eqb→eq, ltb}
use borrow.Author.Tests.{eq-eqb, lt-ltb, le-ltb}
use lib.ListN.{length, get_or}
use lib.Seq.{ext_get_or}
use Rattle.meaning.specs.Following.{Rec, eq, app, Follows, same, flip, chain, given, congruent, UpTo, Least, Leader, unit as l-unit, no-unit as l-no-unit}
use Rattle.meaning.specs.Joins.{count, tick}
use Rattle.meaning.specs.Labels.{Labels, into, classes}
use Rattle.meaning.proofs.Close.{follows-least}
use Rattle.meaning.proofs.Leaders.{least-of}
use Rattle.meaning.proofs.Reference.{Small, any_below, stable}
use Rattle.meaning.proofs.Decide.{dec_iff}
use Rattle.meaning.proofs.Laws.{small-those, follows-small}
use Rattle.meaning.proofs.Relabel.{into-hit, into-miss, into-same, relabel-labels, start-classes}
use Rattle.meaning.proofs.Short.{some-class}
use Rattle.meaning.proofs.Units.{found-leader}
use Rattle.meaning.specs.Seats.{Found, first, nowhere}
use Rattle.meaning.specs.Looks.{Led}
use Rattle.meaning.proofs.Looks.{led-one}
use Rattle.slow_passes.specs.Passes.{Pass, same as p-same, flip as p-flip, chain as p-chain, held, given as p-given, together, After, Changes, Passes, Every, Slow, finished, spent, Heads, unit, no-unit, Shown, Told, limited, watched}

-- A pass is the least of the equivalences that hold what it holds.
pub record Holding (S : Rec → Type 0) (R E : ℕ → ℕ → Type 0) : Type 0 where
  pub reflexive : {a : ℕ} → E a a
  pub symmetric : {a b : ℕ} → E a b → E b a
  pub transitive : {a b c : ℕ} → E a b → E b c → E a c
  pub present : {a b : ℕ} → R a b → E a b
  pub equations : {a b : ℕ} → S (eq a b) → E a b
  pub results : {a b c a' b' c' : ℕ} → S (app a b c) → S (app a' b' c') → R a a' → R b b' → E c c'

pub pass-least : {S : Rec → Type 0} {R E : ℕ → ℕ → Type 0} → Holding S R E → {s t : ℕ} → Pass S R s t → E s t
pass-least h p-same = h.reflexive
pass-least h (p-flip p) = h.symmetric (pass-least h p)
pass-least h (p-chain p q) = h.transitive (pass-least h p) (pass-least h q)
pass-least h (held r) = h.present r
pass-least h (p-given i) = h.equations i
pass-least h (together i j r r') = h.results i j r r'

-- More present classes make no fewer.
pub pass-more : {S : Rec → Type 0} {R R' : ℕ → ℕ → Type 0} → ((a b : ℕ) → R a b → R' a b) → {s t : ℕ} → Pass S R s t → Pass S R' s t
pass-more {S} {R} {R'} h = pass-least {E = Pass S R'} (record {
  reflexive = p-same;
  symmetric = p-flip;
  transitive = p-chain;
  present = λ r. held (h _ _ r);
  equations = p-given;
  results = λ i j r r'. together i j (h _ _ r) (h _ _ r');
})

-- What passes bring together follows.
pub after-follows : {S : Rec → Type 0} (n : ℕ) {s t : ℕ} → After S n s t → Follows S s t
after-follows zero q = rw q same
after-follows {S} (suc n) p = pass-least {E = Follows S} (record {
  reflexive = same;
  symmetric = flip;
  transitive = chain;
  present = λ r. after-follows n r;
  equations = given;
  results = λ i j r r'. congruent i j (after-follows n r) (after-follows n r');
}) p

-- The count is one.
pub passes-one : {S : Rec → Type 0} {c c' : ℕ} → Passes S c → Passes S c' → c ≡ c'
passes-one {S} {c} {c'} p p' =
    let a : ¬ (c < c') = λ l. p.still c (omega arith) (p'.changing c l) in
    let b : ¬ (c' < c) = λ l. p'.still c' (omega arith) (p.changing c' l) in
    omega arith

-- Two labels become one, the smaller of them.
abbrev pub unite : ℕ → ℕ → (ℕ → ℕ) → ℕ → ℕ
unite u v g x = cond (ltb (g u) (g v)) (into (g u) (g v) (g x)) (into (g v) (g u) (g x))

-- What it leaves: labels, those that were equal still are, the two ends are now, and nothing else.
pub record United (g g' : ℕ → ℕ) (u v : ℕ) : Type 0 where
  pub labels : Labels g'
  pub keeps : (x y : ℕ) → g x ≡ g y → g' x ≡ g' y
  pub ends : g' u ≡ g' v
  pub only : (x y : ℕ) → g' x ≡ g' y → (g x ≡ g y) ⊎ (((g x ≡ g u) × (g y ≡ g v)) ⊎ ((g x ≡ g v) × (g y ≡ g u)))

into-itself : (z y : ℕ) → into z z y ≡ y
into-itself z y = elim (ℕ_discrete y z) [ yes e ↦ rw e (into-hit z z) | no d ↦ into-miss z z y d ]

pub unite-united : (g : ℕ → ℕ) → Labels g → (u v : ℕ) → United g (unite u v g) u v
unite-united g L u v = go (dec_lt (g u) (g v)) (dec_lt (g v) (g u))
  where
    swap : {x y : ℕ} → (g x ≡ g y) ⊎ (((g x ≡ g v) × (g y ≡ g u)) ⊎ ((g x ≡ g u) × (g y ≡ g v))) → (g x ≡ g y) ⊎ (((g x ≡ g u) × (g y ≡ g v)) ⊎ ((g x ≡ g v) × (g y ≡ g u)))
    swap (inl e) = inl e
    swap (inr (inl e)) = inr (inr e)
    swap (inr (inr e)) = inr (inl e)

    up : g u < g v → United g (λ x. into (g u) (g v) (g x)) u v
    up l = record {
      labels = relabel-labels g (g u) (g v) L (L.flat u) (L.flat v) l;
      keeps = λ x y e. ap (into (g u) (g v)) e;
      ends = into-miss (g u) (g v) (g u) (omega arith) ∙ sym (into-hit (g u) (g v));
      only = λ x y e. into-same (g u) (g v) (g x) (g y) e;
    }

    down : g v < g u → United g (λ x. into (g v) (g u) (g x)) u v
    down l = record {
      labels = relabel-labels g (g v) (g u) L (L.flat v) (L.flat u) l;
      keeps = λ x y e. ap (into (g v) (g u)) e;
      ends = into-hit (g v) (g u) ∙ sym (into-miss (g v) (g u) (g v) (omega arith));
      only = λ x y e. swap (into-same (g v) (g u) (g x) (g y) e);
    }

    level : g u ≡ g v → United g (λ x. into (g v) (g u) (g x)) u v
    level e = rw e (record {
      labels = record { low = λ x. rw (into-itself (g v) (g x)) (L.low x); flat = λ x. rw (into-itself (g v) (g x), into-itself (g v) (g (g x))) (L.flat x) };
      keeps = λ x y q. ap (into (g v) (g v)) q;
      ends = ap (into (g v) (g v)) e;
      only = λ x y q. inl (sym (into-itself (g v) (g x)) ∙ q ∙ into-itself (g v) (g y));
    })

    first : g u < g v → (λ x. into (g u) (g v) (g x)) ≡ unite u v g
    first l = fun_ext (λ x. rw (lt-ltb (g u) (g v) l))

    second : g v ≤ g u → (λ x. into (g v) (g u) (g x)) ≡ unite u v g
    second l = fun_ext (λ x. rw (le-ltb (g u) (g v) l))

    go : Dec (g u < g v) → Dec (g v < g u) → United g (unite u v g) u v
    go (yes l) d = subst (λ (h : ℕ → ℕ). United g h u v) (first l) (up l)
    go (no l) (yes k) = subst (λ (h : ℕ → ℕ). United g h u v) (second (omega arith)) (down k)
    go (no l) (no k) = subst (λ (h : ℕ → ℕ). United g h u v) (second (omega arith)) (level (omega arith))

-- The last place below n that passes a test.
abbrev pub last_of : (ℕ → Bool) → ℕ → ℕ
last_of t zero = zero
last_of t (suc n) = cond (t n) n (last_of t n)

pub last_found : (t : ℕ → Bool) (n j : ℕ) → j < n → T (t j) → (last_of t n < n) × T (t (last_of t n))
last_found t zero j l h = absurd (omega arith)
last_found t (suc n) j l h = go (t n) refl (ℕ_discrete j n) (last_found t n j)
  where
    go : (b : Bool) → t n ≡ b → Dec (j ≡ n) → (j < n → T (t j) → (last_of t n < n) × T (t (last_of t n))) → (cond b n (last_of t n) < suc n) × T (t (cond b n (last_of t n)))
    go true e d f = (omega arith, rw e tt)
    go false e (yes q) f = absurd (rw (q, e) at h)
    go false e (no q) f = let r = f (omega arith) h in (omega (arith, r.0), r.1)

-- By the old labels f, the application of a record has the labels x and y for arguments.
abbrev pub hit : (ℕ → ℕ) → ℕ → ℕ → Rec → Bool
hit f x y (eq a b) = false
hit f x y (app a b c) = eqb (f a) x && eqb (f b) y

abbrev pub result_of : Rec → ℕ
result_of (eq a b) = a
result_of (app a b c) = c

-- The result of the one that is looked up by them, ..
abbrev pub own : List Rec → (ℕ → ℕ) → ℕ → ℕ → ℕ
own rs f x y = result_of (get_or rs (last_of (λ i. hit f x y (get_or rs i (eq 0 0))) (length rs)) (eq 0 0))

-- .. and the two tags that a record asks to be joined.
abbrev pub near : Rec → ℕ
near (eq a b) = a
near (app a b c) = c

abbrev pub far : List Rec → (ℕ → ℕ) → Rec → ℕ
far rs f (eq a b) = b
far rs f (app a b c) = own rs f (f a) (f b)

-- The new labels after i records, and after all of them.
abbrev pub new_labels : List Rec → (ℕ → ℕ) → ℕ → ℕ → ℕ
new_labels rs f zero = f
new_labels rs f (suc i) = unite (near (get_or rs i (eq 0 0))) (far rs f (get_or rs i (eq 0 0))) (new_labels rs f i)

abbrev pub passed : List Rec → (ℕ → ℕ) → ℕ → ℕ
passed rs f = new_labels rs f (length rs)

-- Labels that are equal exactly where R holds.
abbrev pub Exact : (ℕ → ℕ → Type 0) → (ℕ → ℕ) → Type 0
Exact R f = (x y : ℕ) → R x y ↔ (f x ≡ f y)

and_both : (a b : Bool) → T a → T b → T (a && b)
and_both true b s t = t
and_both false b s t = s

and_split : (a b : Bool) → T (a && b) → T a × T b
and_split true b t = (tt, t)
and_split false b t = absurd t

module _ (rs : List Rec) (f : ℕ → ℕ) (L : Labels f) (R : ℕ → ℕ → Type 0) (exact : Exact R f) where
  abbrev S : Rec → Type 0
  S = UpTo rs (length rs)

  place_in : (i : ℕ) → i < length rs → {r : Rec} → get_or rs i (eq 0 0) ≡ r → S r
  place_in i l e = (suc i, l, record { place = i; number = refl; stands = l; is = e })

  -- The one that is looked up is an application with these labels for arguments.
  own-there : (a b c : ℕ) → S (app a b c) → Pass S R c (own rs f (f a) (f b))
  own-there a b c i =
      let t : ℕ → Bool = λ j. hit f (f a) (f b) (get_or rs j (eq 0 0)) in
      let h : T (t i.2.place) = rw i.2.is (and_both (eqb (f a) (f a)) (eqb (f b) (f b)) (rw (eq-eqb (f a) (f a) refl) tt) (rw (eq-eqb (f b) (f b) refl) tt)) in
      let r = last_found t (length rs) i.2.place i.2.stands h in
      go (get_or rs (last_of t (length rs)) (eq 0 0)) (place_in (last_of t (length rs)) r.0 refl) r.1
    where
      go : (q : Rec) → S q → T (hit f (f a) (f b) q) → Pass S R c (result_of q)
      go (eq a' b') j h = absurd h
      go (app a' b' c') j h =
          let z = and_split (eqb (f a') (f a)) (eqb (f b') (f b)) h in
          together i j ((exact a a').1 (sym (eqb→eq (f a') (f a) z.0))) ((exact b b').1 (sym (eqb→eq (f b') (f b) z.1)))

  asked : (r : Rec) → S r → Pass S R (near r) (far rs f r)
  asked (eq a b) i = p-given i
  asked (app a b c) i = own-there a b c i

  -- After i records: labels, no fewer together, and all within the pass.
  record Going (i : ℕ) (g : ℕ → ℕ) : Type 0 where
    labels : Labels g
    keeps : (x y : ℕ) → f x ≡ f y → g x ≡ g y
    sound : (x y : ℕ) → g x ≡ g y → Pass S R x y
    done : (j : ℕ) → j < i → g (near (get_or rs j (eq 0 0))) ≡ g (far rs f (get_or rs j (eq 0 0)))

  going : (i : ℕ) → i ≤ length rs → Going i (new_labels rs f i)
  going zero l = record { labels = L; keeps = λ x y e. e; sound = λ x y e. held ((exact x y).1 e); done = λ j k. absurd (omega arith) }
  going (suc i) l = go (going i (omega arith))
    where
      r : Rec
      r = get_or rs i (eq 0 0)

      go : Going i (new_labels rs f i) → Going (suc i) (new_labels rs f (suc i))
      go h = record {
        labels = U.labels;
        keeps = λ x y e. U.keeps x y (h.keeps x y e);
        sound = λ x y e. sound x y (U.only x y e);
        done = λ j k. done j k (ℕ_discrete j i);
      }
        where
          g : ℕ → ℕ
          g = new_labels rs f i

          U : United g (unite (near r) (far rs f r) g) (near r) (far rs f r)
          U = unite-united g h.labels (near r) (far rs f r)

          new : Pass S R (near r) (far rs f r)
          new = asked r (place_in i l refl)

          sound : (x y : ℕ) → (g x ≡ g y) ⊎ (((g x ≡ g (near r)) × (g y ≡ g (far rs f r))) ⊎ ((g x ≡ g (far rs f r)) × (g y ≡ g (near r)))) → Pass S R x y
          sound x y (inl e) = h.sound x y e
          sound x y (inr (inl e)) = p-chain (h.sound x (near r) e.0) (p-chain new (p-flip (h.sound y (far rs f r) e.1)))
          sound x y (inr (inr e)) = p-chain (h.sound x (far rs f r) e.0) (p-chain (p-flip new) (p-flip (h.sound y (near r) e.1)))

          done : (j : ℕ) → j < suc i → Dec (j ≡ i) → new_labels rs f (suc i) (near (get_or rs j (eq 0 0))) ≡ new_labels rs f (suc i) (far rs f (get_or rs j (eq 0 0)))
          done j k (yes q) = rw q U.ends
          done j k (no q) = U.keeps _ _ (h.done j (omega arith))

  all_done : Going (length rs) (passed rs f)
  all_done = going (length rs) (omega arith)

  done-rec : (r : Rec) → S r → passed rs f (near r) ≡ passed rs f (far rs f r)
  done-rec r i = rw i.2.is at (all_done.done i.2.place i.2.stands)

  -- The new labels are those of the pass.
  pub passed-exact : Exact (Pass S R) (passed rs f)
  passed-exact x y = (
    pass-least {E = λ s t. passed rs f s ≡ passed rs f t} (record {
      reflexive = refl;
      symmetric = sym;
      transitive = ◌∙◌;
      present = λ r. all_done.keeps _ _ ((exact _ _).0 r);
      equations = λ i. done-rec (eq _ _) i;
      results = λ {a} {b} {c} {a'} {b'} {c'} i j r r'. done-rec (app a b c) i ∙ ap (passed rs f) (ap₂ (own rs f) ((exact a a').0 r) ((exact b b').0 r')) ∙ sym (done-rec (app a' b' c') j);
    }),
    all_done.sound x y,
  )

  pub passed-labels : Labels (passed rs f)
  passed-labels = all_done.labels

  pub passed-keeps : (x y : ℕ) → f x ≡ f y → passed rs f x ≡ passed rs f y
  passed-keeps = all_done.keeps

  -- A pass that joins two labels changes something, ..
  pub joined-changes : (i : ℕ) → i < length rs → new_labels rs f i (near (get_or rs i (eq 0 0))) ≢ new_labels rs f i (far rs f (get_or rs i (eq 0 0)))
      → Pass S R (near (get_or rs i (eq 0 0))) (far rs f (get_or rs i (eq 0 0))) × (R (near (get_or rs i (eq 0 0))) (far rs f (get_or rs i (eq 0 0))) → ⊥)
  joined-changes i l d = (asked (get_or rs i (eq 0 0)) (place_in i l refl), λ r. d ((going i (omega arith)).keeps _ _ ((exact _ _).0 r)))

-- .. and one that joins none leaves the labels as they are.
unite-level : (u v : ℕ) (g : ℕ → ℕ) → g u ≡ g v → (x : ℕ) → unite u v g x ≡ g x
unite-level u v g e x = rw (le-ltb (g u) (g v) (omega arith), e) (into-itself (g v) (g x))

pub none-joined : (rs : List Rec) (f : ℕ → ℕ) (n : ℕ) → ((i : ℕ) → i < n → new_labels rs f i (near (get_or rs i (eq 0 0))) ≡ new_labels rs f i (far rs f (get_or rs i (eq 0 0)))) → (x : ℕ) → new_labels rs f n x ≡ f x
none-joined rs f zero h x = refl
none-joined rs f (suc n) h x = unite-level (near (get_or rs n (eq 0 0))) (far rs f (get_or rs n (eq 0 0))) (new_labels rs f n) (h n (omega arith)) x ∙ none-joined rs f n (λ i l. h i (omega arith)) x

-- Fewer pass a stronger test, and fewer still where one does not that passed the other.
count_under : (p q : ℕ → Bool) → ((x : ℕ) → T (p x) → T (q x)) → (n : ℕ) → count p n ≤ count q n
count_under p q h zero = omega arith
count_under p q h (suc n) = go (p n) (q n) (h n) (count_under p q h n)
  where
    go : (b c : Bool) → (T b → T c) → count p n ≤ count q n → tick b (count p n) ≤ tick c (count q n)
    go true true f l = omega arith
    go true false f l = absurd (f tt)
    go false true f l = omega arith
    go false false f l = l

count-lower : (p q : ℕ → Bool) → ((x : ℕ) → T (p x) → T (q x)) → (h : ℕ) → (T (p h) → ⊥) → T (q h) → (n : ℕ) → h < n → count p n < count q n
count-lower p q f h a b zero l = absurd (omega arith)
count-lower p q f h a b (suc n) l = go (p n) (q n) refl refl (f n) (count_under p q f n) (ℕ_discrete n h) (count-lower p q f h a b n)
  where
    go : (c d : Bool) → p n ≡ c → q n ≡ d → (T c → T d) → count p n ≤ count q n → Dec (n ≡ h) → (h < n → count p n < count q n) → tick c (count p n) < tick d (count q n)
    go true d ep eq' f k (yes e) g = absurd (a (rw (← e, ep) tt))
    go false true ep eq' f k (yes e) g = omega arith
    go false false ep eq' f k (yes e) g = absurd (rw (← e, eq') at b)
    go true true ep eq' f k (no e) g = omega (arith, g (omega arith))
    go true false ep eq' f k (no e) g = absurd (f tt)
    go false true ep eq' f k (no e) g = omega (arith, g (omega arith))
    go false false ep eq' f k (no e) g = g (omega arith)

-- Coarser labels that bring two tags together have fewer classes.
module _ (f g : ℕ → ℕ) (F : Labels f) (G : Labels g) (wider : (x y : ℕ) → f x ≡ f y → g x ≡ g y) where
  own-own : (x : ℕ) → T (eqb (g x) x) → T (eqb (f x) x)
  own-own x t =
      let e : g x ≡ x = eqb→eq (g x) x t in
      let q : g (f x) ≡ g x = wider (f x) x (F.flat x) in
      rw (eq-eqb (f x) x (omega (arith, F.low x, G.low (f x), e, q))) tt

  pub fewer-classes : (N a b : ℕ) → a < N → b < N → g a ≡ g b → f a ≢ f b → classes g N < classes f N
  fewer-classes N a b l k e d = go (ℕ_discrete (g (f a)) (f a)) (ℕ_discrete (g (f b)) (f b))
    where
      lower : (h : ℕ) → h < N → g h ≢ h → f h ≡ h → classes g N < classes f N
      lower h l n q = count-lower (λ x. eqb (g x) x) (λ x. eqb (f x) x) own-own h (λ t. n (eqb→eq (g h) h t)) (rw (eq-eqb (f h) h q) tt) N l

      one : g (f a) ≡ g (f b)
      one = wider (f a) a (F.flat a) ∙ e ∙ sym (wider (f b) b (F.flat b))

      go : Dec (g (f a) ≡ f a) → Dec (g (f b) ≡ f b) → classes g N < classes f N
      go (no n) m = lower (f a) (omega (arith, F.low a)) n (F.flat a)
      go (yes n) (no m) = lower (f b) (omega (arith, F.low b)) m (F.flat b)
      go (yes n) (yes m) = absurd (d (sym n ∙ one ∙ m))

-- The labels after n passes.
abbrev pub labels_after : List Rec → ℕ → ℕ → ℕ
labels_after rs zero = λ x. x
labels_after rs (suc n) = passed rs (labels_after rs n)

-- What is equal is the same tag or two tags of the job.
module _ (N : ℕ) {S : Rec → Type 0} (small : (r : Rec) → S r → Small N r) where
  abbrev Inside : ℕ → ℕ → Type 0
  Inside s t = (s ≡ t) ⊎ ((s < N) × (t < N))

  turn : {s t : ℕ} → Inside s t → Inside t s
  turn (inl e) = inl (sym e)
  turn (inr l) = inr (l.1, l.0)

  on : {s t u : ℕ} → Inside s t → Inside t u → Inside s u
  on (inl e) h = rw e h
  on (inr l) (inl e) = inr (l.0, rw (← e) l.1)
  on (inr l) (inr k) = inr (l.0, k.1)

  pub follows-inside : {s t : ℕ} → Follows S s t → Inside s t
  follows-inside = follows-least {R = Inside} (record {
    reflexive = inl refl;
    symmetric = turn;
    transitive = on;
    equations = λ {a} {b} i. inr (small (eq a b) i);
    applications = λ {a} {b} {c} {a'} {b'} {c'} i j p q. inr ((small (app a b c) i).2, (small (app a' b' c') j).2);
  })

module _ (N : ℕ) (rs : List Rec) (small : (i : ℕ) → i < length rs → Small N (get_or rs i (eq 0 0))) where
  abbrev All : Rec → Type 0
  All = Every rs

  abbrev lab : ℕ → ℕ → ℕ
  lab = labels_after rs

  pub after_both : (n : ℕ) → Labels (lab n) × Exact (After All n) (lab n)
  after_both zero = (record { low = λ x. omega arith; flat = λ x. refl }, λ x y. (λ e. e, λ e. e))
  after_both (suc n) = let h = after_both n in (passed-labels rs (lab n) h.0 (After All n) h.1, passed-exact rs (lab n) h.0 (After All n) h.1)

  wider-next : (n x y : ℕ) → lab n x ≡ lab n y → lab (suc n) x ≡ lab (suc n) y
  wider-next n = let h = after_both n in passed-keeps rs (lab n) h.0 (After All n) h.1

  -- A pass changes something exactly if a label changes.
  abbrev Moved : ℕ → Type 0
  Moved n = (x : ℕ) × (x < N) × (lab (suc n) x ≢ lab n x)

  moved-changes : (n : ℕ) → Moved n → Changes All n
  moved-changes n m =
      let h = after_both n in
      let h' = after_both (suc n) in
      let x = m.0 in
      let z : lab (suc n) (lab n x) ≡ lab (suc n) x = wider-next n (lab n x) x (h.0.flat x) in
      record {
        one = x;
        other = lab (suc n) x;
        together = (h'.1 x (lab (suc n) x)).1 (sym (h'.0.flat x));
        apart = λ r. let e : lab n x ≡ lab n (lab (suc n) x) = (h.1 x (lab (suc n) x)).0 r in
            m.2 (omega (arith, e, z, h.0.low (lab (suc n) x), h'.0.low (lab n x)));
      }

  changes-apart : (n : ℕ) (c : Changes All n) → (lab (suc n) c.one ≡ lab (suc n) c.other) × (lab n c.one ≢ lab n c.other) × (c.one < N) × (c.other < N)
  changes-apart n c = go (follows-inside N (small-those N small) (after-follows (suc n) c.together))
    where
      e : lab (suc n) c.one ≡ lab (suc n) c.other
      e = ((after_both (suc n)).1 c.one c.other).0 c.together

      d : lab n c.one ≢ lab n c.other
      d q = c.apart (((after_both n).1 c.one c.other).1 q)

      go : (c.one ≡ c.other) ⊎ ((c.one < N) × (c.other < N)) → (lab (suc n) c.one ≡ lab (suc n) c.other) × (lab n c.one ≢ lab n c.other) × (c.one < N) × (c.other < N)
      go (inl q) = absurd (d (ap (lab n) q))
      go (inr l) = (e, d, l.0, l.1)

  changes-moved : (n : ℕ) → Changes All n → Moved n
  changes-moved n c = let h = changes-apart n c in go h (ℕ_discrete (lab (suc n) c.one) (lab n c.one))
    where
      go : (lab (suc n) c.one ≡ lab (suc n) c.other) × (lab n c.one ≢ lab n c.other) × (c.one < N) × (c.other < N) → Dec (lab (suc n) c.one ≡ lab n c.one) → Moved n
      go h (no d) = (c.one, h.2, d)
      go h (yes q) = (c.other, h.3, λ r. h.1 (sym q ∙ h.0 ∙ r))

  pub changes-iff : (n : ℕ) → Moved n ↔ Changes All n
  changes-iff n = (moved-changes n, changes-moved n)

  unfoldable pub dec_changes : (n : ℕ) → Dec (Changes All n)
  unfolding dec_iff any_below Dec.not ℕ_discrete
  dec_changes n = dec_iff (changes-iff n) (any_below (λ x. lab (suc n) x ≢ lab n x) (λ x. Dec.not (ℕ_discrete (lab (suc n) x) (lab n x))) N)

  pub changes-fewer : (n : ℕ) → Changes All n → classes (lab (suc n)) N < classes (lab n) N
  changes-fewer n c =
      let h = changes-apart n c in
      fewer-classes (lab n) (lab (suc n)) (after_both n).0 (after_both (suc n)).0 (wider-next n) N c.one c.other h.2 h.3 h.0 h.1

  -- A pass that changes nothing leaves nothing to the next.
  still-same : (n : ℕ) → (Changes All n → ⊥) → (a b : ℕ) → After All (suc n) a b → After All n a b
  still-same n d a b p = ((after_both n).1 a b).1 (stable (λ q. d (record { one = a; other = b; together = p; apart = λ r. q (((after_both n).1 a b).0 r) })) (ℕ_discrete (lab n a) (lab n b)))

  still-next : (n : ℕ) → (Changes All n → ⊥) → Changes All (suc n) → ⊥
  still-next n d c = c.apart (pass-more (still-same n d) c.together)

  pub still-on : (n m : ℕ) → (Changes All n → ⊥) → n ≤ m → Changes All m → ⊥
  still-on n zero d l c = d (rw (omega_eq n l) c)
    where
      omega_eq : (n : ℕ) → n ≤ 0 → n ≡ 0
      omega_eq n l = omega arith
  still-on n (suc m) d l c = go (ℕ_discrete n (suc m)) (still-on n m d)
    where
      go : Dec (n ≡ suc m) → (n ≤ m → Changes All m → ⊥) → ⊥
      go (yes e) f = d (rw e c)
      go (no e) f = still-next m (f (omega arith)) c

  -- There is a count, and it is at most N-1.
  find : (m n : ℕ) → 1 ≤ N → N ≤ n + m → ((j : ℕ) → j < n → Changes All j) → n + classes (lab n) N ≤ N → (c : ℕ) × (c ≤ N - 1) × Passes All c
  find zero n o l h k = absurd (omega (arith, some-class N (lab n) (after_both n).0 o))
  find (suc m) n o l h k = go (dec_changes n) (find m (suc n) o)
    where
      more : Changes All n → (j : ℕ) → j < suc n → Dec (j ≡ n) → Changes All j
      more c j l (yes e) = rw e c
      more c j l (no e) = h j (omega arith)

      go : Dec (Changes All n) → (N ≤ suc n + m → ((j : ℕ) → j < suc n → Changes All j) → suc n + classes (lab (suc n)) N ≤ N → (c : ℕ) × (c ≤ N - 1) × Passes All c) → (c : ℕ) × (c ≤ N - 1) × Passes All c
      go (yes c) f = f (omega arith) (λ j l. more c j l (ℕ_discrete j n)) (omega (arith, changes-fewer n c))
      go (no d) f = (n, omega (arith, some-class N (lab n) (after_both n).0 o), record { changing = h; still = λ j l. still-on n j d l })

  pub passes-there : 1 ≤ N → (c : ℕ) × (c ≤ N - 1) × Passes All c
  passes-there o = find N 0 o (omega arith) (λ j l. absurd (omega arith)) (omega (arith, start-classes N))

  pub passes-most : 1 ≤ N → {c : ℕ} → Passes All c → c ≤ N - 1
  passes-most o {c} p = let r = passes-there o in rw (passes-one p r.2) r.1

  -- After them the classes are those of what follows, ..
  pub passes-follow : {c : ℕ} → Passes All c → (s t : ℕ) → After All c s t ↔ Follows All s t
  passes-follow {c} p s t = (
    after-follows c,
    λ f. ((after_both c).1 s t).1 (follows-least {R = λ x y. lab c x ≡ lab c y} (record {
      reflexive = refl;
      symmetric = sym;
      transitive = ◌∙◌;
      equations = λ i. at _ _ (p-given i);
      applications = λ {a} {b} {c = d} {a'} {b'} {c' = d'} i j q r. at _ _ (together i j (((after_both c).1 a a').1 q) (((after_both c).1 b b').1 r));
    }) f),
  )
    where
      at : (x y : ℕ) → After All (suc c) x y → lab c x ≡ lab c y
      at x y q = ((after_both c).1 x y).0 (still-same c (p.still c (omega arith)) x y q)

  -- .. and the labels are the smallest tags of their classes, so that a search of them finds the leaders that the run has at the job's end.
  passes-exact : {c : ℕ} → Passes All c → (s t : ℕ) → Follows All s t ↔ (lab c s ≡ lab c t)
  passes-exact {c} p s t = (λ f. ((after_both c).1 s t).0 ((passes-follow p s t).1 f), λ e. (passes-follow p s t).0 (((after_both c).1 s t).1 e))

  pub passes-least : {c : ℕ} → Passes All c → (s : ℕ) → Least All s (lab c s)
  passes-least {c} p = least-of (after_both c).0 (passes-exact p)

  pub passes-leader : {c U s m : ℕ} → Passes All c → s < N → Found (lab c) (lab c s) U N m → Leader U All s m
  passes-leader {c} p l = found-leader (after_both c).0 (passes-exact p) (λ x f. (follows-small N (small-those N small) f).0 l)

-- By any classes one tag leads, ..
pub heads-one : {U : ℕ} {R : ℕ → ℕ → Type 0} {s l l' : ℕ} → Heads U R s l → Heads U R s l' → l ≡ l'
heads-one {l = l} {l' = l'} (unit u r h) (unit u' r' h') = omega (arith, h l' u' r', h' l u r)
heads-one {l = l} (unit u r h) (no-unit n r' h') = absurd (n l u r)
heads-one {l' = l'} (no-unit n r h) (unit u r' h') = absurd (n l' u r')
heads-one {l = l} {l' = l'} (no-unit n r h) (no-unit n' r' h') = omega (arith, h l' r', h' l r)

-- .. which is the leader where the classes are those of what follows, ..
pub heads-leader : {U : ℕ} {S : Rec → Type 0} {R : ℕ → ℕ → Type 0} {s l : ℕ} → ((x : ℕ) → R s x ↔ Follows S s x) → Heads U R s l → Leader U S s l
heads-leader {l = l} e (unit u r h) = l-unit u ((e l).0 r) (λ x v c. h x v ((e x).1 c))
heads-leader {l = l} e (no-unit n r h) = l-no-unit (λ x v c. n x v ((e x).1 c)) (record { member = (e l).0 r; least = λ x c. h x ((e x).1 c) })

-- .. and is found by a search of the labels.
module _ {U N s : ℕ} {R : ℕ → ℕ → Type 0} {f : ℕ → ℕ} (L : Labels f) (exact : Exact R f) (tags : (x : ℕ) → R s x → x < N) where
  pub found-heads : {m : ℕ} → Found f (f s) U N m → Heads U R s m
  found-heads (first {y = y} a b e h) = unit a ((exact s y).1 (sym e)) (λ x v c. low x v c (dec_lt x y))
    where
      low : (x : ℕ) → U ≤ x → R s x → Dec (x < y) → y ≤ x
      low x v c (yes l) = absurd (h x v l (sym ((exact s x).0 c)))
      low x v c (no l) = omega arith
  found-heads (nowhere h) = no-unit (λ x v c. h x v (tags x c) (sym ((exact s x).0 c))) ((exact s (f s)).1 (sym (L.flat s))) (λ x c. let e : f s ≡ f x = (exact s x).0 c in omega (arith, L.low x))

-- Two answers with one limit are one, ..
pub slow-one : {N U : ℕ} {rs : List Rec} {limit n n' c c' : ℕ} {L L' : List ℕ} → Slow N U rs limit n c L → Slow N U rs limit n' c' L' → (n ≡ n') × (c ≡ c') × (L ≡ L')
slow-one (finished p l d) (finished p' l' d') = (refl, passes-one p p', led-one d d')
slow-one (finished p l d) (spent p' l') = absurd (omega (arith, passes-one p p'))
slow-one (spent p l) (finished p' l' d') = absurd (omega (arith, passes-one p p'))
slow-one (spent p l) (spent p' l') = (refl, refl, refl)

-- .. and a higher limit never changes a finished answer.
pub slow-higher : {N U : ℕ} {rs : List Rec} {limit limit' c : ℕ} {L : List ℕ} → limit ≤ limit' → Slow N U rs limit 0 c L → Slow N U rs limit' 0 c L
slow-higher k (finished p l d) = finished p (omega arith) d

-- What is shown is one, ..
pub shown-one : {N U : ℕ} {rs : List Rec} {most c c' : ℕ} {L L' : List ℕ} → Shown N U rs most c L → Shown N U rs most c' L' → (c ≡ c') × (L ≡ L')
shown-one {most = most} {c = c} {c' = c'} {L = L} {L' = L'} d d' =
    let e : c ≡ c' = d.made ∙ ap (min most) (passes-one d.passes d'.passes) ∙ sym d'.made in
    (e, ext_get_or 0 L L' (d.full ∙ sym d'.full) (λ i l. heads-one (d.each i (rw d.full at l)) (rw e (d'.each i (rw d.full at l)))))

-- .. and so what a call is told is one.
pub told-one : {N U : ℕ} {rs : List Rec} {limit : ℕ} {w : Bool} {n n' c c' : ℕ} {L L' : List ℕ} → Told N U rs limit w n c L → Told N U rs limit w n' c' L' → (n ≡ n') × (c ≡ c') × (L ≡ L')
told-one (limited a) (limited b) = slow-one a b
told-one (watched a) (watched b) = let e = shown-one a b in (refl, e.0, e.1)

module _ (N U : ℕ) (rs : List Rec) (small : (i : ℕ) → i < length rs → Small N (get_or rs i (eq 0 0))) where
  -- With a limit of N-1 the engine always finishes, ..
  pub slow-ends : 1 ≤ N → {limit c : ℕ} {L : List ℕ} → N - 1 ≤ limit → Slow N U rs limit 19 c L → ⊥
  slow-ends o k (spent p l) = omega (arith, passes-most N rs small o p)

  -- .. and with as many passes as change something what is shown is the leaders of the finished answer.
  pub shown-led : {most c : ℕ} {L : List ℕ} (d : Shown N U rs most c L) → d.count ≤ most → Led N U (Every rs) L
  shown-led {most} {c} d k =
      let e : c ≡ d.count = omega (arith, d.made) in
      let p : Passes (Every rs) c = rw e d.passes in
      record { full = d.full; each = λ x l. heads-leader (λ y. passes-follow N rs small p x y) (d.each x l) }
