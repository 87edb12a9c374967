-- Coming to wait: what waits stays where it is, and what comes is put before it. Assumes nothing.
use Prim.Native.Nat.{ℕ, suc, ◌+◌, ◌-◌, ◌≤◌, ◌<◌}
use native.Mathlib.Omega.{arith}
use native.Mathlib.Decide.{ℕ_discrete}
use mathlib.Core.Path.{◌≡◌, refl, sym, ap, ◌∙◌}
use mathlib.Core.Logic.{◌≢◌, ◌⊎◌, inl, inr}
use mathlib.Core.Bool.{Bool, true, false}
use mathlib.Core.List.Memᴰ
use mathlib.Core.List.{List, ◌∷◌, Memᴰ}
use lib.ListN.{length, set}
use Rattle.meaning.specs.Joins.{put}
use Rattle.meaning.proofs.Log.{put-hit, put-miss}
use Rattle.meaning.specs.Limits.{most_tags}
use Rattle.table.specs.Places.{QUEUE, all_of, before_at, end_at, front_size, plain}
use Rattle.table.specs.Map.{Within, before_of, end_of, queue_of}
use Rattle.table.proofs.Frame.{ends-between, seen-in, seen-within, within-refl, within-trans, within-set}
use Rattle.list_add.specs.State.{On, here, later}
use Rattle.list_add.specs.Waking.{Line, end, next, Waits, Listed, Falling, Woken, Awake}

-- A list of those that wait is the same where they are.
pub line_same : {q q' : ℕ → ℕ} {p : ℕ} {L : List ℕ} → ((j : ℕ) → 2 ≤ q j → q' j ≡ q j) → Line q p L → Line q' p L
line_same h (end e) = end e
line_same {q} {q'} {p} h (next {i = i} {L = L} e l r) = next {p = p} {L = L} e (rw (h i l) l) (rw (h i l) (line_same h r))

-- Those of a list wait; two lists from one link are one; none comes twice.
pub line-waits : {q : ℕ → ℕ} {p j : ℕ} {L : List ℕ} → Line q p L → Memᴰ j L → 2 ≤ q j
line-waits (end e) i = absurd (Memᴰ.not-nil i)
line-waits {q} {p} {j} (next {i = k} {L = L} e l r) i = go (λ h. line-waits r h) (Memᴰ.cases_cons i)
  where
    go : (Memᴰ j L → 2 ≤ q j) → (j ≡ k) ⊎ Memᴰ j L → 2 ≤ q j
    go f (inl h) = rw h l
    go f (inr h) = f h

line-one : {q : ℕ → ℕ} {p : ℕ} {L K : List ℕ} → Line q p L → Line q p K → length L ≡ length K
line-one (end e) (end f) = refl
line-one (end e) (next f l r) = absurd (omega arith)
line-one (next f l r) (end e) = absurd (omega arith)
line-one {q} (next {i = i} e l r) (next {i = j} f m s) = let z : j ≡ i = omega arith in let y = line-one r (rw z at s) in omega arith

line-from : {q : ℕ → ℕ} {p j : ℕ} {L : List ℕ} → Line q p L → Memᴰ j L → (K : List ℕ) × Line q (suc j) K × (length K ≤ length L)
line-from (end e) i = absurd (Memᴰ.not-nil i)
line-from {q} {p} {j} (next {i = k} {L = L} e l r) i = go (λ h. line-from r h) (Memᴰ.cases_cons i)
  where
    go : (Memᴰ j L → (K : List ℕ) × Line q (suc j) K × (length K ≤ length L)) → (j ≡ k) ⊎ Memᴰ j L → (K : List ℕ) × Line q (suc j) K × (length K ≤ length (k ∷ L))
    go f (inl h) = (k ∷ L, next {p = suc j} {i = k} {L = L} (ap suc h) l r, omega arith)
    go f (inr h) = let z = f h in (z.0, z.1, omega (arith, z.2))

pub line-once : {q : ℕ → ℕ} {j : ℕ} {L : List ℕ} → 2 ≤ q j → Line q (q j - 2) L → Memᴰ j L → ⊥
line-once {q} {j} {L} l r i = let z = line-from r i in let y = line-one z.1 (next {p = suc j} {i = j} {L = L} refl l r) in omega (arith, z.2)

pub line-same-in : {q q' : ℕ → ℕ} {p : ℕ} {L : List ℕ} → ((j : ℕ) → Memᴰ j L → q' j ≡ q j) → Line q p L → Line q' p L
line-same-in h (end e) = end e
line-same-in {q} {q'} {p} h (next {i = i} {L = L} e l r) = let z = h i (Memᴰ.head refl) in next {p = p} {L = L} e (rw z l) (rw z (line-same-in (λ j m. h j (Memᴰ.tail m)) r))

-- The lists of uses stay.
module _ {w w' : List ℕ} (f : Within (all_of QUEUE) w w') where
  pub uses-same : (b : Bool) → end_of b w' ≡ end_of b w
  uses-same b = let k = ends-between b in seen-within (plain (end_at b) most_tags) f (inl (omega (arith, k.1)))

  pub others_same : (b : Bool) → before_of b w' ≡ before_of b w
  others_same b = let k = ends-between b in seen-within (plain (before_at b) front_size) f (inl (omega (arith, k.3)))

  pub falling-same : Falling w → Falling w'
  falling-same h = record { long = omega (arith, f.size, h.long); heads = λ b x. rw (uses-same b) (h.heads b x); falls = λ b x. rw (others_same b) (h.falls b x) }

pub woken-none : {last : ℕ} {w : List ℕ} → last ≤ front_size → Woken w w last last
woken-none {last} {w} l = record {
  kept = within-refl w;
  low = l;
  same = λ j d. refl;
  stays = λ j e z. omega arith;
  from = λ j h. inl h;
  line = λ L h. (L, h, (λ j i. i), (λ j i. inl i), λ j i. inl i);
}

pub woken-then : {last last₁ last₂ : ℕ} {w w₁ w₂ : List ℕ} → Woken w w₁ last last₁ → Woken w₁ w₂ last₁ last₂ → Woken w w₂ last last₂
woken-then {last} {last₁} {last₂} {w} {w₁} {w₂} f g = record {
  kept = within-trans f.kept g.kept;
  low = g.low;
  same = λ j d. g.same j (λ e. d (sym (f.same j d) ∙ e)) ∙ f.same j d;
  stays = λ j e. stays j e (ℕ_discrete (queue_of w₁ j) 1);
  from = λ j h. from j (g.from j h);
  line = line;
}
  where
    stays : (j : ℕ) → queue_of w j ≡ 1 → Dec (queue_of w₁ j ≡ 1) → queue_of w₂ j ≢ 0
    stays j e (yes k) = g.stays j k
    stays j e (no k) = rw (g.same j k) (f.stays j e)

    from : (j : ℕ) → Waits w₁ j ⊎ Listed w₁ j → Waits w j ⊎ Listed w j
    from j (inl h) = f.from j h
    from j (inr h) = inr (h.0, h.1, rw (uses-same f.kept h.0, others_same f.kept h.0) at h.2)

    line : (L : List ℕ) → Line (queue_of w) last L → (K : List ℕ) × Line (queue_of w₂) last₂ K × ((j : ℕ) → Memᴰ j L → Memᴰ j K) × ((j : ℕ) → Waits w₂ j → Waits w j ⊎ Memᴰ j K) × ((j : ℕ) → Memᴰ j K → Memᴰ j L ⊎ (queue_of w j ≡ 1))
    line L h =
        let a = f.line L h in
        let b = g.line a.0 a.1 in
        (b.0, b.1, (λ j i. b.2 j (a.2 j i)), (λ j i. both j (b.3 j i)), λ j i. old j (b.4 j i))
      where
        old : (j : ℕ) → Memᴰ j (f.line L h).0 ⊎ (queue_of w₁ j ≡ 1) → Memᴰ j L ⊎ (queue_of w j ≡ 1)
        old j (inl i) = (f.line L h).4 j i
        old j (inr e) = elim (ℕ_discrete (queue_of w j) 1) [ yes q ↦ inr q | no q ↦ absurd (q (sym (f.same j q) ∙ e)) ]

        both : (j : ℕ) → Waits w₁ j ⊎ Memᴰ j (g.line (f.line L h).0 (f.line L h).1).0 → Waits w j ⊎ Memᴰ j (g.line (f.line L h).0 (f.line L h).1).0
        both j (inr i) = inr i
        both j (inl i) = elim ((f.line L h).3 j i) [ inl z ↦ inl z | inr z ↦ inr ((g.line (f.line L h).0 (f.line L h).1).2 j z) ]

-- One comes to wait; or it does already, or is out.
module _ {w w' : List ℕ} {i last : ℕ} (h : Falling w) (low : i < front_size) (l : last ≤ front_size) (k : Listed w i) (e : queue_of w i ≡ 1) (s : w' ≡ set w (QUEUE.at + i) (last + 2)) where
  queue : queue_of w' ≡ put i (last + 2) (queue_of w)
  queue = rw s (seen-in QUEUE w i (last + 2) low (omega (arith, h.long)))

  hit : queue_of w' i ≡ last + 2
  hit = rw queue (put-hit i (last + 2) (queue_of w))

  miss : (j : ℕ) → j ≢ i → queue_of w' j ≡ queue_of w j
  miss j d = rw queue (put-miss i (last + 2) (queue_of w) j d)

  pub woken-one : Woken w w' last (i + 1) × (queue_of w' i ≢ 1)
  woken-one = (
    record {
      kept = rw s (within-set (all_of QUEUE) w (QUEUE.at + i) (last + 2) (omega arith) (omega arith));
      low = omega arith;
      same = λ j d. miss j (λ q. d (ap (queue_of w) q ∙ e));
      stays = λ j d. stays j d (ℕ_discrete j i);
      from = λ j x. from j x (ℕ_discrete j i);
      line = line;
    },
    λ z. omega (arith, hit),
  )
    where
      stays : (j : ℕ) → queue_of w j ≡ 1 → Dec (j ≡ i) → queue_of w' j ≢ 0
      stays j d (yes q) z = omega (arith, hit, ap (queue_of w') q)
      stays j d (no q) z = omega (arith, miss j q)

      from : (j : ℕ) → Waits w' j → Dec (j ≡ i) → Waits w j ⊎ Listed w j
      from j x (yes q) = inr (rw q k)
      from j x (no q) = inl (rw (miss j q) at x)

      line : (L : List ℕ) → Line (queue_of w) last L → (K : List ℕ) × Line (queue_of w') (i + 1) K × ((j : ℕ) → Memᴰ j L → Memᴰ j K) × ((j : ℕ) → Waits w' j → Waits w j ⊎ Memᴰ j K) × ((j : ℕ) → Memᴰ j K → Memᴰ j L ⊎ (queue_of w j ≡ 1))
      line L x = (i ∷ L, next {p = i + 1} {i = i} {L = L} (omega arith) (omega (arith, hit)) rest, (λ j m. Memᴰ.tail m), (λ j m. new j m (ℕ_discrete j i)), λ j m. elim (Memᴰ.cases_cons m) [ inl q ↦ inr (ap (queue_of w) q ∙ e) | inr z ↦ inl z ])
        where
          rest : Line (queue_of w') (queue_of w' i - 2) L
          rest = let q : queue_of w' i - 2 ≡ last = omega (arith, hit) in rw q (line_same (λ j m. miss j (λ z. let y : queue_of w j ≡ 1 = ap (queue_of w) z ∙ e in omega arith)) x)

          new : (j : ℕ) → Waits w' j → Dec (j ≡ i) → Waits w j ⊎ Memᴰ j (i ∷ L)
          new j m (yes q) = inr (Memᴰ.head q)
          new j m (no q) = inl (rw (miss j q) at m)

-- Those of one list of uses: from the link p on they are left.
pub record Waking (b : Bool) (w w' : List ℕ) (head p last last' : ℕ) : Type 0 where
  pub woken : Woken w w' last last'
  pub low : p ≤ front_size
  pub listed : (j : ℕ) → On (before_of b w) j p → On (before_of b w) j head
  pub left : (j : ℕ) → On (before_of b w) j head → On (before_of b w) j p ⊎ (queue_of w' j ≢ 1)

pub waking-start : {b : Bool} {w : List ℕ} {head last : ℕ} (z : ℕ) → Falling w → last ≤ front_size → head ≡ end_of b w z → Waking b w w head head last last
waking-start {b} {w} z h l e = record { woken = woken-none l; low = rw e (h.heads b z); listed = λ j o. o; left = λ j o. inl o }

pub waking-listed : {b : Bool} {w w' : List ℕ} {head p last last' : ℕ} (z : ℕ) → head ≡ end_of b w z → 0 < p → Waking b w w' head p last last' → Listed w' (p - 1)
waking-listed {b} {w} {w'} {head} {p} z e l k = (b, z, rw (uses-same k.woken.kept b, others_same k.woken.kept b, ← e) (k.listed (p - 1) (here (omega arith))))

pub waking-more : {b : Bool} {w w₁ w₂ : List ℕ} {head p p' last last₁ last₂ : ℕ} → Falling w → 0 < p → Waking b w w₁ head p last last₁ → Woken w₁ w₂ last₁ last₂ × (queue_of w₂ (p - 1) ≢ 1) → p' ≡ before_of b w₂ (p - 1)
    → Waking b w w₂ head p' last last₂ × (p' < p)
waking-more {b} {w} {w₁} {w₂} {head} {p} {p'} {last} {last₁} {last₂} h l k g e = (
  record {
    woken = woken;
    low = omega (arith, k.low, fall);
    listed = λ j o. k.listed j (later (omega arith) (rw is at o));
    left = λ j o. left j (k.left j o);
  },
  omega (arith, fall),
)
  where
    woken : Woken w w₂ last last₂
    woken = woken-then k.woken g.0

    is : p' ≡ before_of b w (p - 1)
    is = e ∙ ap (λ (f : ℕ → ℕ). f (p - 1)) (others_same woken.kept b)

    fall : p' ≤ p - 1
    fall = rw is (h.falls b (p - 1))

    on : (j : ℕ) → On (before_of b w) j p → On (before_of b w) j p' ⊎ (queue_of w₂ j ≢ 1)
    on j (here q) = inr (let z : j ≡ p - 1 = omega arith in rw z g.1)
    on j (later {r = r} q o) = inl (let z : r ≡ p - 1 = omega arith in rw (is, ← z) o)

    left : (j : ℕ) → On (before_of b w) j p ⊎ (queue_of w₁ j ≢ 1) → On (before_of b w) j p' ⊎ (queue_of w₂ j ≢ 1)
    left j (inl o) = on j o
    left j (inr d) = inr (rw (g.0.same j d) d)

pub waking-end : {b : Bool} {w w' : List ℕ} {head p last last' : ℕ} → p ≡ 0 → Waking b w w' head p last last' → Woken w w' last last' × Awake b w w' head
waking-end {b} {w} {w'} {head} {p} e k = (k.woken, λ j o. go j (k.left j o))
  where
    none : (j : ℕ) → On (before_of b w) j p → ⊥
    none j (here q) = omega arith
    none j (later q o) = omega arith

    go : (j : ℕ) → On (before_of b w) j p ⊎ (queue_of w' j ≢ 1) → queue_of w' j ≢ 1
    go j (inl o) = absurd (none j o)
    go j (inr d) = d

-- What is awake stays so.
pub awake-both : {w w₁ w₂ : List ℕ} {last last₁ last₂ : ℕ} (z : ℕ) → Woken w w₁ last last₁ × Awake false w w₁ (end_of false w z) → Woken w₁ w₂ last₁ last₂ × Awake true w₁ w₂ (end_of true w₁ z)
    → Woken w w₂ last last₂ × ((b : Bool) → Awake b w w₂ (end_of b w z))
awake-both {w} {w₁} {w₂} z f g = (woken-then f.0 g.0, both)
  where
    both : (b : Bool) → Awake b w w₂ (end_of b w z)
    both false = λ j o. rw (g.0.same j (f.1 j o)) (f.1 j o)
    both true = λ j o. g.1 j (rw (uses-same f.0.kept true, others_same f.0.kept true) o)
