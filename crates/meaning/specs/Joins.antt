-- MACHINERY for the proofs; no meaning rests on it. The log of joins: e a is the join of age a, which document 01, "Reasons", speaks of
-- ("The closure joins classes one pair at a time, for one equation or for one pair of applications"). What the first n of them join, and what each rests on.
-- Assumes nothing.
use Rattle.std.specs.Prelude.{ℕ, zero, suc, ◌<◌, ◌≡◌, Bool, true, false, cond, List, [], ◌∷◌, ◌++◌, T, eqb}
use Rattle.meaning.specs.Following.{Rec, eq, app, At}

-- The record numbers of a join: one equation's, or those of two applications.
pub data Why : Type 0 where
  by : ℕ → Why
  cong : ℕ → ℕ → Why

-- A join makes u and v equal, by its records.
pub record Join : Type 0 where
  pub u : ℕ
  pub v : ℕ
  pub why : Why

-- The marked ones of the first n joins connect s and t: by older joins, or over the newest one, in either direction.
pub data Linked (e : ℕ → Join) (m : ℕ → Bool) : ℕ → ℕ → ℕ → Type 0 where
  here : {s t : ℕ} → s ≡ t → Linked e m 0 s t
  below : {n s t : ℕ} → Linked e m n s t → Linked e m (suc n) s t
  over : {n s t : ℕ} → T (m n) → Linked e m n s (e n).u → Linked e m n (e n).v t → Linked e m (suc n) s t
  back : {n s t : ℕ} → T (m n) → Linked e m n s (e n).v → Linked e m n (e n).u t → Linked e m (suc n) s t

-- A join's records stand in rs with u and v for their ends, and R leads between the arguments.
pub data Grounds (rs : List Rec) (R : ℕ → ℕ → Type 0) (u v : ℕ) : Why → Type 0 where
  equation : {k : ℕ} → At rs k (eq u v) → Grounds rs R u v (by k)
  applications : {k k' a b a' b' : ℕ} → At rs k (app a b u) → At rs k' (app a' b' v) → R a a' → R b b' → Grounds rs R u v (cong k k')

-- Each marked join rests on marked joins older than itself: "never on later ones".
abbrev pub Supported : List Rec → (ℕ → Join) → (ℕ → Bool) → ℕ → Type 0
Supported rs e m n = (a : ℕ) → a < n → T (m a) → Grounds rs (Linked e m a) (e a).u (e a).v (e a).why

-- Every join is marked.
abbrev pub all : ℕ → Bool
all a = true

-- The first n joins connect s and t.
abbrev pub Joined : (ℕ → Join) → ℕ → ℕ → ℕ → Type 0
Joined e = Linked e all

-- Each of the first n joins rests on older ones.
abbrev pub Justified : List Rec → (ℕ → Join) → ℕ → Type 0
Justified rs e = Supported rs e all

-- The record numbers of a join, ..
abbrev pub numbers_of : Why → List ℕ
numbers_of (by k) = k ∷ []
numbers_of (cong k k') = k ∷ k' ∷ []

-- .. kept if the join is marked, ..
abbrev pub keep : Bool → List ℕ → List ℕ
keep true L = L
keep false L = []

-- .. and those of the marked ones of the first n joins, youngest first.
abbrev pub used : (ℕ → Join) → (ℕ → Bool) → ℕ → List ℕ
used e m zero = []
used e m (suc n) = keep (m n) (numbers_of (e n).why) ++ used e m n

-- How many numbers below n pass the test p.
abbrev pub tick : Bool → ℕ → ℕ
tick true n = suc n
tick false n = n

abbrev pub count : (ℕ → Bool) → ℕ → ℕ
count p zero = 0
count p (suc n) = tick (p n) (count p n)

-- A table with one place changed.
abbrev pub put : {A : Type 0} → ℕ → A → (ℕ → A) → ℕ → A
put i a f x = cond (eqb x i) a (f x)
