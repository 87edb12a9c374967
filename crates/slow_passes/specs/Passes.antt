-- DEFINITIONS, to be read against document 02, No. 12: a pass of the slow engine, the count of passes, what the engine answers with a limit on them, and what is shown to
-- those who watch it.
-- Assumes nothing.
use Rattle.std.specs.Prelude.{ℕ, zero, suc, min, ◌≤◌, ◌<◌, ◌≡◌, Bool, true, false, List, [], length}
use Rattle.meaning.specs.Following.{Rec, eq, app, UpTo}
use Rattle.meaning.specs.Looks.{Led, under}

-- "A pass makes the least equivalence that holds the present classes, every equation, and the results of every two applications whose arguments now stand together":
-- of the records in S, with the present classes R.
pub data Pass (S : Rec → Type 0) (R : ℕ → ℕ → Type 0) : ℕ → ℕ → Type 0 where
  same : {a : ℕ} → Pass S R a a
  flip : {a b : ℕ} → Pass S R a b → Pass S R b a
  chain : {a b c : ℕ} → Pass S R a b → Pass S R b c → Pass S R a c
  held : {a b : ℕ} → R a b → Pass S R a b
  given : {a b : ℕ} → S (eq a b) → Pass S R a b
  together : {a b c a' b' c' : ℕ} → S (app a b c) → S (app a' b' c') → R a a' → R b b' → Pass S R c c'

-- "From single classes": the classes after n passes.
abbrev pub After : (Rec → Type 0) → ℕ → ℕ → ℕ → Type 0
After S zero = λ a b. a ≡ b
After S (suc n) = Pass S (After S n)

-- Pass number n + 1 changes something: it brings two tags together.
pub record Changes (S : Rec → Type 0) (n : ℕ) : Type 0 where
  pub one : ℕ
  pub other : ℕ
  pub together : After S (suc n) one other
  pub apart : After S n one other → ⊥

-- "The count is the passes that change something": the first c do, and no later one does.
pub record Passes (S : Rec → Type 0) (c : ℕ) : Type 0 where
  pub changing : (n : ℕ) → n < c → Changes S n
  pub still : (n : ℕ) → c ≤ n → Changes S n → ⊥

-- "It closes all records of the job": those the run has before it at the job's end.
abbrev pub Every : List Rec → Rec → Type 0
Every rs = UpTo rs (length rs)

-- It "answers the count, with the leader of every tag in order", and "19 .. exactly when the count is above the limit": a number, the count and
-- the leaders, of N tags of which those from U up are units.
pub data Slow (N U : ℕ) (rs : List Rec) (limit : ℕ) : ℕ → ℕ → List ℕ → Type 0 where
  finished : {c : ℕ} {L : List ℕ} → Passes (Every rs) c → c ≤ limit → Led N U (Every rs) L → Slow N U rs limit 0 c L
  spent : {c : ℕ} → Passes (Every rs) c → limit < c → Slow N U rs limit 19 0 []

-- Document 02, No. 3, by any classes R: "the leader is the smallest unit in the class, or the smallest tag if it has no unit".
pub data Heads (U : ℕ) (R : ℕ → ℕ → Type 0) (s l : ℕ) : Type 0 where
  unit : U ≤ l → R s l → ((x : ℕ) → U ≤ x → R s x → l ≤ x) → Heads U R s l
  no-unit : ((x : ℕ) → U ≤ x → R s x → ⊥) → R s l → ((x : ℕ) → R s x → l ≤ x) → Heads U R s l

-- "So trainees can watch": of the passes that change something so many are made and no more, and every tag has the leader of its class after them.
pub record Shown (N U : ℕ) (rs : List Rec) (most c : ℕ) (L : List ℕ) : Type 0 where
  pub count : ℕ
  pub passes : Passes (Every rs) count
  pub made : c ≡ min most count
  pub full : length L ≡ N
  pub each : (x : ℕ) → x < N → Heads U (After (Every rs) c) x (under L x)

-- What a call is told: with the limit, or as one that watches.
pub data Told (N U : ℕ) (rs : List Rec) (limit : ℕ) : Bool → ℕ → ℕ → List ℕ → Type 0 where
  limited : {n c : ℕ} {L : List ℕ} → Slow N U rs limit n c L → Told N U rs limit false n c L
  watched : {c : ℕ} {L : List ℕ} → Shown N U rs limit c L → Told N U rs limit true 0 c L
