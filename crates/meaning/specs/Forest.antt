-- MACHINERY for the proofs; no meaning rests on it. The classes after each join, from one table of links: p x is the tag that x was linked to, g x the
-- age of that link. Assumes nothing.
use Rattle.std.specs.Prelude.{ℕ, zero, suc, ◌≤◌, ◌<◌, cond, ◌⊎◌, ◌≡◌, ltb}
use Rattle.meaning.specs.Joins.{Join}
use Rattle.meaning.specs.Labels.{Agree}

-- The tag that the links older than a lead to from x, after at most n of them ..
abbrev pub root_in : (ℕ → ℕ) → (ℕ → ℕ) → ℕ → ℕ → ℕ → ℕ
root_in p g a zero x = x
root_in p g a (suc n) x = cond (ltb (g x) a) (root_in p g a n (p x)) x

-- .. and after all of them, since a link leads down: the leader of x after the first a joins.
abbrev pub root : (ℕ → ℕ) → (ℕ → ℕ) → ℕ → ℕ → ℕ
root p g a x = root_in p g a x x

-- Links lead down and grow younger on the way; each join made one; a tag that is not linked has an age of top or more.
pub record Links (p g : ℕ → ℕ) (top len : ℕ) : Type 0 where
  pub down : (x : ℕ) → g x < len → p x < x
  pub rise : (x : ℕ) → g x < len → g x < g (p x)
  pub once : (x y : ℕ) → g x < len → g x ≡ g y → x ≡ y
  pub age : (x : ℕ) → (g x < len) ⊎ (top ≤ g x)

-- The table agrees with the joins at every age.
pub record History (e : ℕ → Join) (n : ℕ) (p g : ℕ → ℕ) (top : ℕ) : Type 0 where
  pub links : Links p g top n
  pub room : n ≤ top
  pub then : (a : ℕ) → a ≤ n → Agree e a (root p g a)
