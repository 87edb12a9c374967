-- The depth of a tag, and what a climb by depth leaves. Document 02, No. 5: climb both chains by depth. All of it is said of the joins older than an age, `top`; of all joins
-- where that is 1,000.
-- Assumes nothing.
use Rattle.std.specs.Prelude.{ℕ, zero, suc, ◌+◌, ◌≤◌, ◌<◌, ◌≡◌, ◌≢◌, ◌⊎◌, List}
use Rattle.meaning.specs.Forest.{root}
use Rattle.meaning.specs.Limits.{most_tags}
use Rattle.table.specs.Map.{parent_of, age_of}
use Rattle.moment.specs.Meeting.{leader_at}

-- The number of links between a tag and the one that leads it.
pub data Depth (p g : ℕ → ℕ) (top : ℕ) : ℕ → ℕ → Type 0 where
  leads : {x : ℕ} → top ≤ g x → Depth p g top x 0
  linked : {x d : ℕ} → g x < top → Depth p g top (p x) d → Depth p g top x (suc d)

abbrev pub DepthIn : List ℕ → ℕ → ℕ → ℕ → Type 0
DepthIn w = Depth (parent_of w) (age_of w)

-- So many links up.
abbrev pub up : (ℕ → ℕ) → ℕ → ℕ → ℕ
up p zero x = x
up p (suc i) x = up p i (p x)

-- From s, whose depth is d, a climb has come to x, whose depth is k: x is the leader of s at an age that no link from x on is older than.
pub record Climbed (p g : ℕ → ℕ) (top s d x k : ℕ) : Type 0 where
  pub from : Depth p g top s d
  pub to : Depth p g top x k
  pub steps : ℕ
  pub sum : steps + k ≡ d
  pub there : up p steps s ≡ x
  pub age : ℕ
  pub low : age ≤ g x
  pub few : age ≤ top
  pub led : root p g age s ≡ x

-- The last link of a climb.
pub record Last (p g : ℕ → ℕ) (top s d x k newest : ℕ) : Type 0 where
  pub before : ℕ
  pub climbed : Climbed p g top s d before (suc k)
  pub on : p before ≡ x
  pub age : g before ≡ newest

-- A climb from s, of depth `from`, to depth `to`: none where that is no less; otherwise it stands there, and `newest` is the age of its last link.
pub record Lifted (w : List ℕ) (top s from to x newest : ℕ) : Type 0 where
  pub tag : x < most_tags
  pub still : from ≤ to → (x ≡ s) × (newest ≡ 0)
  pub last : to < from → Last (parent_of w) (age_of w) top s from x to newest

-- As many links lead from s to x as from t to y, and one of x and y has none left: so the depth of the shallower of s and t is `links`, and what x or y
-- has left is by how much the other one is deeper.
pub record Compared (w : List ℕ) (top s t x y : ℕ) : Type 0 where
  pub x-tag : x < most_tags
  pub y-tag : y < most_tags
  pub links : ℕ
  pub near : ℕ
  pub far : ℕ
  pub one : DepthIn w top s (links + near)
  pub other : DepthIn w top t (links + far)
  pub x-left : DepthIn w top x near
  pub y-left : DepthIn w top y far
  pub shallow : (near ≡ 0) ⊎ (far ≡ 0)

-- s is as deep as y or deeper.
pub record Deeper (w : List ℕ) (top s y : ℕ) : Type 0 where
  pub more : ℕ
  pub rest : ℕ
  pub deep : DepthIn w top s (more + rest)
  pub left : DepthIn w top y rest

-- A climb from s to x by as many links as y has left.
pub record Raised (w : List ℕ) (top s y x newest : ℕ) : Type 0 where
  pub lifted : (more rest : ℕ) → DepthIn w top s (more + rest) → DepthIn w top y rest → Lifted w top s (more + rest) more x newest

-- b is the age of the newest join between s and t.
pub record Newest (p g : ℕ → ℕ) (top s t b : ℕ) : Type 0 where
  pub most : b < top
  pub joined : root p g (suc b) s ≡ root p g (suc b) t
  pub apart : (a : ℕ) → a ≤ b → root p g a s ≢ root p g a t

-- Two climbs, from s and from t, that stand on x and y, of one depth. Where that is one tag, `newest` is the age of the newest join between s and t.
pub record Beside (w : List ℕ) (top s t x y newest : ℕ) : Type 0 where
  pub x-tag : x < most_tags
  pub y-tag : y < most_tags
  pub d : ℕ
  pub e : ℕ
  pub k : ℕ
  pub one : Climbed (parent_of w) (age_of w) top s d x k
  pub other : Climbed (parent_of w) (age_of w) top t e y k
  pub met : x ≡ y → Newest (parent_of w) (age_of w) top s t newest

-- Two such climbs stand on x and y.
pub record Paired (w : List ℕ) (top x y newest : ℕ) : Type 0 where
  pub s : ℕ
  pub t : ℕ
  pub beside : Beside w top s t x y newest

-- b is the age of the newest join between s and t, as `Met` has it, by the joins older than `top` alone. It is `top` where none of these
-- brought them together.
pub record MetBefore (w : List ℕ) (top s t b : ℕ) : Type 0 where
  pub most : b ≤ top
  pub joined : b < top → leader_at w (suc b) s ≡ leader_at w (suc b) t
  pub apart : (a : ℕ) → a ≤ b → leader_at w a s ≢ leader_at w a t

-- Wherever two such climbs began, b is the age of the newest join between these two.
pub record Ended (w : List ℕ) (top x y newest b : ℕ) : Type 0 where
  pub met : (s t : ℕ) → Beside w top s t x y newest → MetBefore w top s t b
