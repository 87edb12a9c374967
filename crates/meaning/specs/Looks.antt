-- DEFINITIONS, to be read against document 02, No. 7: the list that answers why the equality of s and t does not follow, and the three looks
-- that a reader takes at it. Assumes nothing.
use Rattle.std.specs.Prelude.{ℕ, ◌<◌, ◌≡◌, ◌≢◌, List, length, get_or}
use Rattle.meaning.specs.Following.{Rec, eq, app, UpTo, Leader}

-- The number that a list has for a tag.
abbrev pub under : List ℕ → ℕ → ℕ
under L x = get_or L x 0

-- "The leader of every tag in order, N numbers", by the records in S, where tags from U up are units.
pub record Led (N U : ℕ) (S : Rec → Type 0) (L : List ℕ) : Type 0 where
  pub full : length L ≡ N
  pub each : (x : ℕ) → x < N → Leader U S x (under L x)

-- "A reader can see that each equation has both ends under one leader, that applications with the same leaders going in have the same coming
-- out, and that s and t differ": of any N numbers, and the R records before the question.
pub record Looks (N : ℕ) (rs : List Rec) (R s t : ℕ) (L : List ℕ) : Type 0 where
  pub full : length L ≡ N
  pub equations : {a b : ℕ} → UpTo rs R (eq a b) → under L a ≡ under L b
  pub applications : {a b c a' b' c' : ℕ} → UpTo rs R (app a b c) → UpTo rs R (app a' b' c') → under L a ≡ under L a' → under L b ≡ under L b' → under L c ≡ under L c'
  pub differ : under L s ≢ under L t
