-- MACHINERY for the leader of document 02, No. 3: a labelling searched for its first unit. Only proofs and inner contracts use it. Assumes nothing.
use Rattle.std.specs.Prelude.{ℕ, ◌≤◌, ◌<◌, ◌≡◌, ◌≢◌}

-- Of the tags from x up to e, the first that f labels l; or l itself where none is. With f the smallest tags of the classes, x = U and e = N this is the leader of what f
-- labels l.
pub data Found (f : ℕ → ℕ) (l x e : ℕ) : ℕ → Type 0 where
  first : {y : ℕ} → x ≤ y → y < e → f y ≡ l → ((z : ℕ) → x ≤ z → z < y → f z ≢ l) → Found f l x e y
  nowhere : ((z : ℕ) → x ≤ z → z < e → f z ≢ l) → Found f l x e l
