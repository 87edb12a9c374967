-- Things filed by their keys, which are below 509, and never taken out: the column of links and the column of heads, as lists that the keys determine. Assumes nothing.
use Rattle.std.specs.Prelude.{ℕ, ◌<◌, ◌≡◌, List, eqb, length, get_or}
use Rattle.script_shelf.specs.Chain.{last_of}
use Rattle.script_shelf.specs.Columns.{up_to}

-- One more than the last thing below n with a key, or 0.
unfoldable pub last_with : List ℕ → ℕ → ℕ → ℕ
last_with ks b n = last_of (λ i. eqb (get_or ks i 0) b) n

-- By thing: the one before it with the same key. By key: the last with it.
unfoldable pub links : List ℕ → List ℕ
links ks = up_to (λ k. last_with ks (get_or ks k 0) k) (length ks)

unfoldable pub heads : List ℕ → List ℕ
heads ks = up_to (λ b. last_with ks b (length ks)) 509

-- The first n things are linked by their keys, and `head` is the last with the key x.
pub record Chain (key next : ℕ → ℕ) (n x head : ℕ) : Type 0 where
  pub links-are : (k : ℕ) → k < n → next k ≡ last_of (λ i. eqb (key i) (key k)) k
  pub head-is : head ≡ last_of (λ i. eqb (key i) x) n
