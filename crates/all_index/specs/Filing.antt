-- Machinery: what is kept of the applications while all records are closed. No meaning rests on it. Applications are filed by their arguments' labels in chains that
-- lead to lower places; one that a join concerns is taken out and waits until it is met again. And each tag has lists of the applications that it is an argument of.
-- A link is 0, or one more than a place. Assumes nothing.
use Rattle.std.specs.Prelude.{ℕ, suc, ◌-◌, ◌%◌, ◌≤◌, ◌<◌, ◌≡◌, ◌⊎◌, Bool, false}
use Rattle.table_labels.specs.Chain.{look}

-- The chain from a link comes by the place r.
pub data On (nx : ℕ → ℕ) : ℕ → ℕ → Type 0 where
  here : {r : ℕ} → On nx (suc r) r
  further : {q r : ℕ} → On nx (nx q) r → On nx (suc q) r

-- What stands for a place: 0 where it waits, otherwise one more than its link.
abbrev pub link : (ℕ → ℕ) → ℕ → ℕ
link ch r = ch r - 1

-- What the chains have for the key x.
abbrev pub found : ℕ → (ℕ → ℕ) → (ℕ → ℕ) → (ℕ → ℕ) → ℕ → ℕ
found B key hd ch x = look B key hd (link ch) x

-- The application at place j is known: the chains have one with its key and its result's label, or such a one waits.
abbrev pub Known : ℕ → ℕ → (ℕ → Bool) → (ℕ → ℕ) → (ℕ → ℕ) → (ℕ → ℕ) → (ℕ → ℕ) → ℕ → Type 0
Known B i eqn key res hd ch j = ((0 < found B key hd ch (key j)) × (res (found B key hd ch (key j) - 1) ≡ res j))
    ⊎ ((r : ℕ) × (r < i) × (eqn r ≡ false) × (ch r ≡ 0) × (key r ≡ key j) × (res r ≡ res j))

-- Of the first i places: chains begin there and lead down, each holds applications that do not wait and whose key belongs to its bucket, and each application that does not wait is known.
pub record Filed (B i : ℕ) (eqn : ℕ → Bool) (key res hd ch : ℕ → ℕ) : Type 0 where
  pub heads : (b : ℕ) → hd b ≤ i
  pub falls : (r : ℕ) → ch r ≤ suc r
  pub filed : (b r : ℕ) → On (link ch) (hd b) r → (eqn r ≡ false) × (0 < ch r) × (key r % B ≡ b)
  pub known : (j : ℕ) → j < i → eqn j ≡ false → 0 < ch j → Known B i eqn key res hd ch j

-- Of the first i places: the list of each tag comes by every application that has it for its argument. The lists lead down.
pub record Uses (i : ℕ) (eqn : ℕ → Bool) (tag hd nx : ℕ → ℕ) : Type 0 where
  pub heads : (t : ℕ) → hd t ≤ i
  pub falls : (r : ℕ) → r < i → eqn r ≡ false → nx r ≤ r
  pub apps : (t r : ℕ) → On nx (hd t) r → eqn r ≡ false
  pub listed : (j : ℕ) → j < i → eqn j ≡ false → On nx (hd (tag j)) j
