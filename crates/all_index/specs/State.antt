-- Machinery: how the applications that are in stand in the table, filed or waiting. No meaning rests on it. Record number j + 1 has place j.
-- Assumes nothing.
use Rattle.std.specs.Prelude.{ℕ, suc, ◌+◌, ◌-◌, ◌*◌, ◌≤◌, ◌<◌, ◌≡◌, Bool, true, false, cond, List, eqb}
use Rattle.meaning.specs.Joins.{put}
use Rattle.table.specs.Map.{left_of, right_of, result_of, label_of, use_of, more_of, state_of, chain_of, wait_of, bucket_of, Loaded, Within}
use Rattle.table.specs.Places.{EQUATION, bucket_count, file_part}
use Rattle.all_index.specs.Filing.{On, link, found, Filed, Uses}
use Rattle.all_index.specs.Waiting.{Queue}
use Rattle.all_index.specs.declared.Front.{Front}

-- By place: whether the record is an equation, both argument labels as one number, the result's label.
abbrev pub eqn_at : List ℕ → ℕ → Bool
eqn_at w j = eqb (result_of w (suc j)) EQUATION

abbrev pub key_at : List ℕ → ℕ → ℕ
key_at w j = label_of w (left_of w (suc j)) * 65536 + label_of w (right_of w (suc j))

abbrev pub res_at : List ℕ → ℕ → ℕ
res_at w j = label_of w (result_of w (suc j))

-- The argument by place.
abbrev pub tag_at : Bool → List ℕ → ℕ → ℕ
tag_at false w j = left_of w (suc j)
tag_at true w j = right_of w (suc j)

-- What the chains have for a key.
abbrev pub found_in : List ℕ → ℕ → ℕ
found_in w x = found bucket_count (key_at w) (bucket_of w) (chain_of w) x

-- The applications that are in are filed by their keys, but for those that wait; and the tags' lists know them.
pub record Filing (t : Front) (w : List ℕ) : Type 0 where
  pub loaded : Loaded t.size t.len w
  pub reach : t.places ≤ t.len
  pub filed : Filed bucket_count t.places (eqn_at w) (key_at w) (res_at w) (bucket_of w) (chain_of w)

abbrev pub Used : Bool → ℕ → List ℕ → Type 0
Used second i w = Uses i (eqn_at w) (tag_at second w) (use_of second w) (more_of second w)

-- What waits stands in the list that begins with the link `first`.
abbrev pub Queued : Front → List ℕ → ℕ → Type 0
Queued t w first = Queue t.places (eqn_at w) (chain_of w) (wait_of w) first

pub record Indexed (t : Front) (w : List ℕ) (first : ℕ) : Type 0 where
  pub filing : Filing t w
  pub queue : Queued t w first
  pub uses : (second : Bool) → Used second t.places w

-- Some applications were taken out and wait now. Nothing else was written.
pub record Touched (t : Front) (w w' : List ℕ) (first : ℕ) : Type 0 where
  pub frame : Within file_part w w'
  pub filing : Filing t w'
  pub queue : Queued t w' first
  pub still : (r : ℕ) → chain_of w r ≡ 0 → chain_of w' r ≡ 0

-- Where place j belongs in the chain of a bucket: behind the place of the link q, or at its head where q is 0; it may stand there.
pub record Above (w : List ℕ) (b j q : ℕ) : Type 0 where
  pub head : q ≡ 0 → bucket_of w b ≤ suc j
  pub on : 0 < q → On (link (chain_of w)) (bucket_of w b) (q - 1)
  pub over : 0 < q → j < q - 1
  pub under : 0 < q → link (chain_of w) (q - 1) ≤ suc j

-- The link that leads on from there: that of the bucket where q is 0, else that of place q - 1. And what it is that this link alone was set to p.
abbrev pub behind_in : List ℕ → ℕ → ℕ → ℕ
behind_in w b q = cond (eqb q 0) (bucket_of w b) (link (chain_of w) (q - 1))

pub record Led (w w' : List ℕ) (b q p : ℕ) : Type 0 where
  pub frame : Within file_part w w'
  pub head : q ≡ 0 → (state_of w' ≡ state_of w) × (bucket_of w' ≡ put b p (bucket_of w))
  pub rest : 0 < q → (state_of w' ≡ put (q - 1) (suc p) (state_of w)) × (bucket_of w' ≡ bucket_of w)
