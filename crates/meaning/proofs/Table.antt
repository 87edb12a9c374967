-- A list read at every place, with a default behind its end, is a table, and a store in it changes that one place
-- and no other. Assumes nothing.
use Prim.Native.Nat.{ℕ, ◌<◌}
use native.Mathlib.Decide.{ℕ_discrete}
use mathlib.Core.Path.{◌≡◌, fun_ext}
use mathlib.Core.List.{List}
use lib.ListN.{length, get_or, set}
use lib.Seq.{get_or-set_same, get_or-set_other}
use Rattle.meaning.specs.Joins.{put}
use Rattle.meaning.proofs.Log.{put-hit, put-miss}

pub set-put : (l : List ℕ) (d : ℕ → ℕ) (i v : ℕ) → i < length l → (λ x. get_or (set l i v) x (d x)) ≡ put i v (λ x. get_or l x (d x))
set-put l d i v h = fun_ext (λ x. go x (ℕ_discrete x i))
  where
    go : (x : ℕ) → Dec (x ≡ i) → get_or (set l i v) x (d x) ≡ put i v (λ x. get_or l x (d x)) x
    go x (yes q) = rw (q, put-hit i v (λ x. get_or l x (d x))) (get_or-set_same l i v (d i) h)
    go x (no q) = rw (put-miss i v (λ x. get_or l x (d x)) x q) (get_or-set_other l i x v (d x) q)
