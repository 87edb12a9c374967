-- The search for a symbol by its name. Assumes nothing.
use Prim.Native.Nat.{ℕ, ◌+◌}
use mathlib.Core.Path.{◌≡◌, ap}
use mathlib.Core.List.{List}
use lib.Dec.{T}
use lib.ListN.{get_or}
use lib.Seq.{slice}
use Rattle.script_shelf.specs.Shelf.{sum}
use Rattle.script_names.specs.Names.{key_in, fitting}
use Rattle.script_meaning.proofs.Matching.{bytes_one}

pub fitting-is : (s w : List ℕ) (from to k : ℕ) → T (fitting s w from to k) → slice (get_or w (0 + k) 0) (get_or w (1001 + k) 0) s ≡ slice from to s
unfolding fitting
fitting-is s w from to k t = bytes_one _ _ t

pub key-same : (s w : List ℕ) (from to k : ℕ) → T (fitting s w from to k) → key_in s w k ≡ sum (slice from to s)
unfolding key_in
key-same s w from to k t = ap sum (fitting-is s w from to k t)
