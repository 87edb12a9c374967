-- The search for a part by its halves. Assumes nothing.
use Prim.Native.Nat.{ℕ}
use mathlib.Core.Path.{◌≡◌}
use mathlib.Core.List.{List}
use lib.Dec.{T, eqb, eqb→eq, eqb_refl}
use Rattle.script_terms.proofs.Tests.{both, and}
use Rattle.script_parts.specs.Pairs.{left, right, key_of, key_in, fitting}

pub fitting-is : (w : List ℕ) (a b k : ℕ) → T (fitting w a b k) → (left w k ≡ a) × (right w k ≡ b)
unfolding fitting
fitting-is w a b k t = let p = both (eqb (left w k) a) (eqb (right w k) b) t in (eqb→eq (left w k) a p.0, eqb→eq (right w k) b p.1)

pub fitting-of : (w : List ℕ) (a b k : ℕ) → left w k ≡ a → right w k ≡ b → T (fitting w a b k)
unfolding fitting
fitting-of w a b k e f = and (eqb (left w k) a) (eqb (right w k) b) (rw e (eqb_refl a)) (rw f (eqb_refl b))

pub key-same : (w : List ℕ) (a b k : ℕ) → T (fitting w a b k) → key_in w k ≡ key_of a b
unfolding key_in
key-same w a b k t = let e = fitting-is w a b k t in rw (e.0, e.1)
