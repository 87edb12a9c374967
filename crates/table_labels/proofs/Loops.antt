-- What the library's `fill` leaves: every number is v.
-- Assumes nothing.
use Rattle.std.proofs.Common.{◌≡◌, ℕ, List, replicate, arith}
use Rattle.std.proofs.lemmas.List.{get_or-replicate, length-replicate}
use Rattle.table_labels.specs.Parts.{Fills}

pub fills : {l : List ℕ} (n v : ℕ) → (((y : ℕ) → y ≡ v → y ≡ v) → l ≡ replicate n v) → Fills l v
fills {l} n v f = let e : l ≡ replicate n v = f (λ y q. q) in rw e (λ i h. get_or-replicate n i v 0 (omega (arith, h, length-replicate n v)))
