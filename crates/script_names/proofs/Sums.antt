-- The key of a name, summed byte by byte. Assumes nothing.
use Prim.Native.Nat.{ℕ, suc, ◌+◌, ◌-◌, ◌*◌, ◌%◌, ◌≤◌, ◌<◌}
use native.Mathlib.Omega.{arith}
use mathlib.Core.Path.{◌≡◌, sym, ◌∙◌, ap, subst}
use mathlib.Core.List.{List, ◌∷◌}
use lib.ListN.{length, get_or}
use lib.Seq.{slice, slice_empty, slice-cons}
use Rattle.script_shelf.specs.Shelf.{sum}

-- While a key is summed, from the last byte.
pub record Summing (s : List ℕ) (from to i k : ℕ) : Type 0 where
  pub low : from ≤ i
  pub high : i ≤ to
  pub small : k < 509
  pub is : k ≡ sum (slice i to s)

pub sum-start : (s : List ℕ) {from to : ℕ} → from ≤ to → Summing s from to to 0
sum-start s {from} {to} h = record { low = h; high = omega arith; small = omega arith; is = rw (slice_empty to s) }

pub sum-on : {s : List ℕ} {from to i k x : ℕ} → to ≤ length s → from < i → Summing s from to i k → x ≡ get_or s (i - 1) 0 → Summing s from to (i - 1) ((x + 31 * k) % 509)
sum-on {s} {from} {to} {i} {k} {x} u h S e =
    let z : suc (i - 1) ≡ i = omega arith in
    let q : slice (i - 1) to s ≡ x ∷ slice i to s = slice-cons (i - 1) to s 0 (omega (arith, S.high)) u ∙ ap (λ n. get_or s (i - 1) 0 ∷ slice n to s) z ∙ ap (λ y. y ∷ slice i to s) (sym e) in
    record { low = omega arith; high = omega (arith, S.high); small = omega arith; is = ap (λ y. (x + 31 * y) % 509) S.is ∙ sym (ap sum q) }

pub sum-end : {s : List ℕ} {from to i k : ℕ} → i ≤ from → Summing s from to i k → (k ≡ sum (slice from to s)) × (k < 509)
sum-end {s} {from} {to} {i} {k} h S = let z : i ≡ from = omega (arith, S.low) in (subst (λ i. k ≡ sum (slice i to s)) z S.is, S.small)
