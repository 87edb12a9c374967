-- Two runs of bytes compared. Assumes nothing.
use Prim.Native.Nat.{ℕ, zero, suc, ◌+◌, ◌-◌, ◌≤◌}
use native.Mathlib.Omega.{arith}
use mathlib.Core.Path.{◌≡◌, refl, sym, ◌∙◌, ap}
use mathlib.Core.Bool.{Bool, true, ◌&&◌}
use Rattle.std.specs.Cmp.Lexicographic.{pointwise}
use mathlib.Core.List.{List, [], ◌∷◌}
use lib.Dec.{T, eqb, eqb→eq}
use lib.ListN.{take, drop}
use lib.Seq.{slice, take-nil}
use Rattle.script_terms.proofs.Tests.{both, eqb_yes}
use Rattle.script_meaning.specs.Tokens.{same_bytes}

pub bytes_one : (a b : List ℕ) → T (same_bytes a b) → a ≡ b
bytes_one [] [] t = refl
bytes_one [] (y ∷ b) t = absurd t
bytes_one (x ∷ a) [] t = absurd t
bytes_one (x ∷ a) (y ∷ b) t =
    let p = both (eqb x y) (same_bytes a b) t in
    let e : x ≡ y = eqb→eq x y p.0 in
    let f : a ≡ b = bytes_one a b p.1 in
    cc

pub bytes-self : (a : List ℕ) → same_bytes a a ≡ true
bytes-self [] = refl
bytes-self (x ∷ a) = rw (eqb_yes {m = x} {n = x} refl) (bytes-self a)

-- Bytes compared by `==` are compared as the definition compares them.
pub same-is : (a b : List ℕ) → pointwise eqb a b ≡ same_bytes a b
same-is [] [] = refl
same-is [] (y ∷ b) = refl
same-is (x ∷ a) [] = refl
same-is (x ∷ a) (y ∷ b) = ap (λ z. eqb x y && z) (same-is a b)

-- The part of a list between two places, as code takes it.
pub part-is : {a b : ℕ} (s : List ℕ) → a ≤ b → take (b - a) (drop a s) ≡ slice a b s
part-is {a} {b} s h = let z : a + (b - a) ≡ b = omega arith in sym (middle a (b - a) s) ∙ ap (λ n. drop a (take n s)) z
  where
    middle : (f n : ℕ) (s : List ℕ) → drop f (take (f + n) s) ≡ take n (drop f s)
    middle zero n s = ap (λ k. take k s) (let e : 0 + n ≡ n = omega arith in e)
    middle (suc f) n [] = ap (drop (suc f)) (take-nil (suc f + n)) ∙ sym (take-nil n)
    middle (suc f) n (x ∷ s) = ap (λ k. drop (suc f) (take k (x ∷ s))) (let e : suc f + n ≡ suc (f + n) = omega arith in e) ∙ middle f n s

-- Two parts of a script compared by `==`.
pub parts-same : {a b c d : ℕ} (s : List ℕ) {r : Bool} → a ≤ b → c ≤ d → r ≡ pointwise eqb (take (b - a) (drop a s)) (take (d - c) (drop c s)) → r ≡ same_bytes (slice a b s) (slice c d s)
parts-same {a} {b} {c} {d} s g h e = e ∙ same-is (take (b - a) (drop a s)) (take (d - c) (drop c s)) ∙ rw (part-is s g, part-is s h)

-- The same, of one part.
pub part-same : {c d : ℕ} (l s : List ℕ) {r : Bool} → c ≤ d → r ≡ pointwise eqb l (take (d - c) (drop c s)) → r ≡ same_bytes l (slice c d s)
part-same {c} {d} l s h e = e ∙ same-is l (take (d - c) (drop c s)) ∙ rw (part-is s h)
