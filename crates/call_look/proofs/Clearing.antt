-- A table whose first 32,768 numbers became zero is cleared; and a table that was written among them alone has the same rest.
-- Assumes nothing.
use Prim.Native.Nat.{ℕ, zero, suc, ◌≤◌}
use native.Mathlib.Omega.{arith}
use mathlib.Core.Path.{◌≡◌, refl, sym, subst, ◌∙◌, ap₂}
use mathlib.Core.Bool.{Bool, true, false}
use mathlib.Core.Logic.{inr}
use mathlib.Core.List.{List, [], ◌∷◌, ◌++◌}
use lib.ListN.{length, get_or, take, drop, length-append, length-drop, get_or-append}
use lib.Seq.{drop_at, length-take-le}
use Rattle.meaning.specs.Limits.{named_numbers}
use Rattle.table.specs.Map.{Within}
use Rattle.table.specs.Places.{Large, named_part}
use Rattle.table_labels.specs.Parts.{Fills}
use Rattle.call_look.specs.Clear.{Cleared, Returned, kept, cleared}

pub cleared-part : (w p : List ℕ) → Large w → length p ≡ length (take named_numbers w) → Fills p 0 → Cleared w (p ++ drop named_numbers w)
cleared-part w p h e z =
    let n : length p ≡ named_numbers = e ∙ length-take-le named_numbers w h in
    record {
      size = length-append p (drop named_numbers w) ∙ simp length-drop (omega arith);
      zero = λ i l. get_or-append p (drop named_numbers w) 0 i (omega arith) ∙ z i (omega arith);
      rest = drop_at p (drop named_numbers w) named_numbers n;
    }

-- Two lists that agree from k on are one from k on.
pub drop-same : (k : ℕ) (l l' : List ℕ) → length l' ≡ length l → ((i : ℕ) → k ≤ i → get_or l' i 0 ≡ get_or l i 0) → drop k l' ≡ drop k l
drop-same k [] [] e h = refl
drop-same k [] (y ∷ ys) e h = absurd (omega arith)
drop-same k (x ∷ xs) [] e h = absurd (omega arith)
drop-same zero (x ∷ xs) (y ∷ ys) e h = ap₂ ◌∷◌ (h 0 (omega arith)) (drop-same zero xs ys (omega arith) (λ i l. h (suc i) (omega arith)))
drop-same (suc k) (x ∷ xs) (y ∷ ys) e h = drop-same k xs ys (omega arith) (λ i l. h (suc i) (omega arith))

pub cleared-after : {w w' w'' : List ℕ} → Within named_part w w' → Cleared w' w'' → Cleared w w''
cleared-after {w} {w'} f c = record {
  size = c.size ∙ f.size;
  zero = c.zero;
  rest = c.rest ∙ drop-same named_numbers w w' f.size (λ i l. f.same i (inr l));
}

-- What is given back, by whether the lengths were right.
pub returned-cleared : {b : Bool} {w w' : List ℕ} → b ≡ true → Cleared w w' → Returned b w w'
returned-cleared {w = w} {w' = w'} e x = subst (λ (b : Bool). Returned b w w') (sym e) (cleared x)

pub returned-kept : {b : Bool} {w : List ℕ} → b ≡ false → Returned b w w
returned-kept {w = w} e = subst (λ (b : Bool). Returned b w w) (sym e) kept

pub returned-true : {b : Bool} {w w' : List ℕ} → Returned b w w' → b ≡ true → Cleared w w'
returned-true kept e = let z : ◌≡◌ {A = ℕ} 0 1 = cc in absurd (omega arith)
returned-true (cleared x) e = x

pub returned-false : {b : Bool} {w w' : List ℕ} → Returned b w w' → b ≡ false → w' ≡ w
returned-false kept e = refl
returned-false (cleared x) e = let z : ◌≡◌ {A = ℕ} 0 1 = cc in absurd (omega arith)
