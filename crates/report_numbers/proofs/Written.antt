-- Writing numbers by their places: a front and the numbers laid behind it one by one are the field, whatever region they stand in.
-- Assumes nothing.
use Prim.Native.Nat.{ℕ, ◌+◌, ◌*◌, ◌≤◌}
use native.Mathlib.Omega.{arith}
use native.Mathlib.Numerals.{add-one}
use mathlib.Core.Path.{◌≡◌, refl, sym, ◌∙◌, ap}
use mathlib.Core.List.{List, [], ◌∷◌, ◌++◌}
use lib.ListN.{length}
use Rattle.table.specs.Map.{list_of, list_in, gather}
use Rattle.table.proofs.Frame.{length-gather}
use Rattle.report.specs.Report.{two, numbers, front, field, laid}
use Rattle.report.proofs.Bytes.{length-numbers, numbers-append}
use Rattle.report.proofs.Laid.{laid_then}

pub length-list : (f : ℕ → ℕ) (n : ℕ) → length (numbers (gather f n)) ≡ 2 * n
length-list f n = length-numbers (gather f n) ∙ ap (λ (k : ℕ). 2 * k) (length-gather f n)

pub list-laid : (f : ℕ → ℕ) (at i : ℕ) (room x y : List ℕ) → at + 2 * i ≤ length room
    → x ≡ laid at (numbers (gather f i)) room → y ≡ laid (at + 2 * i) (two (f i)) x
    → y ≡ laid at (numbers (gather f (i + 1))) room
unfolding numbers two
list-laid f at i room x y fits h k =
    let n : length (numbers (gather f i)) ≡ 2 * i = length-list f i in
    k
    ∙ laid_then at (at + 2 * i) (numbers (gather f i)) (two (f i)) room x (omega arith) (omega arith) h
    ∙ ap (λ (bs : List ℕ). laid at bs room) (sym (rw add-one (numbers-append (gather f i) (f i ∷ []))))

pub field-laid : (kind : ℕ) (f : ℕ → ℕ) (at n : ℕ) (room x y : List ℕ) → at + 3 + 2 * n ≤ length room
    → x ≡ laid at (front kind (2 * n)) room → y ≡ laid (at + 3) (numbers (gather f n)) x
    → y ≡ laid at (field kind (numbers (gather f n))) room
unfolding field front two
field-laid kind f at n room x y fits h k =
    k
    ∙ laid_then at (at + 3) (front kind (2 * n)) (numbers (gather f n)) room x (omega arith) refl h
    ∙ ap (λ (m : ℕ). laid at (front kind m ++ numbers (gather f n)) room) (sym (length-list f n))

-- The same with a number before those of the list.
pub breach-laid : (at k n : ℕ) (work room x y z : List ℕ) → at + 5 + 2 * n ≤ length room
    → x ≡ laid at (front 134 (2 + 2 * n)) room → y ≡ laid (at + 3) (two k) x → z ≡ laid (at + 5) (numbers (list_in n work)) y
    → z ≡ laid at (field 134 (numbers (k ∷ list_in n work))) room
unfolding field front two numbers
breach-laid at k n work room x y z fits h i j =
    let m : length (numbers (k ∷ list_in n work)) ≡ 2 + 2 * n = omega (arith, length-list (list_of work) n) in
    j
    ∙ laid_then at (at + 5) (front 134 (2 + 2 * n) ++ two k) (numbers (list_in n work)) room y (omega arith) (omega arith) (i ∙ laid_then at (at + 3) (front 134 (2 + 2 * n)) (two k) room x (omega arith) refl h)
    ∙ ap (λ (s : ℕ). laid at (front 134 s ++ numbers (k ∷ list_in n work)) room) (sym m)
